-- Part after part.
use Rattle.std.proofs.lemmas.Result.{on_ok_weaker}
use Rattle.htmd_commonmark_reading.specs.Lists.{cell_inlines, row_inlines}
use Rattle.htmd_commonmark_reader.specs.References.{references_of}
use Rattle.htmd_commonmark_reader.specs.Rows.{strings}
use Rattle.htmd_commonmark_reader.proofs.TablePartsLemmas.{texts_of, table-whole}
use Rattle.htmd_commonmark_reader.proofs.table_parts.push_table.Goals as goal
use Rattle.htmd_parts.specs.PartViews.{all_parts_of}

pub returns : goal.returns
returns c =
    let refs = references_of c.args.references.now in
    on_ok_weaker c.push_part-4.result
    (table-whole c.args.alignments.now (cell_inlines refs (strings c.args.header.now))
    (row_inlines refs (texts_of c.args.rows.now)) (all_parts_of c.args.parts.now.items)
    (all_parts_of c.push_part.new.parts.items) (all_parts_of c.push_part-2.new.parts.items)
    (all_parts_of c.push_row.new.parts.items) (all_parts_of c.push_part-3.new.parts.items)
    (all_parts_of c.push_body.new.parts.items) (all_parts_of c.push_part-4.new.parts.items) c.in_ok-push_part.ensures
    c.in_ok-push_part-2.ensures c.in_ok-push_row.ensures c.in_ok-push_part-3.ensures c.in_ok-push_body.ensures)
    c.push_part-4.ensures
