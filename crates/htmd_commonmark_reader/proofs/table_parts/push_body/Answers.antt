-- One more row, and all.
use Rattle.std.proofs.Common.{◌∙◌, ap, sym, ◌++◌, ◌∷◌, []}
use Rattle.std.proofs.lemmas.Result.{on_ok_weaker}
use Rattle.htmd_commonmark_reading.specs.Lists.{cell_inlines}
use Rattle.htmd_commonmark_reader.specs.References.{references_of}
use Rattle.htmd_commonmark_reader.specs.Rows.{strings}
use Rattle.htmd_commonmark_reader.proofs.TablePartsLemmas.{rows-turn, body-end}
use Rattle.htmd_commonmark_reader.proofs.table_parts.push_body.Goals as goal
use Rattle.htmd_parts.specs.PartViews.{all_parts_of}
use Rattle.htmd_parts.specs.Parts.{ended, body_end, row_parts, cell, cell_end}

pub loop-row-preserved : goal.loop-row-preserved
loop-row-preserved c =
    let refs = references_of c.args.references.now in
    rows-turn refs c.args.alignments.now c.args.rows.now c.loop-row.row-index (all_parts_of c.loop-row.parts.items)
    c.row-item.result (all_parts_of c.push_row.new.parts.items) (ended body_end ∷ []) _ c.loop-row-test.true
    c.row-item.is
    (c.in_ok-push_row.ensures ∙ ap (λ cs. all_parts_of c.loop-row.parts.items
    ++ row_parts cell cell_end c.args.alignments.now (cell_inlines refs (strings cs)) []) c.deref.ensures.value)
    c.loop-row.invariant

pub returns : goal.returns
returns c =
    on_ok_weaker c.push_part-2.result
    (λ e. body-end (references_of c.args.references.now) c.args.alignments.now c.args.rows.now c.loop-row.row-index
    (all_parts_of c.loop-row.parts.items) (all_parts_of c.push_part-2.new.parts.items)
    (all_parts_of c.args.parts.now.items)
    (sym c.is_empty.ensures ∙ c.if-is_empty.false) c.loop-row-test.false e c.loop-row.invariant)
    c.push_part-2.ensures
