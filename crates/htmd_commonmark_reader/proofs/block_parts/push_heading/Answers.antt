-- What begins, the inlines and what ends.
use Rattle.std.proofs.lemmas.Result.{on_ok_weaker}
use Rattle.htmd_commonmark_reading.specs.Brackets.{inlines}
use Rattle.htmd_commonmark_reader.specs.References.{references_of}
use Rattle.htmd_commonmark_reader.proofs.TablePartsLemmas.{enclosing}
use Rattle.htmd_commonmark_reader.proofs.block_parts.push_heading.Goals as goal
use Rattle.htmd_parts.specs.PartViews.{all_parts_of}
use Rattle.htmd_parts.specs.Parts.{begun, ended, heading, heading_end}

pub returns : goal.returns
returns c =
    on_ok_weaker c.push_part-2.result
    (enclosing (all_parts_of c.args.parts.now.items) (all_parts_of c.push_part.new.parts.items)
    (all_parts_of c.inlines.new.parts.items) (all_parts_of c.push_part-2.new.parts.items) (begun (heading c.args.level))
    (inlines (references_of c.args.references.now) c.args.text.now) (ended (heading_end c.args.level))
    c.in_ok-push_part.ensures c.in_ok-inlines.ensures)
    c.push_part-2.ensures
