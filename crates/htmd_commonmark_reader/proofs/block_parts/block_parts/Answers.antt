-- One more block, and all.
use Rattle.std.proofs.Common.{◌∙◌, ap}
use Rattle.htmd_commonmark_reader.specs.ClosedParts.{parts_of}
use Rattle.htmd_commonmark_reader.specs.ItemMarks.{survey}
use Rattle.htmd_commonmark_reader.specs.Places.{place_of}
use Rattle.htmd_commonmark_reader.specs.References.{references_of}
use Rattle.htmd_commonmark_reader.proofs.PlacesLemmas.{run-turn, run-end}
use Rattle.htmd_commonmark_reader.proofs.block_parts.block_parts.Goals as goal
use Rattle.htmd_parts.specs.PartViews.{all_parts_of}

pub loop-block-preserved : goal.loop-block-preserved
loop-block-preserved c =
    run-turn (references_of c.args.references.now) (place_of c.loop-block.place) (place_of c.push_block.new.self)
    (all_parts_of c.loop-block.parts.items) (all_parts_of c.push_block.new.parts.items) _ c.loop-block.blocks.items
    c.pop.new.self.items c.in-Some.block c.in-Some.ensures.items c.in_ok-push_block.ensures.place
    c.in_ok-push_block.ensures.parts c.loop-block.invariant

pub returns : goal.returns
returns c =
    run-end (references_of c.args.references.now) c.args.blocks.items c.in_ok-marks.marks.items
    (c.in_ok-marks.ensures ∙ ap (λ l. (survey (parts_of l)).marks) c.deref.ensures.value) c.new.result.items
    c.reverse.new.self.items c.loop-block.blocks.items c.pop.new.self.items c.new-parts.result.items _
    (place_of c.loop-block.place) (all_parts_of c.loop-block.parts.items) c.new.ensures.items c.reverse.ensures.items
    c.new-parts.ensures.items c.in_default.ensures.cases.0 c.in_default.ensures.rest c.in_default.ensures.items
    c.loop-block.invariant
