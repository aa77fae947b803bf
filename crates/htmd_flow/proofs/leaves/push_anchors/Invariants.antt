-- The anchors so far.
use Rattle.std.proofs.Common.{◌≡◌, drop, map, string_bytes}
use Rattle.htmd_flow.specs.ParagraphViews.{writing_in}
use Rattle.htmd_flow.specs.Paragraphs.{fed_all}
use Rattle.htmd_flow.specs.Parts.{place}
use Rattle.htmd_flow.proofs.leaves.push_anchors.Given as goal

abbrev pub invariant-loop-id : goal.invariant-loop-id
invariant-loop-id l =
    fed_all (writing_in l.out) (map place (map string_bytes (drop l.id-index l.anchors)))
    ≡ fed_all (writing_in l.fn.out) (map place (map string_bytes l.anchors))
