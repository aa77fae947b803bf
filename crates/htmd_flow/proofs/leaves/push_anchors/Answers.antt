-- One more anchor.
use Rattle.std.proofs.Common.{◌∙◌, ◌+◌, sym, ap, drop, map, string_bytes}
use Rattle.htmd_flow.specs.ParagraphViews.{writing_in}
use Rattle.htmd_flow.specs.Paragraphs.{fed, fed_all}
use Rattle.htmd_flow.specs.Parts.{place}
use Rattle.htmd_flow.proofs.ListsLemmas.{map_end}
use Rattle.htmd_flow.proofs.LoopsLemmas.{at_place}
use Rattle.htmd_flow.proofs.leaves.push_anchors.Goals as goal

pub loop-id-preserved : goal.loop-id-preserved
loop-id-preserved c =
    let rest = map place (map string_bytes (drop (c.loop-id.id-index + 1) c.args.anchors.now)) in
    ap (λ w. fed_all w rest) (c.in_ok-anchor.ensures
    ∙ ap (λ s. fed (writing_in c.loop-id.out) (place s)) c.as_str.ensures.value)
    ∙ sym (ap (λ xs. fed_all (writing_in c.loop-id.out) (map place (map string_bytes xs)))
    (at_place c.args.anchors.now c.loop-id.id-index c.id-item.result c.loop-id-test.true c.id-item.is))
    ∙ c.loop-id.invariant

pub returns : goal.returns
returns c =
    sym (ap (λ xs. fed_all (writing_in c.loop-id.out) (map place xs))
    (map_end string_bytes c.args.anchors.now c.loop-id.id-index c.loop-id-test.false))
    ∙ c.loop-id.invariant
