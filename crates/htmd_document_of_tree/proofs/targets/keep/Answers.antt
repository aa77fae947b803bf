use Rattle.std.proofs.Common.{◌+◌, ◌<◌, ◌≤◌, length, map, drop, sym, ap, ◌∙◌}
use Rattle.std.proofs.lemmas.List.{length-map}
use Rattle.htmd_document_of_tree.specs.TargetViews.{stays, target_of}
use Rattle.htmd_document_of_tree.proofs.TargetsLemmas.{all-turned, turning}
use Rattle.htmd_document_of_tree.proofs.WalksLemmas.{gone, plain-more, plain-end}
use Rattle.htmd_document_of_tree.proofs.targets.keep.Goals as goal

pub loop-is_first-preserved : goal.loop-is_first-preserved
loop-is_first-preserved c =
    let h : c.loop-is_first.is_first-index < length c.args.firsts.now = c.loop-is_first-test.true in
    let g = turning (stays c.args.leadings) in
    ap (λ s. gone g s (drop (c.loop-is_first.is_first-index + 1) c.args.firsts.now)) c.in_ok-keep_next.ensures
    ∙ plain-more g c.args.firsts.now c.loop-is_first.is_first-index _ _ _ h c.loop-is_first.invariant

pub returns : goal.returns
returns c =
    let h : length c.args.firsts.now ≤ c.loop-is_first.is_first-index = c.loop-is_first-test.false in
    let g = turning (stays c.args.leadings) in
    plain-end g c.args.firsts.now c.loop-is_first.is_first-index _ _ h c.loop-is_first.invariant
    ∙ all-turned (stays c.args.leadings) c.args.firsts.now (map target_of c.args.targets.now.items)
    (c.requires ∙ sym (length-map c.args.targets.now.items target_of))
