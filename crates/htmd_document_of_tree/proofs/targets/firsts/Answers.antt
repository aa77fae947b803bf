use Rattle.std.proofs.Common.{◌≡◌, ◌+◌, ◌<◌, ◌≤◌, ◌&&◌, not, [], ◌++◌, length, map, take, drop, ap, ◌∙◌}
use Rattle.htmd_shown.specs.Roles.{is_among}
use Rattle.htmd_document_of_tree.specs.TargetViews.{firsts_of, holds, target_of}
use Rattle.htmd_document_of_tree.specs.Targets.{ids_among, is_first}
use Rattle.htmd_document_of_tree.proofs.TargetsLemmas.{firsts-end, firsts-turn, holds-none, if_named, known-turn, known_after}
use Rattle.htmd_document_of_tree.proofs.targets.firsts.Goals as goal

pub loop-target-init : goal.loop-target-init
loop-target-init c = record {
  firsts = ap (λ xs. xs ++ firsts_of (ids_among (map target_of c.args.found.now)) [] (map target_of c.args.found.now))
      c.in_ok-firsts.ensures.items;
  known = λ s. holds-none c.new-known.result s c.new-known.ensures.empty;
}

pub loop-target-preserved : goal.loop-target-preserved
loop-target-preserved c =
    let h : c.loop-target.target-index < length c.args.found.now = c.loop-target-test.true in
    let all = map target_of c.args.found.now in
    let ids = ids_among all in
    let known = known_after ids [] (take c.loop-target.target-index all) in
    let v = target_of c.target-item.result in
    let is : c.in_ok-is_first.field-0 ≡ is_first ids known v = c.in_ok-is_first.ensures.first
    ∙ (ap (λ a. not a && not (v.is_name && holds c.in_ok-ids.ids v.value)) (c.loop-target.invariant.known v.value)
    ∙ ap (λ a. not (is_among known v.value) && not a)
    (if_named c.args.found.now c.loop-target.target-index c.target-item.result
    (holds c.in_ok-ids.ids v.value) (is_among ids v.value) h c.target-item.is
    (λ named. c.in_ok-ids.ensures named v.value))) in
    record {
      firsts = ap (λ xs. xs ++ firsts_of ids (known_after ids [] (take (c.loop-target.target-index + 1) all))
          (drop (c.loop-target.target-index + 1) all)) c.in_ok-push.ensures.items
          ∙ firsts-turn ids c.args.found.now c.loop-target.target-index c.target-item.result _ _ _ h c.target-item.is
          is c.loop-target.invariant.firsts;
      known = λ s. known-turn ids c.args.found.now c.loop-target.target-index c.target-item.result _ _ _ s h
          c.target-item.is is
          (c.in_ok-is_first.ensures.known s) (c.loop-target.invariant.known s);
    }

pub returns : goal.returns
returns c =
    let h : length c.args.found.now ≤ c.loop-target.target-index = c.loop-target-test.false in
    firsts-end _ _ c.args.found.now c.loop-target.target-index _ _ h c.loop-target.invariant.firsts
