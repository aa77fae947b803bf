use Rattle.std.proofs.Common.{◌<◌, ◌≤◌, ◌||◌, ap, length, map}
use Rattle.htmd_shown.specs.Roles.{is_among}
use Rattle.htmd_document_of_tree.specs.TargetViews.{target_of}
use Rattle.htmd_document_of_tree.specs.Targets.{ids_among}
use Rattle.htmd_document_of_tree.proofs.TargetsLemmas.{holds-none, ids-end, ids-turn}
use Rattle.htmd_document_of_tree.proofs.targets.ids_of.Goals as goal

pub loop-target-init : goal.loop-target-init
loop-target-init c = λ s.
    ap (λ b. b || is_among (ids_among (map target_of c.args.found.now)) s)
    (holds-none c.new-ids.result s c.new-ids.ensures.empty)

pub loop-target-preserved : goal.loop-target-preserved
loop-target-preserved c = λ s.
    let h : c.loop-target.target-index < length c.args.found.now = c.loop-target-test.true in
    ids-turn c.args.found.now c.loop-target.target-index c.target-item.result _ _ _ s h c.target-item.is
    (c.in_ok-note_id.ensures s)
    (c.loop-target.invariant s)

pub returns : goal.returns
returns c = λ s.
    let h : length c.args.found.now ≤ c.loop-target.target-index = c.loop-target-test.false in
    ids-end c.args.found.now c.loop-target.target-index _ _ s h (c.loop-target.invariant s)
