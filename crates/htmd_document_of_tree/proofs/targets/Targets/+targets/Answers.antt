use Rattle.std.proofs.Common.{◌<◌, ◌≤◌, ◌++◌, length, map, refl, sym, ap, ◌∙◌}
use Rattle.std.specs.Option.{unwrap_or}
use Rattle.std.proofs.lemmas.List.{append-nil}
use Rattle.htmd_shown.specs.SimpleTrees.{simples_of}
use Rattle.htmd_shown.specs.SimpleViews.{simple_of}
use Rattle.htmd_document_of_tree.specs.TargetViews.{counts_of, targets_in}
use Rattle.htmd_document_of_tree.specs.Targets.{own_targets, targets_inside, targets_among}
use Rattle.htmd_document_of_tree.proofs.SeenLemmas.{after_seen, all_seen-gone}
use Rattle.htmd_document_of_tree.proofs.TargetsLemmas.{targets-end, targets-turn}
use Rattle.htmd_document_of_tree.proofs.WalksLemmas.{read-item, gone-end}
use Rattle.htmd_document_of_tree.proofs.targets.Targets.+targets.Goals as goal

pub among-loop-tree-init : goal.among-loop-tree-init
among-loop-tree-init t c = record { seen = refl; leadings = refl; found = refl }

pub among-loop-tree-preserved : goal.among-loop-tree-preserved
among-loop-tree-preserved t c =
    let h : c.loop-tree.tree-index < length c.args.trees.now = c.loop-tree-test.true in
    let e = c.in_ok-seen.ensures in
    let k = c.loop-tree.invariant.leadings in
    let v = simple_of c.tree-item.result in
    let counts = counts_of c.args.self.now.leadings in
    let whole = c.args.whole in
    let seen = c.loop-tree.seen in
    record {
      seen = rw e.seen (read-item after_seen simple_of _ _ _ _ _ h c.tree-item.is c.loop-tree.invariant.seen);
      leadings = e.leadings ∙ (c.in_ok-own.ensures.leadings ∙ k);
      found = rw e.seen (targets-turn counts whole seen c.args.trees.now c.loop-tree.tree-index c.tree-item.result
          (targets_in c.loop-tree.self) (targets_in c.own.new.self) _ _ h c.tree-item.is
          (c.in_ok-own.ensures.found ∙ (ap (λ n. targets_in c.loop-tree.self
          ++ own_targets (counts_of c.loop-tree.self.leadings) n v) c.unwrap_or.ensures
          ∙ ap (λ w. targets_in c.loop-tree.self ++ own_targets (counts_of w) (unwrap_or whole seen) v) k))
          (e.found ∙ ap (λ w. targets_in c.own.new.self ++ targets_inside (counts_of w) whole seen v)
          (c.in_ok-own.ensures.leadings ∙ k))
          c.loop-tree.invariant.found);
    }

pub among-returns : goal.among-returns
among-returns t c =
    let h : length c.args.trees.now ≤ c.loop-tree.tree-index = c.loop-tree-test.false in
    let counts = counts_of c.args.self.now.leadings in
    let all = targets_among counts c.args.whole c.args.seen (simples_of (map simple_of c.args.trees.now)) in
    record {
      seen = gone-end after_seen simple_of _ _ _ _ h c.loop-tree.invariant.seen
          ∙ sym (all_seen-gone c.args.seen (map simple_of c.args.trees.now));
      leadings = c.loop-tree.invariant.leadings;
      found = sym (append-nil (targets_in c.loop-tree.self))
          ∙ (sym (ap (λ x. targets_in c.loop-tree.self ++ x)
          (targets-end counts c.args.whole c.loop-tree.seen c.args.trees.now c.loop-tree.tree-index h))
          ∙ c.loop-tree.invariant.found);
    }
