use Rattle.std.proofs.Common.{◌+◌, ◌<◌, ◌≤◌, length, map, sym, ap, ◌∙◌}
use Rattle.htmd_shown.specs.SimpleViews.{simple_of}
use Rattle.std.proofs.lemmas.Result.{IfOk-weaker}
use Rattle.htmd_document_of_tree.proofs.SeenLemmas.{after_seen, all_seen-gone, seen-inside, seen-leaf}
use Rattle.htmd_document_of_tree.proofs.WalksLemmas.{read-item, gone-end}
use Rattle.htmd_document_of_tree.proofs.seen.+seen.Goals as goal

pub all_seen-loop-tree-preserved : goal.all_seen-loop-tree-preserved
all_seen-loop-tree-preserved t c =
    let h : c.loop-tree.tree-index < length c.args.trees.now = c.loop-tree-test.true in
    rw c.in_ok-seen.ensures (read-item after_seen simple_of _ _ _ _ _ h c.tree-item.is c.loop-tree.invariant)

pub all_seen-returns : goal.all_seen-returns
all_seen-returns t c =
    let h : length c.args.trees.now ≤ c.loop-tree.tree-index = c.loop-tree-test.false in
    gone-end after_seen simple_of _ _ _ _ h c.loop-tree.invariant
    ∙ sym (all_seen-gone c.args.seen (map simple_of c.args.trees.now))

pub seen_after-returns-in-Some : goal.seen_after-returns-in-Some
seen_after-returns-in-Some t c =
    let same = seen-leaf c.in-Some.shows (simple_of c.args.tree.now) (sym c.in-Some.ensures) in
    IfOk-weaker c.one_more.result _ _ (λ n e. e ∙ ap (λ k. c.args.seen + k) (sym same)) c.one_more.ensures

pub seen_after-returns-in-None : goal.seen_after-returns-in-None
seen_after-returns-in-None t c =
    let same = seen-inside (simple_of c.args.tree.now) (sym c.in-None.ensures) in
    IfOk-weaker c.seen_inside.result _ _ (λ n e. e ∙ ap (λ k. c.args.seen + k) (sym same)) c.seen_inside.ensures
