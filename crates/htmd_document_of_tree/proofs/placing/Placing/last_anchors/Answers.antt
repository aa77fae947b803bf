use Rattle.std.proofs.Common.{◌≡◌, ◌∙◌, ◌++◌, [], ap, sym, map, length, rules}
use Rattle.std.proofs.lemmas.List.{append-nil}
use Rattle.std.specs.VecDeque.{deque_len}
use Rattle.htmd_shown.specs.SimpleTrees as simple
use Rattle.htmd_shown.specs.SimpleViews.{simple_of}
use Rattle.htmd_document_of_tree.specs.Anchors.{values_of}
use Rattle.htmd_document_of_tree.specs.TargetViews.{target_of}
use Rattle.htmd_document_of_tree.proofs.AnchorsLemmas.{no-items}
use Rattle.htmd_document_of_tree.proofs.ShapesLemmas.{anchor-made}
use Rattle.htmd_document_of_tree.proofs.WalksLemmas.{pushed}
use Rattle.htmd_document_of_tree.proofs.placing.Placing.last_anchors.Goals as goal

pub loop-target-preserved : goal.loop-target-preserved
loop-target-preserved c =
    let before = map simple_of c.loop-target.anchors.items in
    let i = c.loop-target.invariant in
    let after = map simple.anchor (values_of (map target_of c.pop_front.new.self.items)) in
    record {
      root = i.root;
      anchors = ap (λ xs. map simple_of xs ++ after) c.in_ok-push.ensures.items
          ∙ (pushed simple_of c.loop-target.anchors.items _ _ after (anchor-made c.in-Some.target.value)
          ∙ (ap (λ ts. before ++ map simple.anchor (values_of (map target_of ts))) (sym c.in-Some.ensures.items)
          ∙ i.anchors));
    }

pub returns : goal.returns
returns c =
    let before = map simple_of c.loop-target.anchors.items in
    let i = c.loop-target.invariant in
    let len : deque_len c.loop-target.self.targets ≡ length c.loop-target.self.targets.items = search rules in
    let none : c.loop-target.self.targets.items ≡ [] =
    no-items c.loop-target.self.targets.items (sym len ∙ c.in_default.ensures.cases.0) in
    record {
      root = i.root;
      anchors = sym (append-nil before)
          ∙ (ap (λ ts. before ++ map simple.anchor (values_of (map target_of ts))) (sym none) ∙ i.anchors);
    }
