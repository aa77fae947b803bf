use Rattle.std.proofs.Common.{◌∙◌, ◌++◌, ap, sym, map}
use Rattle.std.proofs.lemmas.List.{append-nil}
use Rattle.htmd_shown.specs.SimpleTrees as simple
use Rattle.htmd_shown.specs.SimpleViews.{simple_of}
use Rattle.htmd_document_of_tree.specs.TargetViews.{ids_here, target_of}
use Rattle.htmd_document_of_tree.proofs.AnchorsLemmas.{none-past}
use Rattle.htmd_document_of_tree.proofs.ShapesLemmas.{anchor-made}
use Rattle.htmd_document_of_tree.proofs.WalksLemmas.{pushed}
use Rattle.htmd_document_of_tree.proofs.placing.Placing.anchors.Goals as goal

pub loop-id-preserved : goal.loop-id-preserved
loop-id-preserved c =
    let before = map simple_of c.loop-id.anchors.items in
    let i = c.loop-id.invariant in
    record {
      root = c.in-Some.ensures.root ∙ i.root;
      seen = c.in-Some.ensures.seen ∙ i.seen;
      targets = c.in-Some.ensures.targets ∙ i.targets;
      anchors = ap (λ xs. map simple_of xs ++ map simple.anchor
          (ids_here c.next_id.new.self)) c.in_ok-push.ensures.items
          ∙ (pushed simple_of c.loop-id.anchors.items _ _ (map simple.anchor (ids_here c.next_id.new.self))
          (anchor-made c.in-Some.id)
          ∙ (ap (λ vs. before ++ map simple.anchor vs) (sym c.in-Some.ensures.ids) ∙ i.anchors));
    }

pub returns : goal.returns
returns c =
    let before = map simple_of c.loop-id.anchors.items in
    let i = c.loop-id.invariant in
    record {
      root = c.in_default.ensures.root ∙ i.root;
      seen = c.in_default.ensures.seen ∙ i.seen;
      targets = ap (λ ts. map target_of ts) c.in_default.ensures.shorter
          ∙ (none-past c.loop-id.self.seen (map target_of c.loop-id.self.targets.items) c.in_default.ensures.ids
          ∙ i.targets);
      anchors = sym (append-nil before)
          ∙ (ap (λ vs. before ++ map simple.anchor vs) (sym c.in_default.ensures.ids) ∙ i.anchors);
    }
