use Rattle.std.proofs.Common.{◌∙◌, ◌++◌, ap, sym, refl, map, string_bytes}
use Rattle.std.proofs.lemmas.List.{append-nil}
use Rattle.htmd_document_of_tree.specs.TargetViews.{ids_here, target_of}
use Rattle.htmd_document_of_tree.proofs.AnchorsLemmas.{none-past}
use Rattle.htmd_document_of_tree.proofs.WalksLemmas.{pushed}
use Rattle.htmd_document_of_tree.proofs.placing.Placing.push_ids.Goals as goal

pub loop-id-preserved : goal.loop-id-preserved
loop-id-preserved c =
    let before = map string_bytes c.loop-id.ids.items in
    let i = c.loop-id.invariant in
    record {
      root = c.in-Some.ensures.root ∙ i.root;
      seen = c.in-Some.ensures.seen ∙ i.seen;
      targets = c.in-Some.ensures.targets ∙ i.targets;
      ids = ap (λ xs. map string_bytes xs ++ ids_here c.next_id.new.self) c.in_ok-push.ensures.items
          ∙ (pushed string_bytes c.loop-id.ids.items c.in-Some.id _ (ids_here c.next_id.new.self) refl
          ∙ (ap (λ vs. before ++ vs) (sym c.in-Some.ensures.ids) ∙ i.ids));
    }

pub returns : goal.returns
returns c =
    let before = map string_bytes c.loop-id.ids.items in
    let i = c.loop-id.invariant in
    record {
      root = c.in_default.ensures.root ∙ i.root;
      seen = c.in_default.ensures.seen ∙ i.seen;
      targets = ap (λ ts. map target_of ts) c.in_default.ensures.shorter
          ∙ (none-past c.loop-id.self.seen (map target_of c.loop-id.self.targets.items) c.in_default.ensures.ids
          ∙ i.targets);
      ids = sym (append-nil before) ∙ (ap (λ vs. before ++ vs) (sym c.in_default.ensures.ids) ∙ i.ids);
    }
