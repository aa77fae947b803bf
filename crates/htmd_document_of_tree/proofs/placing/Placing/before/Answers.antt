use Rattle.std.proofs.Common.{◌≡◌, ◌∙◌, ◌≢◌, ◌==◌, [], false, ap, sym, map, length, arith, rules}
use Rattle.std.proofs.lemmas.Bool.Decides.{nat_tests}
use Rattle.std.proofs.lemmas.Result.{on_ok_weaker}
use Rattle.std.specs.Vec.{vec_len}
use Rattle.htmd_shown.specs.SimpleTrees as simple
use Rattle.htmd_shown.specs.SimpleViews.{simple_of}
use Rattle.htmd_document_of_tree.specs.Anchors as spec
use Rattle.htmd_document_of_tree.specs.TargetViews.{ids_here}
use Rattle.htmd_document_of_tree.proofs.AnchorsLemmas.{after-none, after-some, no-items, preceded-embedded, preceded-other, some-items}
use Rattle.htmd_document_of_tree.proofs.placing.Placing.before.Goals as goal

pub returns-then-is_embedded : goal.returns-then-is_embedded
returns-then-is_embedded c =
    let same = preceded-embedded (ids_here c.args.self.now) (simple_of c.args.tree.now)
    (sym c.is_embedded.ensures ∙ c.if-is_embedded.true) in
    record {
      root = c.embed.ensures.root;
      seen = c.embed.ensures.seen;
      targets = c.embed.ensures.targets;
      tree = on_ok_weaker c.embed.result (λ e. e ∙ same) c.embed.ensures.tree;
    }

pub returns-then-is_empty : goal.returns-then-is_empty
returns-then-is_empty c =
    let ids = ids_here c.args.self.now in
    let len : vec_len c.in_ok-anchors.anchors ≡ length c.in_ok-anchors.anchors.items = search rules in
    let empty : vec_len c.in_ok-anchors.anchors
    ≡ 0 = grind (arith, nat_tests, c.is_empty.ensures, c.if-is_empty.true) in
    let none : map simple.anchor ids ≡ [] = sym c.in_ok-anchors.ensures.anchors
    ∙ ap (λ xs. map simple_of xs) (no-items c.in_ok-anchors.anchors.items (sym len ∙ empty)) in
    record {
      root = c.in_ok-anchors.ensures.root;
      seen = c.in_ok-anchors.ensures.seen;
      targets = c.in_ok-anchors.ensures.targets;
      tree = after-none ids (simple_of c.args.tree.now) none
          ∙ preceded-other ids (simple_of c.args.tree.now) (sym c.is_embedded.ensures ∙ c.if-is_embedded.false);
    }

pub returns : goal.returns
returns c =
    let ids = ids_here c.args.self.now in
    let tree = simple_of c.args.tree.now in
    let items = c.in_ok-anchors.anchors.items in
    let len : vec_len c.in_ok-anchors.anchors ≡ length items = search rules in
    let filled : (vec_len c.in_ok-anchors.anchors == 0) ≡ false = sym c.is_empty.ensures ∙ c.if-is_empty.false in
    let ne : map simple.anchor ids ≢ [] = some-items simple_of items (map simple.anchor ids)
    c.in_ok-anchors.ensures.anchors (ap (λ n. n == 0) (sym len) ∙ filled) in
    record {
      root = c.in_ok-anchors.ensures.root;
      seen = c.in_ok-anchors.ensures.seen;
      targets = on_ok_weaker c.put_before.result (λ e. c.in_ok-anchors.ensures.targets) c.put_before.ensures;
      tree = on_ok_weaker c.put_before.result
          (λ e. e ∙ (ap (λ ts. spec.put_before (simple.simples_of ts) tree) c.in_ok-anchors.ensures.anchors
          ∙ (after-some ids tree ne
          ∙ preceded-other ids tree (sym c.is_embedded.ensures ∙ c.if-is_embedded.false)))) c.put_before.ensures;
    }
