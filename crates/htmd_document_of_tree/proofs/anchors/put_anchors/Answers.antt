use Rattle.std.proofs.Common.{◌≡◌, ◌∙◌, [], ap, sym, map, length, arith, rules}
use Rattle.std.proofs.lemmas.Bool.Decides.{nat_tests}
use Rattle.std.proofs.lemmas.Result.{on_ok_weaker}
use Rattle.std.specs.VecDeque.{deque_len}
use Rattle.htmd_shown.specs.SimpleViews.{simples_of}
use Rattle.htmd_document_of_tree.specs.Anchors as spec
use Rattle.htmd_document_of_tree.specs.TargetViews.{target_of}
use Rattle.htmd_document_of_tree.proofs.AnchorsLemmas.{no-items, without-targets}
use Rattle.htmd_document_of_tree.proofs.anchors.put_anchors.Goals as goal

pub returns-then-is_empty : goal.returns-then-is_empty
returns-then-is_empty c =
    let trees = simples_of c.args.trees.now.items in
    let found = c.in_ok-targets.targets in
    let len : deque_len found ≡ length found.items = search rules in
    let empty : deque_len found ≡ 0 = grind (arith, nat_tests, c.is_empty.ensures, c.if-is_empty.true) in
    let none : spec.targets_by c.args.anchors c.args.is_rich trees ≡ [] =
    ap (λ ts. spec.targets_by c.args.anchors c.args.is_rich (simples_of ts)) (sym c.deref.ensures.value)
    ∙ (sym c.in_ok-targets.ensures
    ∙ ap (λ ts. map target_of ts) (no-items found.items (sym len ∙ empty))) in
    sym (ap (λ ts. spec.with_targets (record { seen = 0; targets = ts }) trees) none ∙ without-targets trees)

pub returns : goal.returns
returns c =
    let trees = simples_of c.args.trees.now.items in
    on_ok_weaker c.place.result
    (λ e. e ∙ ap (λ p. spec.with_targets p trees) (c.new.ensures.placing
    ∙ ap (λ ts. record { seen = 0; targets = ts }) (c.in_ok-targets.ensures
    ∙ ap (λ ts. spec.targets_by c.args.anchors c.args.is_rich (simples_of ts)) c.deref.ensures.value)))
    c.place.ensures
