use Rattle.std.proofs.Common.{◌∙◌, ◌++◌, ap, map}
use Rattle.std.proofs.lemmas.List.{with_items_is}
use Rattle.std.proofs.lemmas.Result.{on_ok_weaker}
use Rattle.htmd_shown.specs.SimpleViews.{simple_of, simples_of}
use Rattle.htmd_document_of_tree.specs.Anchors.{apart_if_any}
use Rattle.htmd_document_of_tree.specs.Anchors as spec
use Rattle.htmd_document_of_tree.specs.TargetViews.{placing_of}
use Rattle.htmd_document_of_tree.proofs.AnchorsLemmas.{all-put}
use Rattle.htmd_document_of_tree.proofs.placing.Placing.place.Goals as goal

pub returns : goal.returns
returns c =
    let p = placing_of c.args.self in
    let lent = c.deref_mut.ensures.value in
    let kept = with_items_is c.args.trees.now c.among.new.trees (c.among.auto.trees ∙ c.deref_mut.ensures.len) in
    let last = apart_if_any (map simple_of c.in_ok-anchors.anchors.items) in
    on_ok_weaker c.push_apart.result
    (λ e. all-put p (placing_of c.among.new.self) (simples_of c.args.trees.now.items) _ _ _
    (e ∙ ap (λ ts. map simple_of ts ++ last) kept)
    (c.in_ok-among.ensures.trees ∙ ap (λ ts. spec.all_placed p (simples_of ts)) lent) c.in_ok-anchors.ensures.anchors
    (c.in_ok-among.ensures.placing ∙ ap (λ ts. spec.placing_after_all p (simples_of ts)) lent)) c.push_apart.ensures
