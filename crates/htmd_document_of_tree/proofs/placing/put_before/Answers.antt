use Rattle.std.proofs.Common.{◌∙◌, ap, cond, []}
use Rattle.htmd_shown.specs.declared.role.Role.TheVariants.{Plain}
use Rattle.htmd_shown.specs.Facts.{inserted_facts}
use Rattle.htmd_shown.specs.Shown.{followed_by}
use Rattle.htmd_shown.specs.SimpleTrees as simple
use Rattle.htmd_shown.specs.SimpleViews.{simple_of, simples_of}
use Rattle.htmd_shown.proofs.NodesLemmas.{nodes_push}
use Rattle.htmd_document_of_tree.specs.Anchors as spec
use Rattle.htmd_document_of_tree.proofs.placing.put_before.Goals as goal

pub returns : goal.returns
returns c =
    let found = simples_of c.args.anchors.items in
    let tree = simple_of c.args.tree.now in
    c.inserted.ensures
    ∙ (ap (λ r. simple.element r Plain inserted_facts [] (simples_of c.push.new.self.items)) c.requires
    ∙ ap (λ ts. simple.element 0 Plain inserted_facts [] ts)
    (ap simples_of c.in_ok-push.ensures.items
    ∙ (nodes_push c.in_ok-content.content.items c.replace.result
    ∙ (ap (λ ts. followed_by ts (simple.more (simple_of c.replace.result) simple.none)) (c.in_ok-content.ensures
    ∙ ap (λ b. cond b (simple.more (spec.apart found) simple.none) found) c.stands_apart.ensures)
    ∙ ap (λ t. followed_by (cond (spec.stands_apart tree) (simple.more (spec.apart found) simple.none) found)
    (simple.more (simple_of t) simple.none)) c.replace.ensures.value))))
