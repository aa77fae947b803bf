-- The occurrence that the walk is handed is that of the definition.
use Rattle.std.proofs.Common.{◌≡◌, ℕ, List, ◌∙◌, ap, sym, subst, suc, ◌≤◌, arith}
use Rattle.std.specs.Option.{option_copied}
use Rattle.std.proofs.lemmas.Result.{IfOk-weaker}
use Rattle.htmd_nodes.specs.Items.{Item, Data, data_at}
use Rattle.htmd_nodes.specs.NumberedTrees.{tree_of, height}
use Rattle.htmd_nodes.specs.Ancestors.{ancestor_of}
use Rattle.htmd_nodes.specs.Views.{data_of}
use Rattle.htmd_walk.specs.Groups.{group_children, children_at}
use Rattle.htmd_walk.specs.Outputs.{conversion_of}
use Rattle.htmd_walk.specs.Elements.{Occurrence, Answer, answer_after}
use Rattle.htmd_walk.specs.HandlerAnswers.{occurrence_in_tree, handled}
use Rattle.htmd_walk.specs.Views.{answer_view}
use Rattle.htmd_walk.specs.Walking.{occurrence_of, shown_occurrence}
use Rattle.htmd_walk.proofs.dom_walker.handle_element.Goals as goal

pub returns : goal.returns
unfolding handled
returns g c =
    let config = g.R.Registry.config c.args.registry.now in
    let items = c.args.tree.now in
    let id = c.args.call.node in
    let there = c.new-walk.result.tree.now in
    let v = conversion_of (g.R.Registry.config c.new-walk.result.registry.now) there in
    let here = c.alone-visit.ensures in
    let shown = c.element-element.ensures in
    let translated = c.args.call.markdown_translated in
    let n = height (tree_of there id) in
    let answer : List ℕ → Occurrence → Answer =
    λ tag at. answer_after c.args.call.skipped tag at c.args.links.now in
    let tag : c.as_str.result.now ≡ (ancestor_of (data_at items id)).tag =
    c.as_str.ensures
    ∙ sym (ap (λ (d : Data). (ancestor_of d).tag) (sym c.data.ensures.value ∙ ap data_of c.in-Element.is)) in
    let same : answer c.element-element.result.tag.now (occurrence_of n v c.element-element.result)
    ≡ handled config items id translated c.args.call.skipped c.args.links.now =
    ap (λ s. answer s (occurrence_of n v c.element-element.result)) shown.tag
    ∙ ap (answer c.as_str.result.now) (shown.occurrence n
    ∙ ap (λ d. shown_occurrence n v d translated (group_children (option_copied c.alone-visit.result.joined)
    (children_at there d))) here.node
    ∙ ap (λ j. shown_occurrence n v id translated (group_children j (children_at there id))) here.joined)
    ∙ ap (λ r. answer c.as_str.result.now (occurrence_in_tree (conversion_of (g.R.Registry.config r) there) id
    translated)) c.new-walk.ensures.registry
    ∙ ap (λ (x : List Item). answer c.as_str.result.now
    (occurrence_in_tree (conversion_of config x) id translated))
    c.new-walk.ensures.tree
    ∙ ap (λ s. answer s (occurrence_in_tree (conversion_of config items) id translated)) tag in
    let low : height (tree_of there c.element-element.result.node) ≤ suc n =
    subst (λ d. height (tree_of there d) ≤ suc n) (sym (shown.node ∙ here.node)) (omega arith) in
    IfOk-weaker c.handle.result _ (λ r. answer_view r c.handle.new.links
    ≡ handled config items id translated c.args.call.skipped c.args.links.now)
    (λ r h. h n low ∙ same) c.handle.ensures
