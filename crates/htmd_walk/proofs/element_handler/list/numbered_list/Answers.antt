use Rattle.std.proofs.Common.{sym, ap, ◌∙◌, subst, List, ℕ, Bool, All, ◌<◌, length}
use Rattle.htmd_walk.specs.Handling.{ResultView}
use Rattle.htmd_walk.specs.ElementPlans.{are_markdown}
use Rattle.htmd_walk.specs.Lists.{blocks_of_list, blocks_of, ordered_text}
use Rattle.htmd_walk.specs.Views.{results_view, element_view}
use Rattle.htmd_walk.proofs.ChildListsLemmas.{children_within}
use Rattle.htmd_walk.proofs.element_handler.list.numbered_list.Goals as goal

pub list_blocks-requires : goal.list_blocks-requires
list_blocks-requires c =
    subst (All (λ d. d < length c.args.element.now.tree.now)) (sym c.children-children.ensures.value)
    (children_within c.args.element.now.tree.now c.args.element.now.node c.children-children.ensures.tree
    c.args.element.now.within)

pub returns : goal.returns
returns c =
    let view = element_view c.args.element.now in
    let contents = results_view c.args.contents.items in
    let put : List ℕ → Bool → ResultView = λ s m. record { content = s; markdown_translated = m } in
    let flag = c.are_markdown-markdown_translated.ensures
    ∙ ap (λ rs. are_markdown (results_view rs)) c.deref.ensures.value in
    let blocks = c.in_ok-blocks.ensures
    ∙ ap (λ ids. blocks_of_list view.items ids contents) c.children-children.ensures.value in
    let text = c.in_ok-content.ensures ∙ ap (ordered_text view) blocks in
    ap (λ s. put s c.are_markdown-markdown_translated.result) text
    ∙ ap (put (ordered_text view (blocks_of view contents))) flag
