use Rattle.std.proofs.Common.{◌∙◌, ◌++◌, ◌∷◌, [], sym, ap, map}
use Rattle.std.proofs.lemmas.List.{map_push}
use Rattle.htmd_flow.specs.Flows.{term_item}
use Rattle.htmd_flow.specs.ListViews.{item_of}
use Rattle.htmd_flow.specs.ParagraphViews.{writing_in}
use Rattle.htmd_flow.proofs.terms.TermItems.finish.Goals as goal

pub loop-item-preserved : goal.loop-item-preserved
loop-item-preserved c =
    let before = map writing_in c.loop-item.yielded in
    let item = c.in-Some.item in
    let made = c.in_ok-made.made in
    ap (map item_of) c.in_ok-push.ensures.items ∙ map_push item_of c.loop-item.items.items made
    ∙ ap (λ xs. xs ++ item_of made ∷ []) c.loop-item.invariant
    ∙ ap (λ x. map term_item before ++ x ∷ []) c.in_ok-made.ensures
    ∙ sym (ap (map term_item) (map_push writing_in c.loop-item.yielded item)
    ∙ map_push term_item before (writing_in item))
