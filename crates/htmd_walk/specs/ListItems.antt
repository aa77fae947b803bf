-- The handler of li.
use Rattle.std.specs.Prelude.{Bool, if◌then◌else◌, [], ◌∷◌, Option, codes}
use Rattle.htmd_markdown.specs.ListItems.{bullet_item, unnumbered_item}
use Rattle.htmd_walk.specs.Handling.{ElementView, ResultView, HandlerMeaning, of_plan}
use Rattle.htmd_walk.specs.ElementPlans.{parent_tag, children_plan, is_tag_among, markdown_result}

abbrev pub is_in_ordered : ElementView → Bool
is_in_ordered view = is_tag_among (codes "ol" ∷ []) (parent_tag view)

-- under ol the list puts the number before the item
abbrev pub item_result : ElementView → ResultView → Option ResultView
item_result view content =
    markdown_result
    (if is_in_ordered view then unnumbered_item content.content
    else bullet_item view.options.bullet_list_marker view.options.ul_bullet_spacing content.content)

abbrev pub list_items : HandlerMeaning
list_items = of_plan children_plan item_result
