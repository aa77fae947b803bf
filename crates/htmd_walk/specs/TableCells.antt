-- The handler of td and th.
use Rattle.std.specs.Prelude.{ℕ, Bool, not, ◌&&◌, if◌then◌else◌, List, [], ◌∷◌, codes}
use Rattle.std.specs.List.{list_any}
use Rattle.htmd_nodes.specs.NumberedTrees.{tree_of}
use Rattle.htmd_nodes.specs.Items.{Item, children_of}
use Rattle.htmd_walk.specs.Handling.{ElementView, PlanView, raw_html, HandlerMeaning, of_plan}
use Rattle.htmd_walk.specs.Outputs.{is_markdown_alone}
use Rattle.htmd_walk.specs.Children.{is_block_tree}
use Rattle.htmd_walk.specs.ElementPlans.{unless_attributes, plan_under, wrapped_result}

abbrev pub is_block_node : List Item → ℕ → Bool
is_block_node items node = is_block_tree (tree_of items node)

-- in Faithful a cell has no attributes and no block elements in it, and is in a row
abbrev pub cell_plan : ElementView → PlanView
cell_plan view =
    if not (is_markdown_alone view.options) && list_any (is_block_node view.items) (children_of view.items view.node)
    then raw_html
    else unless_attributes view (plan_under (codes "tr" ∷ []) view)

abbrev pub cells : HandlerMeaning
cells = of_plan cell_plan wrapped_result
