-- The handler of pre.
use Rattle.std.specs.Prelude.{ℕ, Bool, false, ◌&&◌, ◌||◌, if◌then◌else◌, List, [], ◌∷◌, Option, Some, codes}
use Rattle.htmd_nodes.specs.Items.{Item, children_of}
use Rattle.htmd_walk.specs.Handling.{ElementView, ResultView, PlanView, HandlerMeaning, of_plan}
use Rattle.htmd_walk.specs.Outputs.{is_markdown_alone}
use Rattle.htmd_walk.specs.ElementPlans.{tag_at, raw_block_result, unless_attributes, plan_if, is_tag_among}
use Rattle.htmd_walk.specs.ElementPlans.{wrapped_result}

abbrev pub is_code_alone : List Item → List ℕ → Bool
is_code_alone items [] = false
is_code_alone items (child ∷ []) = is_tag_among (codes "code" ∷ []) (tag_at items (Some child))
is_code_alone items (child ∷ next ∷ children) = false

-- in Faithful it holds one code block, and all is Markdown
abbrev pub preformatted_plan : ElementView → PlanView
preformatted_plan view =
    unless_attributes view
    (plan_if (view.markdown_translated && is_code_alone view.items (children_of view.items view.node)) view)

abbrev pub preformatted_result : ElementView → ResultView → Option ResultView
preformatted_result view content =
    if is_markdown_alone view.options || content.markdown_translated then wrapped_result view content
    else Some (raw_block_result view)

abbrev pub preformatted_texts : HandlerMeaning
preformatted_texts = of_plan preformatted_plan preformatted_result
