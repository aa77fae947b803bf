-- The handlers of html, and of head and body.
use Rattle.std.specs.Prelude.{ℕ, Bool, false, List, [], ◌∷◌, Option, Some, None, true, codes}
use Rattle.htmd_nodes.specs.Items.{Item, Data, document_node, doctype_node, text_node, comment_node, element_node}
use Rattle.htmd_nodes.specs.Items.{data_at, parent_at}
use Rattle.htmd_walk.specs.Handling.{ElementView, PlanView, HandlerMeaning, of_plan}
use Rattle.htmd_walk.specs.ElementPlans.{plan_if, plan_under, wrapped_result}

-- head and body belong under html, whose tag the Document has too
abbrev pub parts_of_page : HandlerMeaning
parts_of_page = of_plan (plan_under (codes "html" ∷ [])) wrapped_result

abbrev pub is_document : Data → Bool
is_document document_node = true
is_document doctype_node = false
is_document (text_node s) = false
is_document (comment_node s) = false
is_document (element_node name attributes) = false

abbrev pub is_document_at : List Item → Option ℕ → Bool
is_document_at items None = false
is_document_at items (Some node) = is_document (data_at items node)

-- html belongs under the Document
abbrev pub page_plan : ElementView → PlanView
page_plan view = plan_if (is_document_at view.items (parent_at view.items view.node)) view

abbrev pub pages : HandlerMeaning
pages = of_plan page_plan wrapped_result
