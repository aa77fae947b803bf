-- The items of a document of which some elements are still open: what stands above `body`, and then what each open
-- element holds so far.
use Rattle.std.specs.Prelude.{ℕ, suc, Bool, true, false, List, [], ◌∷◌, ◌++◌, length, codes}
use Rattle.htmd_grammar.specs.HtmlDocuments.{above_body}
use Rattle.htmd_grammar.specs.ReaderSteps.{OpenElement, names_of}
use Rattle.htmd_nodes.specs.Items.{Item, document_item, doctype_node, element_node}
use Rattle.htmd_nodes.specs.Layout.{item_under, forest_items}

-- what comes before `body`: the Document, a Doctype if there is one, `html` and its empty `head`
abbrev pub items_above : Bool → List Item
items_above false =
    document_item ∷ item_under 1 0 (element_node (codes "html") [])
    ∷ item_under 2 1 (element_node (codes "head") [])
    ∷ []
items_above true =
    document_item ∷ item_under 1 0 doctype_node ∷ item_under 1 0 (element_node (codes "html") [])
    ∷ item_under 2 2 (element_node (codes "head") [])
    ∷ []

abbrev pub html_number : Bool → ℕ
html_number false = 1
html_number true = 2

abbrev mutual
  -- the items of the open elements and of what they hold so far, outermost first
  pub stack_items : Bool → List OpenElement → List Item
  stack_items has_doctype [] = items_above has_doctype
  stack_items has_doctype (f ∷ fs) =
      stack_items has_doctype fs
      ++ (item_under (length (names_of above_body fs)) (innermost_number has_doctype fs)
      (element_node f.name f.attributes)
      ∷ forest_items (suc (length (names_of above_body fs))) (length (stack_items has_doctype fs))
      (suc (length (stack_items has_doctype fs))) f.children)

  -- the number of the innermost open element's node; around `body` that is `html`
  pub innermost_number : Bool → List OpenElement → ℕ
  innermost_number has_doctype [] = html_number has_doctype
  innermost_number has_doctype (f ∷ fs) = length (stack_items has_doctype fs)
