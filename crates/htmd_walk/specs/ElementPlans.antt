-- What a handler reads off an element that it is shown, and the plans and results that many handlers have.
use Rattle.std.specs.Prelude.{ℕ, Bool, false, not, ◌&&◌, ◌||◌, if◌then◌else◌, nat_lt, List, length, Option}
use Rattle.std.specs.Prelude.{Some, None, true, ℤ, pos, negsuc}
use Rattle.std.specs.List.{list_any, list_all}
use Rattle.std.specs.Str.{bytes_eq}
use Rattle.htmd_text.specs.Trims.{trimmed_text, is_line_feed}
use Rattle.htmd_lexical.specs.BlankLines.{with_blank_lines}
use Rattle.htmd_lexical.specs.AttributePairs.{AttributePair}
pub use Rattle.htmd_nodes.specs.AttributeValues.{value_of}
use Rattle.htmd_nodes.specs.NumberedTrees.{tree_of, value_tree}
use Rattle.htmd_values.specs.Serialisation.{serialisation}
use Rattle.htmd_values.specs.RawBlocks.{raw_block}
use Rattle.htmd_walk.specs.Handling.{ElementView, ResultView, PlanView, this_result, raw_html, content_of_children}
use Rattle.htmd_walk.specs.Handling.{HandlerMeaning, of_plan}
use Rattle.htmd_walk.specs.Outputs.{is_markdown_alone}
use Rattle.htmd_nodes.specs.Items as tree
use Rattle.htmd_nodes.specs.Ancestors as above

abbrev pub tag_of : ElementView → List ℕ
tag_of view = (above.ancestor_of (tree.data_at view.items view.node)).tag

abbrev pub attributes_of : ElementView → List AttributePair
attributes_of view = (above.ancestor_of (tree.data_at view.items view.node)).attributes

abbrev pub ancestors_of : ElementView → List above.Ancestor
ancestors_of view = above.ancestors_of view.items view.node

abbrev pub tag_at : List tree.Item → Option ℕ → Option (List ℕ)
tag_at items None = None
tag_at items (Some node) = tree.tag_of (tree.data_at items node)

-- the tag of the parent; the Document's is html
abbrev pub parent_tag : ElementView → Option (List ℕ)
parent_tag view = tag_at view.items (tree.parent_at view.items view.node)

-- whether all of these are Markdown
abbrev pub are_markdown : List ResultView → Bool
are_markdown results = list_all (λ (r : ResultView). r.markdown_translated) results

-- the raw HTML of a block element, given by a handler that finds that its content isn't Markdown
abbrev pub raw_block_result : ElementView → ResultView
raw_block_result view = record {
  content = raw_block (serialisation (value_tree (tree_of view.items view.node)));
  markdown_translated = false;
}

-- this text, as Markdown, whatever the children give
abbrev pub markdown_plan : List ℕ → PlanView
markdown_plan s = this_result (record { content = s; markdown_translated = true })

-- in Faithful, and with more attributes than these
abbrev pub is_raw_html_due : ElementView → ℕ → Bool
is_raw_html_due view allowed = not (is_markdown_alone view.options) && nat_lt allowed (length (attributes_of view))

-- more of them than this number, which may be below zero
abbrev pub is_more_than : ℤ → ℕ → Bool
is_more_than (pos allowed) count = nat_lt allowed count
is_more_than (negsuc n) count = true

-- this, unless the element has attributes that Markdown has no form for
abbrev pub unless_attributes : ElementView → PlanView → PlanView
unless_attributes view plan = if is_raw_html_due view 0 then raw_html else plan

abbrev pub children_plan : ElementView → PlanView
children_plan view = unless_attributes view content_of_children

-- the children's content, unless the mode is Faithful and this doesn't hold
abbrev pub plan_if : Bool → ElementView → PlanView
plan_if holds view = if is_markdown_alone view.options || holds then content_of_children else raw_html

-- the children's content, unless the mode is Faithful
abbrev pub unless_faithful : ElementView → PlanView
unless_faithful view = plan_if false view

abbrev pub is_tag_among : List (List ℕ) → Option (List ℕ) → Bool
is_tag_among tags None = false
is_tag_among tags (Some tag) = list_any (λ t. bytes_eq t tag) tags

-- in Faithful only under a parent with one of these tags
abbrev pub plan_under : List (List ℕ) → ElementView → PlanView
plan_under tags view = plan_if (is_tag_among tags (parent_tag view)) view

-- this text, as Markdown
abbrev pub markdown_result : List ℕ → Option ResultView
markdown_result s = Some (record { content = s; markdown_translated = true })

-- the content without line feeds at its ends, with blank lines around
abbrev pub wrapped_result : ElementView → ResultView → Option ResultView
wrapped_result view content = markdown_result (with_blank_lines (trimmed_text is_line_feed content.content))

-- a text, if there is one, as Markdown
abbrev pub optional_markdown : Option (List ℕ) → Option ResultView
optional_markdown None = None
optional_markdown (Some s) = markdown_result s

-- this text, whatever the children give
abbrev pub text_plan : List ℕ → ElementView → PlanView
text_plan s view = unless_attributes view (markdown_plan s)

abbrev pub text_alone : (ElementView → List ℕ) → HandlerMeaning
text_alone text = of_plan (λ view. text_plan (text view) view) (λ view content. None)
