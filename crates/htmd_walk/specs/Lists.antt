-- The handler of ol and ul.
use Rattle.std.specs.Prelude.{ℕ, Bool, false, not, ◌&&◌, ◌||◌, if◌then◌else◌, List, [], ◌∷◌, Option, Some, None, codes}
use Rattle.std.specs.Prelude.{map}
use Rattle.std.specs.List.{list_any, zip}
use Rattle.std.specs.Str.{bytes_eq}
use Rattle.htmd_markdown.specs.Lists.{first_number, Block, item, other, ordered_list, list_block}
use Rattle.htmd_lexical.specs.AttributePairs.{AttributePair}
use Rattle.htmd_nodes.specs.Items.{Item, data_at, children_of}
use Rattle.htmd_walk.specs.Handling.{ElementView, ResultView, PlanView, raw_html, content_of_children, HandlerMeaning}
use Rattle.htmd_walk.specs.Handling.{contents_of_each, final_result, without_definitions}
use Rattle.htmd_walk.specs.Outputs.{is_markdown_alone}
use Rattle.htmd_walk.specs.ElementPlans.{tag_of, attributes_of, parent_tag, value_of, are_markdown}
use Rattle.htmd_walk.specs.ElementPlans.{raw_block_result}
use Rattle.htmd_walk.specs.ElementPlans.{is_raw_html_due, is_tag_among, optional_markdown}
use Rattle.htmd_nodes.specs.Items as tree

-- how many attributes a list may have: `start`, if it comes first
abbrev pub allowed_attributes : List AttributePair → ℕ
allowed_attributes [] = 0
allowed_attributes (a ∷ attributes) = if bytes_eq a.name (codes "start") then 1 else 0

-- an element that isn't an item; among children only elements have tags
abbrev pub is_other_tag : Option (List ℕ) → Bool
is_other_tag None = false
is_other_tag (Some tag) = not (bytes_eq tag (codes "li"))

abbrev pub is_other_element : List Item → ℕ → Bool
is_other_element items node = is_other_tag (tree.tag_of (data_at items node))

-- in Faithful, what is raw HTML before anything is converted
abbrev pub is_raw_list : ElementView → Bool
is_raw_list view =
    is_raw_html_due view (allowed_attributes (attributes_of view))
    || (not (is_markdown_alone view.options)
    && (not view.markdown_translated || list_any (is_other_element view.items) (children_of view.items view.node)))

abbrev pub is_ordered : ElementView → Bool
is_ordered view = bytes_eq (tag_of view) (codes "ol")

-- for an ordered list each child by itself
abbrev pub list_plan : ElementView → PlanView
list_plan view =
    if is_raw_list view then raw_html
    else (if is_ordered view then contents_of_each (children_of view.items view.node) else content_of_children)

abbrev pub is_in_item : ElementView → Bool
is_in_item view = is_tag_among (codes "li" ∷ []) (parent_tag view)

-- a list among the blocks around it; in Faithful a list that isn't Markdown throughout is raw HTML
abbrev pub list_result : ElementView → ResultView → Option ResultView
list_result view list =
    if is_markdown_alone view.options || list.markdown_translated
    then optional_markdown (list_block (is_in_item view) list.content)
    else Some (raw_block_result view)

-- what a child gives: its content for an item, which gets a number, a text for another child
abbrev pub block_of_child : Option (List ℕ) → List ℕ → Block
block_of_child tag content = if is_tag_among (codes "li" ∷ []) tag then item content else other content

-- the children's contents, in order
abbrev pub blocks_of_list : List Item → List ℕ → List ResultView → List Block
blocks_of_list items children contents =
    map (λ p. block_of_child (tree.tag_of (data_at items p.0)) p.1.content) (zip children contents)

abbrev pub blocks_of : ElementView → List ResultView → List Block
blocks_of view contents = blocks_of_list view.items (children_of view.items view.node) contents

abbrev pub first_number_of : ElementView → ℕ
first_number_of view = first_number (value_of (codes "start") (attributes_of view))

-- the items after their numbers, and the other children's contents
abbrev pub ordered_text : ElementView → List Block → List ℕ
ordered_text view blocks = ordered_list (first_number_of view) view.options.ol_number_spacing blocks

abbrev pub numbered_list : ElementView → List ResultView → ResultView
numbered_list view contents = record {
  content = ordered_text view (blocks_of view contents);
  markdown_translated = are_markdown contents;
}

abbrev pub ordered_result : ElementView → List ResultView → Option ResultView
ordered_result view contents = list_result view (numbered_list view contents)

abbrev pub lists : HandlerMeaning
lists = record {
  plan = list_plan;
  finish = λ view content definitions. without_definitions (list_result view content);
  finish_each = λ view contents. final_result (ordered_result view contents);
  append = λ definitions. None;
}
