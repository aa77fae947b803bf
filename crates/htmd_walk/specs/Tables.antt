-- What a table is, and how it is written.
use Rattle.std.specs.Prelude.{ℕ, Bool, false, not, ◌&&◌, ◌||◌, List, [], ◌∷◌, length, Option, Some, None}
use Rattle.std.specs.Prelude.{true, codes, ◌++◌, map, take, drop}
use Rattle.std.specs.List.{list_any, flat_map}
use Rattle.htmd_text.specs.Trims.{trimmed_text}
use Rattle.htmd_lexical.specs.BlankLines.{blank_line}
use Rattle.htmd_lexical.specs.Characters.{line_feed}
use Rattle.htmd_lexical.specs.WhiteSpace.{is_document_white_space}
use Rattle.htmd_markdown.specs.Tables.{table}
use Rattle.htmd_nodes.specs.Ancestors.{Ancestor}
use Rattle.htmd_nodes.specs.Items.{Item}
use Rattle.htmd_nodes.specs.NumberedTrees.{NumberedTree, document, doctype, text, comment, element, NumberedForest}
use Rattle.htmd_nodes.specs.NumberedTrees.{none}
use Rattle.htmd_nodes.specs.NumberedTrees.{more}
use Rattle.htmd_walk.specs.Handling.{ResultView}
use Rattle.htmd_walk.specs.declared.element_handler.table_layout.PartKind.{PartKind}
use Rattle.htmd_walk.specs.declared.element_handler.table_layout.PartKind.TheVariants.{Caption, Headers, Row}
use Rattle.htmd_walk.specs.Groups.{children_at}
use Rattle.htmd_walk.specs.ElementPlans.{are_markdown, is_tag_among}
use Rattle.htmd_walk.specs.TableLayouts.{Part}
use Rattle.htmd_nodes.specs.Ancestors as above

abbrev pub header_tags : List (List ℕ)
header_tags = codes "th" ∷ codes "thead" ∷ []

abbrev pub tag_of_tree : NumberedTree → Option (List ℕ)
tag_of_tree (document id children) = Some (codes "html")
tag_of_tree (doctype id) = None
tag_of_tree (text id s) = None
tag_of_tree (comment id s) = None
tag_of_tree (element id name attributes children) = Some name

abbrev pub is_header : NumberedTree → Bool
is_header tree = is_tag_among header_tags (tag_of_tree tree)

abbrev pub is_table : NumberedTree → Bool
is_table tree = is_tag_among (codes "table" ∷ []) (tag_of_tree tree)

abbrev mutual
  -- a `th` or `thead` is below this tree; no table is looked into
  pub has_header_below : NumberedTree → Bool
  has_header_below (document id children) = has_header_among children
  has_header_below (doctype id) = false
  has_header_below (text id s) = false
  has_header_below (comment id s) = false
  has_header_below (element id name attributes children) = has_header_among children

  pub has_header_among : NumberedForest → Bool
  has_header_among none = false
  has_header_among (more tree trees) =
      (is_header tree || (not (is_table tree) && has_header_below tree)) || has_header_among trees

-- each of these trees is looked into, even a table
abbrev pub has_explicit_headers : NumberedForest → Bool
has_explicit_headers none = false
has_explicit_headers (more tree trees) = (is_header tree || has_header_below tree) || has_explicit_headers trees

abbrev pub cell_tags : List (List ℕ)
cell_tags = codes "td" ∷ codes "th" ∷ []

abbrev pub is_cell : Ancestor → Bool
is_cell a = is_tag_among cell_tags (Some a.tag)

-- the table has explicit headers, and is in no cell of another table
abbrev pub has_table_form : List Item → ℕ → Bool
has_table_form items node =
    has_explicit_headers (children_at items node) && not (list_any is_cell (above.ancestors_of items node))

-- the texts of a table's parts; whether all of its cells are Markdown
pub record TableTexts : Type 0 where
  pub captions : List (List ℕ)
  pub headers : List (List ℕ)
  pub rows : List (List (List ℕ))
  pub markdown_translated : Bool

abbrev pub no_texts : TableTexts
no_texts = record { captions = []; headers = []; rows = []; markdown_translated = true }

abbrev pub text_of_cell : ResultView → List ℕ
text_of_cell content = trimmed_text is_document_white_space content.content

-- the contents of one more part; later headers stand in place of earlier ones
abbrev pub with_part : TableTexts → PartKind → List ResultView → TableTexts
with_part texts Caption contents = record {
  captions = texts.captions ++ map text_of_cell contents;
  headers = texts.headers;
  rows = texts.rows;
  markdown_translated = texts.markdown_translated;
}
with_part texts Headers contents = record {
  captions = texts.captions;
  headers = map text_of_cell contents;
  rows = texts.rows;
  markdown_translated = texts.markdown_translated && are_markdown contents;
}
with_part texts Row contents = record {
  captions = texts.captions;
  headers = texts.headers;
  rows = texts.rows ++ map text_of_cell contents ∷ [];
  markdown_translated = texts.markdown_translated && are_markdown contents;
}

-- the contents in the order of their nodes
abbrev pub with_parts : TableTexts → List Part → List ResultView → TableTexts
with_parts texts [] contents = texts
with_parts texts (p ∷ parts) contents =
    with_parts (with_part texts p.kind (take (length p.nodes) contents)) parts (drop (length p.nodes) contents)

-- a text and a line end
abbrev pub with_line_end : List ℕ → List ℕ
with_line_end s = s ++ line_feed ∷ []

-- each caption in a line of its own, before the headers and rows
abbrev pub table_text : TableTexts → List ℕ
table_text texts =
    (blank_line ++ flat_map with_line_end texts.captions) ++ with_line_end (table texts.headers texts.rows)
