-- The leaves of a document that a page has.
use Rattle.std.specs.Prelude.{◌≡◌, ℕ, Bool, true, false, not, ◌&&◌, ◌||◌, List, [], Option, None}
use Rattle.htmd_nodes.specs.NumberedTrees.{NumberedTree}
use Rattle.htmd_lexical.specs.Characters.{space}
use Rattle.htmd_lexical.specs.CharacterClasses.{first_is}
use Rattle.htmd_document.specs.Documents.{text, task, Inlines, inline, BlockAttribute, element, Blocks, no_blocks}
use Rattle.htmd_document.specs.Documents.{block}
use Rattle.htmd_document.specs.declared.document.BlockElement.{BlockElement}
use Rattle.htmd_document.specs.declared.document.BlockElement.TheVariants as an
use Rattle.htmd_shown.specs.Shown.{Sight}
use Rattle.htmd_shown.specs.ShownTexts.{is_shown}
use Rattle.htmd_document_of_tree.specs.declared.anchors.Anchors.{Anchors}
use Rattle.htmd_document_of_tree.specs.TreeDocuments.{document_of_tree}
use Rattle.htmd_law_documents.specs.TreeForms.{is_text_tree}
use Rattle.htmd_law_rendering.specs.PlainReadings.{blocks_have_no_elements}
use Rattle.htmd_law_returning.specs.LastingAnchors.{all_keep, heading_keeps, title_keeps}
use Rattle.htmd_law_returning.specs.PageFormats.{format_shows}
use Rattle.htmd_law_returning.specs.EncodedDocuments.{encoded}
use Rattle.htmd_law_returning.specs.SettledDocuments.{is_settled_address}
use Rattle.htmd_law_returning.specs.SettledDocuments.{is_one_line, is_settled_title, has_settled_language}
use Rattle.htmd_law_returning.specs.SettledDocuments.{is_settled_code, behind_box, is_open_at_most, has_filled_element}
use Rattle.htmd_law_returning.specs.SettledDocuments.{has_caption}
use Rattle.htmd_law_returning.specs.SettledDocuments.{is_right_list, shows_last_column, numbers_fit, have_bare_headers}
use Rattle.htmd_law_returning.specs.SettledTables.{is_border_at_most, rows_are_read, are_of_cell, rows_in}
use Rattle.htmd_law_returning.specs.SettledTables.{are_rows_of_element}
use Rattle.htmd_law_settled.specs.BareBreaks.{has_bare_breaks}
use Rattle.htmd_law_settled.specs.Leaves.{Leaves, are_blocks_of}
use Rattle.htmd_law_returning.specs.WholeLines.{is_whole}

-- Code shows as a whole, and not as white space alone.
abbrev pub is_neat_code : Option (List ℕ) → List ℕ → Bool
is_neat_code language s = has_settled_language language && is_settled_code s

-- the box of a task has a space behind it
abbrev pub is_box_spaced : Inlines → Bool
is_box_spaced (inline (task is_checked) (inline (text s) xs)) = first_is space s
is_box_spaced (inline (task is_checked) xs) = false
is_box_spaced xs = true

abbrev pub any_id : List ℕ → Bool
any_id id = true

-- with or without a box
abbrev pub is_neat_line : Inlines → Bool
is_neat_line xs =
    is_box_spaced xs && is_whole (behind_box xs) && has_bare_breaks (behind_box xs) && all_keep any_id xs

-- what a cell says of itself is read as it is, if its rows are
abbrev pub is_neat_cell : List BlockAttribute → Bool
is_neat_cell attributes = not (rows_are_read attributes) || are_of_cell attributes

-- a `details` is open at most, a table's border is 1, and of others cells alone have attributes
abbrev pub has_neat_attributes : BlockElement → List BlockAttribute → Bool
has_neat_attributes name [] = true
has_neat_attributes an.Details attributes = is_open_at_most attributes
has_neat_attributes an.Table attributes = is_border_at_most attributes
has_neat_attributes an.Cell attributes = is_neat_cell attributes
has_neat_attributes an.HeaderCell attributes = is_neat_cell attributes
has_neat_attributes name attributes = false

-- cells whose rows are read as they are, and captions and rows alone of these
abbrev pub are_read_cells : Blocks → Bool
are_read_cells no_blocks = true
are_read_cells (block (element name attributes content) bs) = rows_are_read attributes && are_read_cells bs
are_read_cells (block b bs) = false

abbrev pub are_read_rows : Blocks → Bool
are_read_rows no_blocks = true
are_read_rows (block (element an.Caption attributes content) bs) = are_read_rows bs
are_read_rows (block (element an.Row attributes cells) bs) = are_read_cells cells && are_read_rows bs
are_read_rows (block b bs) = false

-- if it is of these alone, they are filled, no cell takes rows past the last, it isn't for layout, and not of
-- GitHub's form
abbrev pub is_neat_table : List BlockAttribute → Blocks → Bool
is_neat_table attributes content =
    not (are_read_rows content) || are_rows_of_element attributes (rows_in None content)

-- and something stands in a list of terms, a caption in a figure, and what a title holds is so
module _ (is_so : Blocks → Bool) where
  abbrev pub is_element_of : BlockElement → List BlockAttribute → Blocks → Bool
  is_element_of an.Terms attributes content = has_neat_attributes an.Terms attributes && has_filled_element content
  is_element_of an.Figure attributes content = has_neat_attributes an.Figure attributes && has_caption content
  is_element_of an.Table attributes content =
      has_neat_attributes an.Table attributes && is_neat_table attributes content
  is_element_of an.Summary attributes content = has_neat_attributes an.Summary attributes && is_so content
  is_element_of an.Term attributes content = has_neat_attributes an.Term attributes && is_so content
  is_element_of an.FigureCaption attributes content =
      has_neat_attributes an.FigureCaption attributes && is_so content
  is_element_of an.Caption attributes content = has_neat_attributes an.Caption attributes && is_so content
  is_element_of name attributes content = has_neat_attributes name attributes

-- and anchors in titles stand at the beginning of a line
abbrev pub is_neat_element : BlockElement → List BlockAttribute → Blocks → Bool
is_neat_element name attributes content = is_element_of title_keeps name attributes content

-- All characters of texts and codes show, HTML encodes no byte of an address, titles and descriptions are one line,
-- languages have names, lines are whole and have no white space beside breaks and behind anchors, the box of a task and
-- its space apart, no format goes on behind white space, breaks and anchors, anchors in headings and titles stand at
-- their beginning, lists show whether they are loose, the last columns of tables show, formats show on a rich page, and
-- elements have such attributes and content.
abbrev pub neat : Leaves
neat = record {
  character = is_shown;
  format = format_shows true;
  link = λ address title. is_settled_address address && is_settled_title title;
  image = λ address title description. is_settled_address address && is_settled_title title && is_one_line description;
  code = is_neat_code;
  line = is_neat_line;
  heading = heading_keeps;
  list = is_right_list;
  table = shows_last_column;
  element = is_neat_element;
}

-- So are the leaves of the document of every tree of texts, rich or not, with whatever anchors, once its addresses are
-- encoded.
abbrev pub LeavesAreNeat : Type 0
LeavesAreNeat = (which : Anchors) (sight : Sight) (tree : NumberedTree)
    → is_text_tree tree ≡ true → are_blocks_of neat (encoded (document_of_tree which sight tree)) ≡ true

-- And if it isn't rich none of its blocks is an element of HTML.
abbrev pub NoBlockIsElement : Type 0
NoBlockIsElement = (which : Anchors) (sight : Sight) (tree : NumberedTree) → sight.is_rich ≡ false
    → is_text_tree tree ≡ true → blocks_have_no_elements (document_of_tree which sight tree) ≡ true

-- The numbers of its lists fit.
abbrev pub NumbersFit : Type 0
NumbersFit = (which : Anchors) (sight : Sight) (tree : NumberedTree)
    → is_text_tree tree ≡ true → numbers_fit 0 (document_of_tree which sight tree) ≡ true

-- And something shows in the header of each table of a rich one.
abbrev pub HeadersShow : Type 0
HeadersShow = (which : Anchors) (sight : Sight) (tree : NumberedTree) → sight.is_rich ≡ true
    → is_text_tree tree ≡ true → have_bare_headers (document_of_tree which sight tree) ≡ false
