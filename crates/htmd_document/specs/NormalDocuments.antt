-- The normal form of documents: what the document of every tree is like, and what is read back.
use Rattle.std.specs.Prelude.{◌≡◌, ℕ, suc, ◌+◌, ◌==◌, max, nat_le, Bool, true, false, not, ◌&&◌, ◌||◌, if◌then◌else◌}
use Rattle.std.specs.Prelude.{List, [], ◌∷◌, ◌++◌, codes, length, map, Option, Some, None}
use Rattle.std.specs.List.{list_all, list_any}
use Rattle.htmd_lexical.specs.Characters.{null, carriage_return}
use Rattle.htmd_lexical.specs.CharacterClasses.{is_empty, begins_with}
use Rattle.htmd_lexical.specs.WhiteSpace.{is_ascii_white_space}
use Rattle.htmd_document.specs.declared.document.Alignment.{Alignment}
use Rattle.htmd_document.specs.declared.document.BlockElement.{BlockElement}
use Rattle.htmd_document.specs.declared.document.BlockElement.TheVariants as an
use Rattle.htmd_document.specs.LanguageNames.{is_mark}
use Rattle.htmd_document.specs.DocumentLimits.{most_nested}
use Rattle.htmd_document.specs.Documents.{Inlines, Block, paragraph, heading, code_block, quote}
use Rattle.htmd_document.specs.Documents.{thematic_break, list, table, element, tags, Blocks, no_blocks, block}
use Rattle.htmd_document.specs.Documents.{Items, no_items, item, BlockAttribute}
use Rattle.htmd_document.specs.FlatDocuments.{flat_items, lines_of}
use Rattle.htmd_document.specs.Tags.{element_name}
use Rattle.htmd_document.specs.TightItems.{is_filled, is_tight_item, is_short}
use Rattle.htmd_document.specs.DocumentLimits.{greatest_start}
use Rattle.htmd_document.specs.NormalInlines.{has_none, is_normal_line, is_normal_item, are_anchors}
use Rattle.htmd_document.specs.NormalInlines.{anchors_stand_well, is_attribute, is_kept}

-- ---- leaves

-- the inlines of a paragraph: there are some, and in an item's first one a task may stand first; they may be anchors
-- alone
abbrev pub is_normal_paragraph : Bool → Inlines → Bool
is_normal_paragraph in_item content =
    not (has_none content) && (if in_item then is_normal_item content else is_normal_line content)
    && (are_anchors content || anchors_stand_well content)

abbrev pub is_level : ℕ → Bool
is_level level = nat_le 1 level && nat_le level 6

abbrev pub is_normal_heading : ℕ → Inlines → Bool
is_normal_heading level content =
    is_level level && not (has_none content) && is_normal_line content && anchors_stand_well content

-- in a word that a reader takes for a language: no white space, and no mark
abbrev pub is_language_byte : ℕ → Bool
is_language_byte b = not (is_ascii_white_space b || (b == 0x0B) || (b == null) || is_mark b)

abbrev pub is_language : List ℕ → Bool
is_language s = not (is_empty s) && list_all is_language_byte s

abbrev pub has_language : Option (List ℕ) → Bool
has_language None = true
has_language (Some s) = is_language s

-- no carriage return, which ends a line, and no U+0000, which is replaced (CommonMark 0.31.2, 2.1 and 2.3)
abbrev pub is_code_byte : ℕ → Bool
is_code_byte b = not (b == carriage_return) && not (b == null)

abbrev pub is_normal_code : Option (List ℕ) → List ℕ → Bool
is_normal_code language s = has_language language && list_all is_code_byte s

-- ---- lists

abbrev pub item_count : Items → ℕ
item_count no_items = 0
item_count (item first rest) = suc (item_count rest)

-- the numbers of a list have at most nine digits (5.2)
abbrev pub are_short_numbers : Option ℕ → ℕ → Bool
are_short_numbers None count = true
are_short_numbers (Some start) count = nat_le (start + count) (greatest_start + 1)

-- something stands in one of the items
abbrev pub has_filled_item : Items → Bool
has_filled_item no_items = false
has_filled_item (item first rest) = is_filled first || has_filled_item rest

-- what an item of a tight list may hold: nothing, one block, or a paragraph and a list that can go on it
abbrev pub may_be_tight : Blocks → Bool
may_be_tight blocks = is_short blocks || is_tight_item blocks

abbrev pub are_tight : Items → Bool
are_tight no_items = true
are_tight (item first rest) = may_be_tight first && are_tight rest

-- two items or two blocks of one, where a reader can see whether a blank line stands between them (5.3)
abbrev pub is_spread : Items → Bool
is_spread no_items = false
is_spread (item first no_items) = not (is_short first)
is_spread (item first (item second rest)) = true

-- a tight list can be written tight, and a reader can see that a loose one is loose
abbrev pub has_right_distance : Bool → Items → Bool
has_right_distance is_tight items = if is_tight then are_tight items else is_spread items

-- of a list whose items are flat
abbrev pub is_normal_list : Option ℕ → Bool → Items → Bool
is_normal_list start is_tight items =
    has_filled_item items && are_short_numbers start (item_count items) && has_right_distance is_tight items

-- ---- tables

abbrev pub has_cell : List Inlines → Bool
has_cell [] = false
has_cell (content ∷ rest) = true

-- the last of some cells isn't empty
abbrev pub ends_filled : List Inlines → Bool
ends_filled [] = false
ends_filled (content ∷ []) = not (has_none content)
ends_filled (content ∷ next ∷ rest) = ends_filled (next ∷ rest)

-- each of one line
abbrev pub are_normal_cells : List Inlines → Bool
are_normal_cells cells = list_all is_normal_line cells && list_all anchors_stand_well cells

-- a row of up to as many cells as the header, without empty ones at its end
abbrev pub is_normal_row : ℕ → List Inlines → Bool
is_normal_row columns cells = nat_le (length cells) columns && ends_filled cells && are_normal_cells cells

abbrev pub is_normal_table : List Alignment → List Inlines → List (List Inlines) → Bool
is_normal_table alignments header rows =
    has_cell header && (length alignments == length header) && are_normal_cells header
    && list_all (is_normal_row (length header)) rows

-- ---- elements

-- what can be empty: terms, meanings, rows and cells
abbrev pub may_be_empty : BlockElement → Bool
may_be_empty an.Term = true
may_be_empty an.Meaning = true
may_be_empty an.Row = true
may_be_empty an.Cell = true
may_be_empty an.HeaderCell = true
may_be_empty name = false

abbrev pub is_normal_element : BlockElement → List BlockAttribute → Blocks → Bool
is_normal_element name attributes content =
    list_all (λ a. is_attribute a.value) attributes && (is_filled content || may_be_empty name)

-- ---- blocks

abbrev mutual
  -- in an item the first block may be a paragraph with a task
  pub is_normal_block : Bool → Block → Bool
  is_normal_block in_item (paragraph content) = is_normal_paragraph in_item content
  is_normal_block in_item (heading level content) = is_normal_heading level content
  is_normal_block in_item (code_block language s) = is_normal_code language s
  is_normal_block in_item (quote content) = is_filled content && are_normal_blocks false content
  is_normal_block in_item thematic_break = true
  is_normal_block in_item (list start is_tight items) =
      is_normal_list start is_tight (flat_items items) && are_normal_items items
  is_normal_block in_item (table alignments header rows) = is_normal_table alignments header rows
  is_normal_block in_item (element name attributes content) =
      is_normal_element name attributes content && are_normal_blocks false content
  is_normal_block in_item (tags s) = false

  pub are_normal_blocks : Bool → Blocks → Bool
  are_normal_blocks in_item no_blocks = true
  are_normal_blocks in_item (block first rest) = is_normal_block in_item first && are_normal_blocks false rest

  pub are_normal_items : Items → Bool
  are_normal_items no_items = true
  are_normal_items (item first rest) = are_normal_blocks true first && are_normal_items rest

-- ---- lists and quotes in each other

abbrev mutual
  -- how many stand in each other
  pub depth_of : Block → ℕ
  depth_of (quote content) = suc (depth_among content)
  depth_of (list start is_tight items) = suc (depth_of_items items)
  depth_of (element name attributes content) = depth_among content
  depth_of b = 0

  pub depth_among : Blocks → ℕ
  depth_among no_blocks = 0
  depth_among (block first rest) = max (depth_of first) (depth_among rest)

  pub depth_of_items : Items → ℕ
  depth_of_items no_items = 0
  depth_of_items (item first rest) = max (depth_among first) (depth_of_items rest)

-- ---- documents

abbrev pub is_normal_document : Blocks → Bool
is_normal_document d = are_normal_blocks false d && nat_le (depth_among d) most_nested

abbrev pub IsNormal : Blocks → Type 0
IsNormal d = is_normal_document d ≡ true

-- ---- documents as they are written

abbrev pub names : List (List ℕ)
names =
    map element_name (an.Details ∷ an.Summary ∷ an.Terms ∷ an.Term ∷ an.Meaning ∷ an.Figure
    ∷ an.FigureCaption
    ∷ an.Table ∷ an.Caption ∷ an.Row ∷ an.Cell ∷ an.HeaderCell ∷ [])

-- the tag of an element begins a line
abbrev pub begins_with_tag_of : List ℕ → List ℕ → Bool
begins_with_tag_of line name =
    begins_with (codes "<" ++ name ++ codes ">") line || begins_with (codes "<" ++ name ++ codes " ") line
    || begins_with (codes "</" ++ name ++ codes ">") line

-- begins with a tag, and holds no U+0000 and no end of a line
abbrev pub is_tag_line : List ℕ → Bool
is_tag_line line = list_all is_kept line && list_any (begins_with_tag_of line) names

abbrev pub are_tag_lines : List ℕ → Bool
are_tag_lines s = list_all is_tag_line (lines_of s)

-- the same of flat blocks: tags in lines in the place of elements
abbrev mutual
  pub is_flat_block : Bool → Block → Bool
  is_flat_block in_item (paragraph content) = is_normal_paragraph in_item content
  is_flat_block in_item (heading level content) = is_normal_heading level content
  is_flat_block in_item (code_block language s) = is_normal_code language s
  is_flat_block in_item (quote content) = is_filled content && are_flat_blocks false content
  is_flat_block in_item thematic_break = true
  is_flat_block in_item (list start is_tight items) = is_normal_list start is_tight items && are_flat_items items
  is_flat_block in_item (table alignments header rows) = is_normal_table alignments header rows
  is_flat_block in_item (element name attributes content) = false
  is_flat_block in_item (tags s) = are_tag_lines s

  pub are_flat_blocks : Bool → Blocks → Bool
  are_flat_blocks in_item no_blocks = true
  are_flat_blocks in_item (block first rest) = is_flat_block in_item first && are_flat_blocks false rest

  pub are_flat_items : Items → Bool
  are_flat_items no_items = true
  are_flat_items (item first rest) = are_flat_blocks true first && are_flat_items rest

abbrev pub IsFlat : Blocks → Type 0
IsFlat d = are_flat_blocks false d ≡ true
