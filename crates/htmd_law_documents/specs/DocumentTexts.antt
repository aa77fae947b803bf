-- What a document says: its texts, codes, code blocks, descriptions and cells in order, as bytes.
use Rattle.std.specs.Prelude.{ℕ, Bool, not, ◌&&◌, List, [], ◌++◌, filter}
use Rattle.std.specs.List.{flat_map}
use Rattle.std.specs.Str.{chars}
use Rattle.htmd_document.specs.Documents.{Inline, text, code, formatted, link, image, anchor, line_break, task}
use Rattle.htmd_document.specs.Documents.{Inlines, no_inlines, inline, Block, paragraph, heading, code_block, quote}
use Rattle.htmd_document.specs.Documents.{element, tags}
use Rattle.htmd_document.specs.Documents.{thematic_break, list, table, Blocks, no_blocks, block, Items, no_items, item}
use Rattle.htmd_shown.specs.ShownTexts.{is_shown}
use Rattle.htmd_shown.specs.Spaces.{is_white}

abbrev mutual
  -- a break and a task say nothing
  pub text_of_inline : Inline → List ℕ
  text_of_inline (text s) = s
  text_of_inline (code s) = s
  text_of_inline (formatted format content) = text_of_line content
  text_of_inline (link address title content) = text_of_line content
  text_of_inline (image address title description) = description
  text_of_inline (anchor id) = []
  text_of_inline line_break = []
  text_of_inline (task is_checked) = []

  pub text_of_line : Inlines → List ℕ
  text_of_line no_inlines = []
  text_of_line (inline x xs) = text_of_inline x ++ text_of_line xs

-- the cells of a row
abbrev pub text_of_cells : List Inlines → List ℕ
text_of_cells cells = flat_map text_of_line cells

abbrev pub text_of_rows : List (List Inlines) → List ℕ
text_of_rows rows = flat_map text_of_cells rows

abbrev mutual
  pub text_of_block : Block → List ℕ
  text_of_block (paragraph content) = text_of_line content
  text_of_block (heading level content) = text_of_line content
  text_of_block (code_block language s) = s
  text_of_block (quote content) = text_of_blocks content
  text_of_block thematic_break = []
  text_of_block (element name attributes content) = text_of_blocks content
  text_of_block (tags s) = []
  text_of_block (list start is_tight items) = text_of_items items
  text_of_block (table alignments header rows) = text_of_cells header ++ text_of_rows rows

  pub text_of_blocks : Blocks → List ℕ
  text_of_blocks no_blocks = []
  text_of_blocks (block b bs) = text_of_block b ++ text_of_blocks bs

  pub text_of_items : Items → List ℕ
  text_of_items no_items = []
  text_of_items (item bs items) = text_of_blocks bs ++ text_of_items items

-- ---- what can be seen

-- all but white space, U+0000 and U+FEFF
abbrev pub is_visible : ℕ → Bool
is_visible c = is_shown c && not (is_white c)

-- the visible characters of a text
abbrev pub visible : List ℕ → List ℕ
visible s = filter is_visible (chars s)
