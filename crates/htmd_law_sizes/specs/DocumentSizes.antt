-- How big a document is, and how wide what its quotes and items put before a line.
use Rattle.std.specs.Prelude.{ℕ, suc, ◌+◌, max, List, [], ◌∷◌, length, Option, Some, None}
use Rattle.std.specs.Fmt.{decimal}
use Rattle.htmd_document.specs.Documents.{Inline, Inlines, text, code, formatted, link, image, anchor, line_break, task}
use Rattle.htmd_document.specs.Documents.{no_inlines, inline, Block, Blocks, Items, paragraph, heading, code_block}
use Rattle.htmd_document.specs.Documents.{quote}
use Rattle.htmd_document.specs.Documents.{thematic_break, list, table, element, tags, no_blocks, block, no_items, item}
use Rattle.htmd_document.specs.Documents.{BlockAttribute}
use Rattle.htmd_document.specs.FlatDocuments.{text_in_line}
use Rattle.htmd_document.specs.Formats.{title_of}
use Rattle.htmd_document.specs.Tags.{element_tag, end_of_element, escaped_text}
use Rattle.htmd_document.specs.declared.document.BlockElement.{BlockElement}

-- ---- size

-- the bytes of a text, if there is one
abbrev pub size_of_option : Option (List ℕ) → ℕ
size_of_option None = 0
size_of_option (Some s) = length s

-- Each inline counts one, and so does each byte of its texts.
abbrev mutual
  pub size_of_inlines : Inlines → ℕ
  size_of_inlines no_inlines = 0
  size_of_inlines (inline x rest) = size_of_inline x + size_of_inlines rest

  pub size_of_inline : Inline → ℕ
  size_of_inline (text s) = suc (length s)
  size_of_inline (code s) = suc (length s)
  size_of_inline (formatted format content) = suc (length (title_of format) + size_of_inlines content)
  size_of_inline (link address title content) =
      suc (length address + size_of_option title + size_of_inlines content)
  size_of_inline (image address title description) = suc (length address + size_of_option title + length description)
  size_of_inline (anchor id) = suc (length id)
  size_of_inline line_break = 1
  size_of_inline (task is_checked) = 1

-- each cell one
abbrev pub size_of_cells : List Inlines → ℕ
size_of_cells [] = 0
size_of_cells (content ∷ cells) = suc (size_of_inlines content) + size_of_cells cells

-- each row one
abbrev pub size_of_rows : List (List Inlines) → ℕ
size_of_rows [] = 0
size_of_rows (cells ∷ rows) = suc (size_of_cells cells) + size_of_rows rows

-- an element's tags, each one and its bytes, and what stands in one line with them
abbrev pub size_in_line : Option (List ℕ) → ℕ
size_in_line None = 0
size_in_line (Some s) = length (escaped_text s)

abbrev pub size_of_tags : BlockElement → List BlockAttribute → Blocks → ℕ
size_of_tags name attributes content =
    suc (length (element_tag name attributes)) + suc (length (end_of_element name))
    + size_in_line (text_in_line content)

-- Each block and each item counts one, and a heading its level besides.
abbrev mutual
  pub size_of : Blocks → ℕ
  size_of no_blocks = 0
  size_of (block first rest) = size_of_block first + size_of rest

  pub size_of_block : Block → ℕ
  size_of_block (paragraph content) = suc (size_of_inlines content)
  size_of_block (heading level content) = suc (level + size_of_inlines content)
  size_of_block (code_block language s) = suc (size_of_option language + length s)
  size_of_block (quote content) = suc (size_of content)
  size_of_block thematic_break = 1
  size_of_block (list start is_tight items) = suc (size_of_items items)
  size_of_block (table alignments header rows) = suc (size_of_rows (header ∷ rows))
  size_of_block (element name attributes content) = size_of_tags name attributes content + size_of content
  size_of_block (tags s) = suc (length s)

  pub size_of_items : Items → ℕ
  size_of_items no_items = 0
  size_of_items (item first rest) = suc (size_of first) + size_of_items rest

-- ---- what is repeated

-- The bytes that a page can say once and a document many times: of the addresses and titles of links, of the titles of
-- abbreviations, and of the languages of code.
abbrev mutual
  pub repeated_inlines : Inlines → ℕ
  repeated_inlines no_inlines = 0
  repeated_inlines (inline x rest) = repeated_inline x + repeated_inlines rest

  pub repeated_inline : Inline → ℕ
  repeated_inline (text s) = 0
  repeated_inline (code s) = 0
  repeated_inline (formatted format content) = length (title_of format) + repeated_inlines content
  repeated_inline (link address title content) = length address + size_of_option title + repeated_inlines content
  repeated_inline (image address title description) = 0
  repeated_inline (anchor id) = 0
  repeated_inline line_break = 0
  repeated_inline (task is_checked) = 0

abbrev pub repeated_cells : List Inlines → ℕ
repeated_cells [] = 0
repeated_cells (content ∷ cells) = repeated_inlines content + repeated_cells cells

abbrev pub repeated_rows : List (List Inlines) → ℕ
repeated_rows [] = 0
repeated_rows (cells ∷ rows) = repeated_cells cells + repeated_rows rows

abbrev mutual
  pub repeated : Blocks → ℕ
  repeated no_blocks = 0
  repeated (block first rest) = repeated_block first + repeated rest

  pub repeated_block : Block → ℕ
  repeated_block (paragraph content) = repeated_inlines content
  repeated_block (heading level content) = repeated_inlines content
  repeated_block (code_block language s) = size_of_option language
  repeated_block (quote content) = repeated content
  repeated_block thematic_break = 0
  repeated_block (list start is_tight items) = repeated_items items
  repeated_block (table alignments header rows) = repeated_rows (header ∷ rows)
  repeated_block (element name attributes content) = repeated content
  repeated_block (tags s) = 0

  pub repeated_items : Items → ℕ
  repeated_items no_items = 0
  repeated_items (item first rest) = repeated first + repeated_items rest

-- The size without that.
abbrev mutual
  pub lean_inlines : Inlines → ℕ
  lean_inlines no_inlines = 0
  lean_inlines (inline x rest) = lean_inline x + lean_inlines rest

  pub lean_inline : Inline → ℕ
  lean_inline (text s) = suc (length s)
  lean_inline (code s) = suc (length s)
  lean_inline (formatted format content) = suc (lean_inlines content)
  lean_inline (link address title content) = suc (lean_inlines content)
  lean_inline (image address title description) = suc (length address + size_of_option title + length description)
  lean_inline (anchor id) = suc (length id)
  lean_inline line_break = 1
  lean_inline (task is_checked) = 1

abbrev pub lean_cells : List Inlines → ℕ
lean_cells [] = 0
lean_cells (content ∷ cells) = suc (lean_inlines content) + lean_cells cells

abbrev pub lean_rows : List (List Inlines) → ℕ
lean_rows [] = 0
lean_rows (cells ∷ rows) = suc (lean_cells cells) + lean_rows rows

abbrev mutual
  pub lean : Blocks → ℕ
  lean no_blocks = 0
  lean (block first rest) = lean_block first + lean rest

  pub lean_block : Block → ℕ
  lean_block (paragraph content) = suc (lean_inlines content)
  lean_block (heading level content) = suc (level + lean_inlines content)
  lean_block (code_block language s) = suc (length s)
  lean_block (quote content) = suc (lean content)
  lean_block thematic_break = 1
  lean_block (list start is_tight items) = suc (lean_items items)
  lean_block (table alignments header rows) = suc (lean_rows (header ∷ rows))
  lean_block (element name attributes content) = size_of_tags name attributes content + lean content
  lean_block (tags s) = suc (length s)

  pub lean_items : Items → ℕ
  lean_items no_items = 0
  lean_items (item first rest) = suc (lean first) + lean_items rest

-- ---- margin

-- an item's marker, the first at 0, with the four spaces that it has at most
abbrev pub width_of_marker : Option ℕ → ℕ → ℕ
width_of_marker None k = 5
width_of_marker (Some start) k = length (decimal (start + k)) + 5

-- how many bytes the quotes and items around a line can put before it; a quote puts two
abbrev mutual
  pub margin_of : Blocks → ℕ
  margin_of no_blocks = 0
  margin_of (block first rest) = max (margin_of_block first) (margin_of rest)

  pub margin_of_block : Block → ℕ
  margin_of_block (quote content) = 2 + margin_of content
  margin_of_block (list start is_tight items) = margin_of_items start 0 items
  margin_of_block (paragraph content) = 0
  margin_of_block (heading level content) = 0
  margin_of_block (code_block language s) = 0
  margin_of_block thematic_break = 0
  margin_of_block (table alignments header rows) = 0
  margin_of_block (element name attributes content) = margin_of content
  margin_of_block (tags s) = 0

  -- the first item at this place
  pub margin_of_items : Option ℕ → ℕ → Items → ℕ
  margin_of_items start k no_items = 0
  margin_of_items start k (item first rest) =
      max (width_of_marker start k + margin_of first) (margin_of_items start (suc k) rest)
