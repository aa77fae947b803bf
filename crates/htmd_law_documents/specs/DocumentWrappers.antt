-- The visible characters of a document, each with what stands around it.
use Rattle.std.specs.Prelude.{ℕ, Bool, true, false, List, [], ◌∷◌, ◌++◌, map}
use Rattle.std.specs.List.{flat_map}
use Rattle.htmd_document.specs.Formats.{Format}
use Rattle.htmd_document.specs.Documents.{Inline, text, code, formatted, link, image, anchor, line_break, task}
use Rattle.htmd_document.specs.Documents.{Inlines, no_inlines, inline, Block, paragraph, heading, code_block, quote}
use Rattle.htmd_document.specs.Documents.{element, tags}
use Rattle.htmd_document.specs.Documents.{thematic_break, list, table, Blocks, no_blocks, block, Items, no_items, item}
use Rattle.htmd_law_documents.specs.DocumentTexts.{visible}

-- a format, or a link with its address
pub data Wrapper : Type 0 where
  of_format : (format : Format) → Wrapper
  of_link : (address : List ℕ) → Wrapper

-- a character: what stands around it, from the outermost in, and whether it is code
pub record Wrapped : Type 0 where
  pub character : ℕ
  pub wrappers : List Wrapper
  pub is_code : Bool

-- the visible characters of a text in the same wrappers
abbrev pub in_wrappers : List Wrapper → Bool → List ℕ → List Wrapped
in_wrappers wrappers is_code s = map (λ c. record { character = c; wrappers = wrappers; is_code = is_code })
    (visible s)

abbrev mutual
  pub wrappers_of_inline : List Wrapper → Inline → List Wrapped
  wrappers_of_inline wrappers (text s) = in_wrappers wrappers false s
  wrappers_of_inline wrappers (code s) = in_wrappers wrappers true s
  wrappers_of_inline wrappers (formatted format content) = wrappers_of_line (wrappers ++ of_format format
      ∷ []) content
  wrappers_of_inline wrappers (link address title content) = wrappers_of_line (wrappers ++ of_link address
      ∷ []) content
  wrappers_of_inline wrappers (image address title description) = in_wrappers wrappers false description
  wrappers_of_inline wrappers (anchor id) = []
  wrappers_of_inline wrappers line_break = []
  wrappers_of_inline wrappers (task is_checked) = []

  pub wrappers_of_line : List Wrapper → Inlines → List Wrapped
  wrappers_of_line wrappers no_inlines = []
  wrappers_of_line wrappers (inline x xs) = wrappers_of_inline wrappers x ++ wrappers_of_line wrappers xs

abbrev pub wrappers_of_cells : List Inlines → List Wrapped
wrappers_of_cells cells = flat_map (wrappers_of_line []) cells

abbrev mutual
  -- in a code block all is code, and nothing else stands around it
  pub wrappers_of_block : Block → List Wrapped
  wrappers_of_block (paragraph content) = wrappers_of_line [] content
  wrappers_of_block (heading level content) = wrappers_of_line [] content
  wrappers_of_block (code_block language s) = in_wrappers [] true s
  wrappers_of_block (quote content) = wrappers_of_blocks content
  wrappers_of_block thematic_break = []
  wrappers_of_block (element name attributes content) = wrappers_of_blocks content
  wrappers_of_block (tags s) = []
  wrappers_of_block (list start is_tight items) = wrappers_of_items items
  wrappers_of_block (table alignments header rows) = wrappers_of_cells header ++ flat_map wrappers_of_cells rows

  pub wrappers_of_blocks : Blocks → List Wrapped
  wrappers_of_blocks no_blocks = []
  wrappers_of_blocks (block b bs) = wrappers_of_block b ++ wrappers_of_blocks bs

  pub wrappers_of_items : Items → List Wrapped
  wrappers_of_items no_items = []
  wrappers_of_items (item bs items) = wrappers_of_blocks bs ++ wrappers_of_items items
