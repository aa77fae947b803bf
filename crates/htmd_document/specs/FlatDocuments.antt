-- Documents as they are written: elements are tags in lines around what stands in them, and tags that follow each other
-- are one block.
use Rattle.std.specs.Prelude.{ℕ, Bool, true, false, ◌==◌, List, [], ◌∷◌, ◌++◌, Option, Some, None}
use Rattle.std.specs.List.{slice_split}
use Rattle.htmd_lexical.specs.Characters.{line_feed}
use Rattle.htmd_document.specs.Documents.{Inline, text, Inlines, no_inlines, inline, Block, paragraph, quote, list, element}
use Rattle.htmd_document.specs.Documents.{tags}
use Rattle.htmd_document.specs.Documents.{Blocks, no_blocks, block, Items, no_items, item, BlockAttribute}
use Rattle.htmd_document.specs.Tags.{element_tag, end_of_element, element_line}
use Rattle.htmd_document.specs.declared.document.BlockElement.{BlockElement}

-- what is written in one line with its tags: nothing, or a paragraph of one text

abbrev pub text_of : Inline → Option (List ℕ)
text_of (text s) = Some s
text_of _ = None

abbrev pub text_alone : Inlines → Option (List ℕ)
text_alone (inline x no_inlines) = text_of x
text_alone _ = None

abbrev pub paragraph_text : Block → Option (List ℕ)
paragraph_text (paragraph content) = text_alone content
paragraph_text _ = None

abbrev pub text_in_line : Blocks → Option (List ℕ)
text_in_line no_blocks = Some []
text_in_line (block b no_blocks) = paragraph_text b
text_in_line _ = None

-- a line of tags before flat blocks
abbrev pub line_before : List ℕ → Blocks → Blocks
line_before line (block (tags s) rest) = block (tags (line ++ line_feed ∷ s)) rest
line_before line rest = block (tags line) rest

-- the tags of an element before flat blocks: in one line with a text, or around other content
abbrev pub element_before : BlockElement → List BlockAttribute → Option (List ℕ) → Blocks → Blocks → Blocks
element_before name attributes (Some s) inner rest = line_before (element_line name attributes s) rest
element_before name attributes None inner rest = line_before (element_tag name attributes) inner

abbrev mutual
  -- a block before flat blocks
  pub flat_before : Block → Blocks → Blocks
  flat_before (quote content) rest = block (quote (flat_all content no_blocks)) rest
  flat_before (list start is_tight items) rest = block (list start is_tight (flat_items items)) rest
  flat_before (element name attributes content) rest =
      element_before name attributes (text_in_line content)
      (flat_all content (line_before (end_of_element name) rest)) rest
  flat_before b rest = block b rest

  pub flat_all : Blocks → Blocks → Blocks
  flat_all no_blocks rest = rest
  flat_all (block b bs) rest = flat_before b (flat_all bs rest)

  pub flat_items : Items → Items
  flat_items no_items = no_items
  flat_items (item bs rest) = item (flat_all bs no_blocks) (flat_items rest)

-- the lines of tags
abbrev pub is_line_end : ℕ → Bool
is_line_end b = b == line_feed

abbrev pub lines_of : List ℕ → List (List ℕ)
lines_of s = slice_split is_line_end s

abbrev pub flattened : Blocks → Blocks
flattened bs = flat_all bs no_blocks

-- no element, and no tags
abbrev pub is_plain : Block → Bool
is_plain (element name attributes content) = false
is_plain (tags s) = false
is_plain b = true

-- a block that is no element, with what stands in it flat
abbrev pub flat_block : Block → Block
flat_block (quote content) = quote (flattened content)
flat_block (list start is_tight items) = list start is_tight (flat_items items)
flat_block b = b
