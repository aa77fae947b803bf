-- What is read as a flat list of parts: what begins, what is in it, what ends. Of text each byte is one.
use Rattle.std.specs.Prelude.{ℕ, Bool, false, true, List, [], ◌∷◌, drop, Option, Some, None}
use Rattle.htmd_document.specs.declared.document.Alignment.{Alignment}
use Rattle.htmd_document.specs.Formats.{Format}
use Rattle.htmd_commonmark_reading.specs.Markup as markup
use Rattle.htmd_commonmark_reading.specs.Markup.{Inlines, Block, Blocks, Items}
use Rattle.htmd_commonmark_reading.specs.Rendering.{first_alignment}

-- what begins
pub data Tag : Type 0 where
  paragraph : (is_tight : Bool) → Tag
  heading : (level : ℕ) → Tag
  quote : Tag
  list : (start : Option ℕ) (is_tight : Bool) → Tag
  item : Tag
  table : Tag
  head : Tag
  body : Tag
  row : Tag
  header_cell : (a : Alignment) → Tag
  cell : (a : Alignment) → Tag
  formatted : (format : Format) → Tag
  link : (address : List ℕ) (title : Option (List ℕ)) → Tag
  image : (address : List ℕ) → Tag

-- what ends
pub data TagEnd : Type 0 where
  paragraph_end : (is_tight : Bool) → TagEnd
  heading_end : (level : ℕ) → TagEnd
  quote_end : TagEnd
  list_end : (is_numbered : Bool) → TagEnd
  item_end : TagEnd
  table_end : TagEnd
  head_end : TagEnd
  body_end : TagEnd
  row_end : TagEnd
  header_cell_end : TagEnd
  cell_end : TagEnd
  formatted_end : (format : Format) → TagEnd
  link_end : TagEnd
  image_end : (title : Option (List ℕ)) → TagEnd

pub data Part : Type 0 where
  begun : (tag : Tag) → Part
  ended : (tag : TagEnd) → Part
  letter : (c : ℕ) → Part
  code : (s : List ℕ) → Part
  raw : (s : List ℕ) → Part
  line_break : Part
  task : (is_checked : Bool) → Part
  code_block : (language : Option (List ℕ)) (s : List ℕ) → Part
  html_block : (s : List ℕ) → Part
  thematic_break : Part

-- ---- the parts of inlines, before others

abbrev pub inlines_parts : Inlines → List Part → List Part
inlines_parts markup.no_inlines rest = rest
inlines_parts (markup.letter c xs) rest = letter c ∷ inlines_parts xs rest
inlines_parts (markup.code s xs) rest = code s ∷ inlines_parts xs rest
inlines_parts (markup.formatted f content xs) rest =
    begun (formatted f) ∷ inlines_parts content (ended (formatted_end f) ∷ inlines_parts xs rest)
inlines_parts (markup.link a t content xs) rest =
    begun (link a t) ∷ inlines_parts content (ended link_end ∷ inlines_parts xs rest)
inlines_parts (markup.image a t content xs) rest =
    begun (image a) ∷ inlines_parts content (ended (image_end t) ∷ inlines_parts xs rest)
inlines_parts (markup.line_break xs) rest = line_break ∷ inlines_parts xs rest
inlines_parts (markup.task d xs) rest = task d ∷ inlines_parts xs rest
inlines_parts (markup.raw s xs) rest = raw s ∷ inlines_parts xs rest

-- ---- of tables

-- cells of columns with these alignments
abbrev pub cells_parts : (Alignment → Tag) → TagEnd → List Alignment → List Inlines → List Part → List Part
cells_parts begin end alignments [] rest = rest
cells_parts begin end alignments (c ∷ cs) rest =
    begun (begin (first_alignment alignments))
    ∷ inlines_parts c (ended end ∷ cells_parts begin end (drop 1 alignments) cs rest)

abbrev pub row_parts : (Alignment → Tag) → TagEnd → List Alignment → List Inlines → List Part → List Part
row_parts begin end alignments cs rest = begun row ∷ cells_parts begin end alignments cs (ended row_end ∷ rest)

abbrev pub rows_parts : List Alignment → List (List Inlines) → List Part → List Part
rows_parts alignments [] rest = rest
rows_parts alignments (r ∷ rs) rest = row_parts cell cell_end alignments r (rows_parts alignments rs rest)

abbrev pub body_parts : List Alignment → List (List Inlines) → List Part → List Part
body_parts alignments [] rest = rest
body_parts alignments (r ∷ rs) rest = begun body ∷ rows_parts alignments (r ∷ rs) (ended body_end ∷ rest)

abbrev pub table_parts : List Alignment → List Inlines → List (List Inlines) → List Part → List Part
table_parts alignments header rows rest =
    begun table ∷ begun head
    ∷ row_parts header_cell header_cell_end alignments header
    (ended head_end ∷ body_parts alignments rows (ended table_end ∷ rest))

-- ---- of blocks

abbrev pub is_numbered : Option ℕ → Bool
is_numbered None = false
is_numbered (Some n) = true

abbrev mutual
  -- of a block of a tight list or not
  pub block_parts : Bool → Block → List Part → List Part
  block_parts is_tight (markup.paragraph xs) rest =
      begun (paragraph is_tight) ∷ inlines_parts xs (ended (paragraph_end is_tight) ∷ rest)
  block_parts is_tight (markup.heading level xs) rest =
      begun (heading level) ∷ inlines_parts xs (ended (heading_end level) ∷ rest)
  block_parts is_tight (markup.code_block language s) rest = code_block language s ∷ rest
  block_parts is_tight (markup.quote bs) rest = begun quote ∷ blocks_parts false bs (ended quote_end ∷ rest)
  block_parts is_tight markup.thematic_break rest = thematic_break ∷ rest
  block_parts is_tight (markup.list start tight items) rest =
      begun (list start tight) ∷ items_parts tight items (ended (list_end (is_numbered start)) ∷ rest)
  block_parts is_tight (markup.table alignments header rows) rest = table_parts alignments header rows rest
  block_parts is_tight (markup.html_block s) rest = html_block s ∷ rest

  pub blocks_parts : Bool → Blocks → List Part → List Part
  blocks_parts is_tight markup.no_blocks rest = rest
  blocks_parts is_tight (markup.block b bs) rest = block_parts is_tight b (blocks_parts is_tight bs rest)

  pub items_parts : Bool → Items → List Part → List Part
  items_parts is_tight markup.no_items rest = rest
  items_parts is_tight (markup.item bs items) rest =
      begun item ∷ blocks_parts is_tight bs (ended item_end ∷ items_parts is_tight items rest)

-- the parts of what is read
abbrev pub parts_of : Blocks → List Part
parts_of bs = blocks_parts false bs []
