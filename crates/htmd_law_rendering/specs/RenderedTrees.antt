-- The trees that what is read of Markdown stands for: each block and inline as the element that its HTML has for it.
-- Each definition gives trees before others, so that a text and one that follows it are one text. Raw tags in lines
-- are paired from the right, and so are the lines of tags in HTML blocks.
use Rattle.std.specs.Prelude.{ℕ, Bool, true, false, ◌&&◌, ◌/◌, ◌%◌, if◌then◌else◌, ◌==◌, List, [], ◌∷◌, ◌++◌, drop}
use Rattle.std.specs.Prelude.{codes, Option, Some, None}
use Rattle.std.specs.Fmt.{decimal}
use Rattle.std.specs.List.{flat_map}
use Rattle.htmd_lexical.specs.Characters.{line_feed, space}
use Rattle.htmd_lexical.specs.AttributePairs.{AttributePair}
use Rattle.htmd_values.specs.ValueTrees.{ValueForest}
use Rattle.htmd_document.specs.declared.document.Alignment.{Alignment}
use Rattle.htmd_document.specs.declared.document.Alignment.TheVariants as aligned
use Rattle.htmd_document.specs.Formats.{Format, Emphasis, Strong, Deleted, Superscript, Subscript, Inserted}
use Rattle.htmd_document.specs.Formats.{Underlined}
use Rattle.htmd_document.specs.Formats.{Marked, Small, Keyboard, Abbreviation}
use Rattle.htmd_document.specs.Documents.{BlockAttribute}
use Rattle.htmd_document.specs.FlatDocuments.{lines_of}
use Rattle.htmd_document.specs.Tags.{element_name, attribute_name}
use Rattle.htmd_commonmark_reading.specs.Elements as lines
use Rattle.htmd_commonmark_reading.specs.Elements.{Line, line_of}
use Rattle.htmd_commonmark_reading.specs.Markup.{Inlines, no_inlines, letter, code, formatted, link, image}
use Rattle.htmd_commonmark_reading.specs.Markup.{line_break}
use Rattle.htmd_commonmark_reading.specs.Markup.{task, raw, Block, paragraph, heading, code_block, quote}
use Rattle.htmd_commonmark_reading.specs.Markup.{thematic_break, list, table, html_block, Blocks, no_blocks, block}
use Rattle.htmd_commonmark_reading.specs.Markup.{Items, no_items, item, plain_text}
use Rattle.htmd_commonmark_reading.specs.Rendering.{stays_in_address, hexadecimal_digit, first_alignment, is_bare}
use Rattle.htmd_law_rendering.specs.RawTags.{RawTag, opening, closing, breaking, unknown, raw_tag}
pub use Rattle.htmd_law_rendering.specs.RawTags.{pair, pairs_of_format}
use Rattle.htmd_law_rendering.specs.SpelledTrees.{SpelledForest, none, more, text, element, lone, section, spaced}
use Rattle.htmd_law_rendering.specs.SpelledTrees.{short, value_forest}
use Rattle.htmd_grammar.specs.Nesting.{is_table, is_tbody}
use Rattle.htmd_lexical.specs.CharacterClasses.{is_among}

-- ---- texts, elements and attributes

-- a text before trees: one with the text that they begin with, and none if it is empty
abbrev pub text_before : List ℕ → SpelledForest → SpelledForest
text_before [] ts = ts
text_before (b ∷ s) (more (text u) ts) = more (text (b ∷ (s ++ u))) ts
text_before (b ∷ s) ts = more (text (b ∷ s)) ts

-- an element before trees; if it is void its tag has a slash
abbrev pub element_before : List ℕ → List AttributePair → SpelledForest → SpelledForest → SpelledForest
element_before name attributes content ts = more (element spaced name attributes content) ts

abbrev pub line_end : SpelledForest → SpelledForest
line_end ts = text_before (line_feed ∷ []) ts

abbrev pub pairs_of_title : Option (List ℕ) → List AttributePair
pairs_of_title None = []
pairs_of_title (Some s) = pair (codes "title") s ∷ []

-- a byte of an address
abbrev pub encoded_byte : ℕ → List ℕ
encoded_byte b =
    if stays_in_address b
    then b ∷ []
    else codes "%" ++ hexadecimal_digit (b / 16) ∷ hexadecimal_digit (b % 16) ∷ []

abbrev pub encoded_address : List ℕ → List ℕ
encoded_address s = flat_map encoded_byte s

-- ---- inlines (CommonMark 0.31.2, 6)

abbrev pub format_name : Format → List ℕ
format_name Emphasis = codes "em"
format_name Strong = codes "strong"
format_name Deleted = codes "del"
format_name Superscript = codes "sup"
format_name Subscript = codes "sub"
format_name Inserted = codes "ins"
format_name Underlined = codes "u"
format_name Marked = codes "mark"
format_name Small = codes "small"
format_name Keyboard = codes "kbd"
format_name (Abbreviation title) = codes "abbr"

abbrev pub pairs_of_link : List ℕ → Option (List ℕ) → List AttributePair
pairs_of_link address title = pair (codes "href") (encoded_address address) ∷ pairs_of_title title

abbrev pub pairs_of_image : List ℕ → Option (List ℕ) → List ℕ → List AttributePair
pairs_of_image address title description =
    pair (codes "src") (encoded_address address) ∷ pair (codes "alt") description ∷ pairs_of_title title

-- the box of a task (GFM 0.29, 5.3)
abbrev pub pairs_of_box : Bool → List AttributePair
pairs_of_box true =
    pair (codes "checked") [] ∷ pair (codes "disabled") [] ∷ pair (codes "type") (codes "checkbox") ∷ []
pairs_of_box false = pair (codes "disabled") [] ∷ pair (codes "type") (codes "checkbox") ∷ []

-- trees behind an end tag that no tag before it has opened so far
pub record Behind : Type 0 where
  pub name : List ℕ
  pub trees : SpelledForest

-- trees, and behind them such end tags with what follows each
pub record Open : Type 0 where
  pub first : SpelledForest
  pub behind : List Behind

abbrev pub onto : (SpelledForest → SpelledForest) → Open → Open
onto f o = record o { first = f o.first }

-- an opening tag is of the first end tag behind it; without one it stands for nothing
abbrev pub opened : List ℕ → List AttributePair → SpelledForest → List Behind → Open
opened name attributes content [] = record { first = content; behind = [] }
opened name attributes content (b ∷ behind) =
    record { first = element_before name attributes content b.trees; behind = behind }

abbrev pub with_raw : RawTag → Open → Open
with_raw (opening name attributes) o = opened name attributes o.first o.behind
with_raw (closing name) o = record { first = none; behind = record { name = name; trees = o.first } ∷ o.behind }
with_raw (breaking form) o = onto (more (element form (codes "br") [] none)) o
with_raw unknown o = o

abbrev pub inlines_open : Inlines → SpelledForest → Open
inlines_open no_inlines rest = record { first = rest; behind = [] }
inlines_open (letter c xs) rest = onto (text_before (c ∷ [])) (inlines_open xs rest)
inlines_open (code s xs) rest = onto (element_before (codes "code") [] (text_before s none)) (inlines_open xs rest)
inlines_open (formatted f content xs) rest =
    onto (element_before (format_name f) (pairs_of_format f) (inlines_open content none).first) (inlines_open xs rest)
inlines_open (link a t content xs) rest =
    onto (element_before (codes "a") (pairs_of_link a t) (inlines_open content none).first) (inlines_open xs rest)
inlines_open (image a t content xs) rest =
    onto (element_before (codes "img") (pairs_of_image a t (plain_text content)) none) (inlines_open xs rest)
inlines_open (line_break xs) rest =
    onto (λ ts. element_before (codes "br") [] none (line_end ts)) (inlines_open xs rest)
inlines_open (task d xs) rest =
    onto (λ ts. more (element short (codes "input") (pairs_of_box d) none) (text_before (space ∷ []) ts))
    (inlines_open xs rest)
inlines_open (raw tag xs) rest = with_raw (raw_tag tag) (inlines_open xs rest)

abbrev pub inlines_trees : Inlines → SpelledForest → SpelledForest
inlines_trees xs rest = (inlines_open xs rest).first

-- ---- tables (GFM 4.10)

abbrev pub pairs_of_alignment : Alignment → List AttributePair
pairs_of_alignment aligned.None = []
pairs_of_alignment aligned.Left = pair (codes "align") (codes "left") ∷ []
pairs_of_alignment aligned.Center = pair (codes "align") (codes "center") ∷ []
pairs_of_alignment aligned.Right = pair (codes "align") (codes "right") ∷ []

-- cells of columns with these alignments
abbrev pub cells_trees : List ℕ → List Alignment → List Inlines → SpelledForest
cells_trees name alignments [] = none
cells_trees name alignments (c ∷ cs) =
    element_before name (pairs_of_alignment (first_alignment alignments)) (inlines_trees c none)
    (line_end (cells_trees name (drop 1 alignments) cs))

-- an element that begins a line and ends one, with trees in lines of their own
abbrev pub lines_before : List ℕ → List AttributePair → SpelledForest → SpelledForest → SpelledForest
lines_before name attributes content rest = element_before name attributes (line_end content) (line_end rest)

abbrev pub row_trees : List ℕ → List Alignment → List Inlines → SpelledForest → SpelledForest
row_trees name alignments cs rest = lines_before (codes "tr") [] (cells_trees name alignments cs) rest

abbrev pub rows_trees : List Alignment → List (List Inlines) → SpelledForest
rows_trees alignments [] = none
rows_trees alignments (r ∷ rs) = row_trees (codes "td") alignments r (rows_trees alignments rs)

abbrev pub body_trees : List Alignment → List (List Inlines) → SpelledForest
body_trees alignments [] = none
body_trees alignments (r ∷ rs) = lines_before (codes "tbody") [] (rows_trees alignments (r ∷ rs)) none

abbrev pub table_trees : List Alignment → List Inlines → List (List Inlines) → SpelledForest → SpelledForest
table_trees alignments header rows rest =
    lines_before (codes "table") []
    (lines_before (codes "thead") [] (row_trees (codes "th") alignments header none) (body_trees alignments rows))
    rest

-- ---- the lines of HTML blocks (4.6)

abbrev pub pairs_of_element : List BlockAttribute → List AttributePair
pairs_of_element [] = []
pairs_of_element (a ∷ rest) = pair (attribute_name a.name) a.value ∷ pairs_of_element rest

-- Rows up to a caption or the end of a table are in a section, whose tags HTML implies; a text before the first isn't.
abbrev pub sectioned : SpelledForest → SpelledForest → SpelledForest
sectioned none rest = rest
sectioned (more (text s) ts) rest = more (text s) (sectioned ts rest)
sectioned ts rest = more (section ts) rest

abbrev pub section_name : List ℕ
section_name = codes "tbody"

-- left of the section, if it is the innermost element
abbrev pub left_of_section : SpelledForest → List Behind → Open
left_of_section first [] = record { first = first; behind = [] }
left_of_section first (b ∷ behind) =
    if is_tbody b.name
    then record { first = sectioned first b.trees; behind = behind }
    else record { first = first; behind = b ∷ behind }

-- a table and its captions begin left of the section
abbrev pub bounds_section : List ℕ → Bool
bounds_section n = is_among (codes "table" ∷ codes "caption" ∷ []) n

abbrev pub outside_section : List ℕ → Open → Open
outside_section n o = if bounds_section n then left_of_section o.first o.behind else o

-- the end of a table ends a section too
abbrev pub ends_of : List ℕ → Open → Open
ends_of n o =
    if is_table n then with_raw (closing section_name) (with_raw (closing n) o) else with_raw (closing n) o

-- and left of a caption in a table is a section again
abbrev pub is_caption : List ℕ → Bool
is_caption n = is_among (codes "caption" ∷ []) n

abbrev pub in_table : List Behind → Bool
in_table [] = false
in_table (b ∷ behind) = is_table b.name

abbrev pub before_caption : List ℕ → Open → Open
before_caption n o = if is_caption n && in_table o.behind then with_raw (closing section_name) o else o

-- a line before trees: tags stand for elements as those in lines of text do
abbrev pub with_line : Line → Open → Open
with_line (lines.opening name attributes) o =
    before_caption (element_name name) (with_raw (opening (element_name name) (pairs_of_element attributes))
    (onto line_end (outside_section (element_name name) o)))
with_line (lines.closing name) o =
    ends_of (element_name name) (onto line_end (outside_section (element_name name) o))
with_line (lines.whole name attributes s) o =
    before_caption (element_name name) (onto (λ ts. more
    (lone (element_name name) (pairs_of_element attributes) s) (line_end ts))
    (outside_section (element_name name) o))
with_line lines.unknown o = o

abbrev pub with_lines : List (List ℕ) → Open → Open
with_lines [] o = o
with_lines (s ∷ rest) o = with_line (line_of s) (with_lines rest o)

-- the lines of a block, if it is an HTML block
abbrev pub with_html : Block → Open → Open
with_html (html_block s) o = with_lines (lines_of s) o
with_html b o = o

-- ---- blocks (4 and 5)

abbrev pub heading_name : ℕ → List ℕ
heading_name level = codes "h" ++ decimal level

abbrev pub pairs_of_language : Option (List ℕ) → List AttributePair
pairs_of_language None = []
pairs_of_language (Some s) = pair (codes "class") (codes "language-" ++ s) ∷ []

-- code has a line's end at its end, unless it is empty
abbrev pub code_trees : List ℕ → SpelledForest
code_trees [] = none
code_trees (b ∷ s) = text_before (b ∷ s) (line_end none)

abbrev pub code_block_tree : Option (List ℕ) → List ℕ → SpelledForest
code_block_tree language s = element_before (codes "code") (pairs_of_language language) (code_trees s) none

abbrev pub list_name : Option ℕ → List ℕ
list_name None = codes "ul"
list_name (Some n) = codes "ol"

abbrev pub pairs_of_start : Option ℕ → List AttributePair
pairs_of_start None = []
pairs_of_start (Some n) = if n == 1 then [] else pair (codes "start") (decimal n) ∷ []

-- in a tight list a paragraph has no element
abbrev pub paragraph_trees : Bool → Inlines → SpelledForest → SpelledForest
paragraph_trees true xs rest = inlines_trees xs rest
paragraph_trees false xs rest = element_before (codes "p") [] (inlines_trees xs none) (line_end rest)

-- an element begins a line
abbrev pub begun_line : Bool → Bool → SpelledForest → SpelledForest
begun_line true false ts = line_end ts
begun_line is_in_line bare ts = ts

abbrev mutual
  pub block_trees : Bool → Block → SpelledForest → SpelledForest
  block_trees is_tight (paragraph xs) rest = paragraph_trees is_tight xs rest
  block_trees is_tight (heading level xs) rest =
      element_before (heading_name level) [] (inlines_trees xs none) (line_end rest)
  block_trees is_tight (code_block language s) rest =
      element_before (codes "pre") [] (code_block_tree language s) (line_end rest)
  block_trees is_tight (quote bs) rest = lines_before (codes "blockquote") [] (blocks_open false false bs).first rest
  block_trees is_tight thematic_break rest = element_before (codes "hr") [] none (line_end rest)
  block_trees is_tight (list start tight items) rest =
      lines_before (list_name start) (pairs_of_start start) (items_trees tight items) rest
  block_trees is_tight (table alignments header rows) rest = table_trees alignments header rows rest
  block_trees is_tight (html_block s) rest = rest

  -- blocks of a tight list or not, with something before them in their line or not
  pub blocks_open : Bool → Bool → Blocks → Open
  blocks_open is_tight is_in_line no_blocks = record { first = none; behind = [] }
  blocks_open is_tight is_in_line (block b bs) =
      onto (λ ts. begun_line is_in_line (is_bare is_tight b) (block_trees is_tight b ts))
      (with_html b (blocks_open is_tight (is_bare is_tight b) bs))

  pub items_trees : Bool → Items → SpelledForest
  items_trees is_tight no_items = none
  items_trees is_tight (item bs rest) =
      element_before (codes "li") [] (blocks_open is_tight true bs).first (line_end (items_trees is_tight rest))

abbrev pub blocks_trees : Bool → Bool → Blocks → SpelledForest
blocks_trees is_tight is_in_line bs = (blocks_open is_tight is_in_line bs).first

-- the HTML of what is read, as trees that are spelled
abbrev pub spelled_of : Blocks → SpelledForest
spelled_of bs = blocks_trees false false bs

-- the trees of what is read
abbrev pub trees_of : Blocks → ValueForest
trees_of bs = value_forest (spelled_of bs)
