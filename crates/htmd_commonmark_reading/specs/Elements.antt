-- The document that a flat one is: tags in its lines stand for elements around what stands between them. Each list of
-- blocks has its own stack of open elements; each closing tag closes the last one, and all have to be closed.
use Rattle.std.specs.Prelude.{ℕ, zero, suc, Bool, not, ◌==◌, if◌then◌else◌, List, [], ◌∷◌, ◌++◌, length, drop}
use Rattle.std.specs.Prelude.{Option, Some, None}
use Rattle.std.specs.Char.{is_ascii_alphabetic}
use Rattle.std.specs.Str.{bytes_eq}
use Rattle.htmd_lexical.specs.Characters.{space, ampersand, less_than_sign, slash, quotation_mark}
use Rattle.htmd_lexical.specs.CharacterClasses.{first_is, begins_with, leading_run, behind_run}
use Rattle.htmd_document.specs.Documents.{text, no_inlines, inline, Block, Blocks, Items, paragraph}
use Rattle.htmd_document.specs.Documents.{quote, list, element, tags, no_blocks, block}
use Rattle.htmd_document.specs.Documents.{no_items, item, BlockAttribute}
use Rattle.htmd_document.specs.FlatDocuments.{lines_of}
use Rattle.htmd_document.specs.declared.document.AttributeName.{AttributeName}
use Rattle.htmd_document.specs.declared.document.AttributeName.TheVariants.{Open, Border, ColumnSpan, RowSpan, Align}
use Rattle.htmd_document.specs.declared.document.BlockElement.{BlockElement}
use Rattle.htmd_document.specs.declared.document.BlockElement.TheVariants as an
use Rattle.htmd_document.specs.Tags.{element_name, attribute_name, element_tag, end_of_element, escaped_text}
use Rattle.htmd_commonmark_reading.specs.Anchors.{value, after_ampersand}
use Rattle.htmd_commonmark_reading.specs.SeenMarkup.{option_of, option_of_both}

-- ---- names

abbrev pub elements : List BlockElement
elements =
    an.Details ∷ an.Summary ∷ an.Terms ∷ an.Term ∷ an.Meaning ∷ an.Figure ∷ an.FigureCaption ∷ an.Table
    ∷ an.Caption ∷ an.Row ∷ an.Cell ∷ an.HeaderCell ∷ []

abbrev pub element_among : List BlockElement → List ℕ → Option BlockElement
element_among [] s = None
element_among (e ∷ es) s = if bytes_eq (element_name e) s then Some e else element_among es s

abbrev pub attribute_names : List AttributeName
attribute_names = Open ∷ Border ∷ ColumnSpan ∷ RowSpan ∷ Align ∷ []

abbrev pub attribute_among : List AttributeName → List ℕ → Option AttributeName
attribute_among [] s = None
attribute_among (a ∷ rest) s = if bytes_eq (attribute_name a) s then Some a else attribute_among rest s

-- the name that a text begins with, and what follows it
abbrev pub first_name : List ℕ → List ℕ
first_name s = leading_run is_ascii_alphabetic s

abbrev pub behind_name : List ℕ → List ℕ
behind_name s = behind_run is_ascii_alphabetic s

-- ---- tags

abbrev pub is_in_value : ℕ → Bool
is_in_value c = not (c == quotation_mark)

-- what stands behind the name of an attribute and `="`
abbrev pub value_after_name : List ℕ → List ℕ
value_after_name s = drop 2 (behind_name s)

-- what stands behind a value and the quotation mark that ends it
abbrev pub behind_value : List ℕ → List ℕ
behind_value s = drop 1 (behind_run is_in_value s)

-- an attribute of this name before others
abbrev pub with_attribute : Option AttributeName → List ℕ → List BlockAttribute → List BlockAttribute
with_attribute None s rest = []
with_attribute (Some name) s rest = record { name = name; value = value s } ∷ rest

-- the attributes that a text begins with, so many at most, each behind a space
abbrev pub attributes_in : ℕ → List ℕ → List BlockAttribute
attributes_in zero s = []
attributes_in (suc n) s =
    if first_is space s
    then with_attribute (attribute_among attribute_names (first_name (drop 1 s))) (value_after_name (drop 1 s))
    (attributes_in n (behind_value (value_after_name (drop 1 s))))
    else []

-- a text up to the tag that ends it, its references as the characters that they stand for
abbrev pub text_before_tag : List ℕ → List ℕ
text_before_tag [] = []
text_before_tag (c ∷ s) =
    if c == less_than_sign then []
    else if c == ampersand then after_ampersand (text_before_tag s)
    else c ∷ text_before_tag s

-- what a line of an HTML block is: an opening tag, a closing one, an element with nothing or a text in it, or nothing
-- that is understood
pub data Line : Type 0 where
  opening : (name : BlockElement) (attributes : List BlockAttribute) → Line
  closing : (name : BlockElement) → Line
  whole : (name : BlockElement) (attributes : List BlockAttribute) (s : List ℕ) → Line
  unknown : Line

abbrev pub line_with_end : Option BlockElement → List ℕ → Line
line_with_end None s = unknown
line_with_end (Some name) s = if bytes_eq (end_of_element name) s then closing name else unknown

-- by what stands behind the opening tag
abbrev pub line_behind : BlockElement → List BlockAttribute → List ℕ → Line
line_behind name attributes [] = opening name attributes
line_behind name attributes (c ∷ s) =
    if bytes_eq (escaped_text (text_before_tag (c ∷ s)) ++ end_of_element name) (c ∷ s)
    then whole name attributes (text_before_tag (c ∷ s))
    else unknown

-- each tag is written in one way
abbrev pub line_with_tag : BlockElement → List BlockAttribute → List ℕ → Line
line_with_tag name attributes s =
    if begins_with (element_tag name attributes) s
    then line_behind name attributes (drop (length (element_tag name attributes)) s)
    else unknown

abbrev pub line_with_name : Option BlockElement → List ℕ → Line
line_with_name None s = unknown
line_with_name (Some name) s = line_with_tag name (attributes_in (length s) (behind_name (drop 1 s))) s

abbrev pub line_of : List ℕ → Line
line_of s =
    if first_is slash (drop 1 s) then line_with_end (element_among elements (first_name (drop 2 s))) s
    else line_with_name (element_among elements (first_name (drop 1 s))) s

-- ---- the stack of open elements, each with the blocks in it so far

pub data Stack : Type 0 where
  outside : (done : Blocks) → Stack
  inside : (name : BlockElement) (attributes : List BlockAttribute) (done : Blocks) (below : Stack) → Stack

-- blocks after others
abbrev pub joined : Blocks → Blocks → Blocks
joined no_blocks cs = cs
joined (block b bs) cs = block b (joined bs cs)

abbrev pub with_blocks : Stack → Blocks → Stack
with_blocks (outside done) bs = outside (joined done bs)
with_blocks (inside name attributes done below) bs = inside name attributes (joined done bs) below

abbrev pub with_block : Stack → Block → Stack
with_block o b = with_blocks o (block b no_blocks)

-- a paragraph of this text, if there is some
abbrev pub text_blocks : List ℕ → Blocks
text_blocks [] = no_blocks
text_blocks (c ∷ s) = block (paragraph (inline (text (c ∷ s)) no_inlines)) no_blocks

abbrev pub is_same_element : BlockElement → BlockElement → Bool
is_same_element e f = bytes_eq (element_name e) (element_name f)

abbrev pub closed_by : BlockElement → Stack → Option Stack
closed_by e (outside done) = None
closed_by e (inside name attributes done below) =
    if is_same_element e name then Some (with_block below (element name attributes done)) else None

abbrev pub with_line : Stack → Line → Option Stack
with_line o (opening name attributes) = Some (inside name attributes no_blocks o)
with_line o (closing name) = closed_by name o
with_line o (whole name attributes s) = Some (with_block o (element name attributes (text_blocks s)))
with_line o unknown = None

abbrev pub with_lines : Option Stack → List (List ℕ) → Option Stack
with_lines None lines = None
with_lines (Some o) [] = Some o
with_lines (Some o) (s ∷ lines) = with_lines (with_line o (line_of s)) lines

-- all are closed
abbrev pub all_closed : Option Stack → Option Blocks
all_closed None = None
all_closed (Some (outside done)) = Some done
all_closed (Some (inside name attributes done below)) = None

-- a flat block, and the block that it is if it is no tags
abbrev pub with_flat : Option Stack → Block → Option Block → Option Stack
with_flat o (tags s) made = with_lines o (lines_of s)
with_flat o b made = option_of_both with_block o made

abbrev mutual
  pub nested_block : Block → Option Block
  nested_block (quote bs) = option_of quote (nested (Some (outside no_blocks)) bs)
  nested_block (list start is_tight items) = option_of (list start is_tight) (nested_items items)
  nested_block (element name attributes bs) = None
  nested_block (tags s) = None
  nested_block b = Some b

  pub nested : Option Stack → Blocks → Option Blocks
  nested o no_blocks = all_closed o
  nested o (block b bs) = nested (with_flat o b (nested_block b)) bs

  pub nested_items : Items → Option Items
  nested_items no_items = Some no_items
  nested_items (item bs rest) = option_of_both item (nested (Some (outside no_blocks)) bs) (nested_items rest)

-- the document that a flat one is
abbrev pub nested_document : Blocks → Option Blocks
nested_document bs = nested (Some (outside no_blocks)) bs
