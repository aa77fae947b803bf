-- What is read whose HTML is strict: raw tags and lines of tags pair, headings have six levels, no link stands in
-- another, elements stand where they may, there are no carriage returns, and elements are nested only so deep.
use Rattle.std.specs.Prelude.{◌≡◌, ◌≤◌, ℕ, zero, suc, ◌+◌, max, Bool, true, false, not, ◌&&◌, ◌||◌, if◌then◌else◌}
use Rattle.std.specs.Prelude.{nat_le}
use Rattle.std.specs.Prelude.{List, [], ◌∷◌, ◌++◌, drop, codes, Option, Some, None}
use Rattle.std.specs.Str.{bytes_eq}
use Rattle.htmd_lexical.specs.Characters.{carriage_return}
use Rattle.htmd_lexical.specs.Attributes.{attribute_names}
use Rattle.htmd_lexical.specs.CharacterClasses.{lacks, are_distinct, is_empty}
use Rattle.htmd_document.specs.Documents as document
use Rattle.htmd_document.specs.Documents.{BlockAttribute}
use Rattle.htmd_document.specs.FlatDocuments.{lines_of}
use Rattle.htmd_document.specs.Tags.{element_name}
use Rattle.htmd_grammar.specs.HtmlDocuments.{below_body}
use Rattle.htmd_grammar.specs.Nesting.{Context, parent_name, is_open, is_table, is_tbody, is_row, holds_parts}
use Rattle.htmd_grammar.specs.Nesting.{fits_table}
use Rattle.htmd_grammar.specs.Nesting.{fits_lists}
use Rattle.htmd_commonmark_reading.specs.Elements as lines
use Rattle.htmd_commonmark_reading.specs.Elements.{Line, line_of}
use Rattle.htmd_commonmark_reading.specs.Markup.{Inlines, no_inlines, letter, code, formatted, link, image}
use Rattle.htmd_commonmark_reading.specs.Markup.{line_break}
use Rattle.htmd_commonmark_reading.specs.Markup.{task, raw, Block, paragraph, heading, code_block, quote}
use Rattle.htmd_commonmark_reading.specs.Markup.{thematic_break, list, table, html_block, Blocks, no_blocks, block}
use Rattle.htmd_commonmark_reading.specs.Markup.{Items, no_items, item}
use Rattle.htmd_commonmark_reading.specs.Rendering.{html_of}
use Rattle.htmd_law_rendering.specs.RawTags.{RawTag, opening, closing, breaking, unknown, raw_tag}
use Rattle.htmd_law_rendering.specs.RenderedTrees.{spelled_of, pairs_of_element, bounds_section, section_name}
use Rattle.htmd_law_rendering.specs.RenderedTrees.{is_caption}
use Rattle.htmd_law_rendering.specs.RenderedTrees.{list_name}
use Rattle.htmd_law_rendering.specs.SpelledTrees.{levels}

-- ---- raw tags in pairs

-- the names of end tags that no tag before them has opened so far; none if a tag is unknown or not in its place
abbrev pub opened_names : List ℕ → List (List ℕ) → Option (List (List ℕ))
opened_names name [] = None
opened_names name (n ∷ ns) = if bytes_eq n name then Some ns else None

abbrev pub names_with : RawTag → Option (List (List ℕ)) → Option (List (List ℕ))
names_with tag None = None
names_with (opening name attributes) (Some ns) = opened_names name ns
names_with (closing name) (Some ns) = Some (name ∷ ns)
names_with (breaking form) (Some ns) = Some ns
names_with unknown (Some ns) = None

-- if all are opened in an element
abbrev pub if_all_opened : Option (List (List ℕ)) → Option (List (List ℕ)) → Option (List (List ℕ))
if_all_opened (Some []) ns = ns
if_all_opened content ns = None

abbrev pub unopened : Inlines → Option (List (List ℕ))
unopened no_inlines = Some []
unopened (letter c xs) = unopened xs
unopened (code s xs) = unopened xs
unopened (formatted f content xs) = if_all_opened (unopened content) (unopened xs)
unopened (link a t content xs) = if_all_opened (unopened content) (unopened xs)
unopened (image a t content xs) = unopened xs
unopened (line_break xs) = unopened xs
unopened (task d xs) = unopened xs
unopened (raw tag xs) = names_with (raw_tag tag) (unopened xs)

abbrev pub is_nothing_left : Option (List (List ℕ)) → Bool
is_nothing_left (Some []) = true
is_nothing_left ns = false

-- each raw tag is known, and in one list of inlines they pair
abbrev pub are_paired : Inlines → Bool
are_paired xs = is_nothing_left (unopened xs)

abbrev pub cells_are_paired : List Inlines → Bool
cells_are_paired [] = true
cells_are_paired (c ∷ cs) = are_paired c && cells_are_paired cs

abbrev pub rows_are_paired : List (List Inlines) → Bool
rows_are_paired [] = true
rows_are_paired (r ∷ rs) = cells_are_paired r && rows_are_paired rs

-- ---- lines of tags in pairs

-- without the section that a table's end has ended, as for trees
abbrev pub names_left : List (List ℕ) → List (List ℕ)
names_left [] = []
names_left (n ∷ ns) = if is_tbody n then ns else n ∷ ns

abbrev pub names_outside : List ℕ → Option (List (List ℕ)) → Option (List (List ℕ))
names_outside n None = None
names_outside n (Some ns) = Some (if bounds_section n then names_left ns else ns)

abbrev pub names_with_ends : List ℕ → Option (List (List ℕ)) → Option (List (List ℕ))
names_with_ends n None = None
names_with_ends n (Some ns) = Some (if is_table n then section_name ∷ n ∷ ns else n ∷ ns)

-- and the section again that is left of a caption
abbrev pub names_before : List ℕ → Option (List (List ℕ)) → Option (List (List ℕ))
names_before n None = None
names_before n (Some ns) = Some (if is_caption n && is_table (parent_name ns) then section_name ∷ ns else ns)

abbrev pub names_with_line : Line → Option (List (List ℕ)) → Option (List (List ℕ))
names_with_line (lines.opening name attributes) ns =
    names_before (element_name name) (names_with (opening (element_name name) (pairs_of_element attributes))
    (names_outside (element_name name) ns))
names_with_line (lines.closing name) ns = names_with_ends (element_name name) (names_outside (element_name name) ns)
names_with_line (lines.whole name attributes s) ns =
    names_before (element_name name) (names_outside (element_name name) ns)
names_with_line lines.unknown ns = None

abbrev pub names_with_lines : List (List ℕ) → Option (List (List ℕ)) → Option (List (List ℕ))
names_with_lines [] ns = ns
names_with_lines (s ∷ rest) ns = names_with_line (line_of s) (names_with_lines rest ns)

abbrev pub names_with_html : Block → Option (List (List ℕ)) → Option (List (List ℕ))
names_with_html (html_block s) ns = names_with_lines (lines_of s) ns
names_with_html b ns = ns

-- the names of end tags in lines that no line before them has opened so far
abbrev pub blocks_unopened : Blocks → Option (List (List ℕ))
blocks_unopened no_blocks = Some []
blocks_unopened (block b bs) = names_with_html b (blocks_unopened bs)

abbrev mutual
  -- lines of tags pair in each list of blocks
  pub block_is_paired : Block → Bool
  block_is_paired (paragraph xs) = are_paired xs
  block_is_paired (heading level xs) = are_paired xs
  block_is_paired (code_block language s) = true
  block_is_paired (quote bs) = is_nothing_left (blocks_unopened bs) && each_is_paired bs
  block_is_paired thematic_break = true
  block_is_paired (list start tight items) = items_are_paired items
  block_is_paired (table alignments header rows) = cells_are_paired header && rows_are_paired rows
  block_is_paired (html_block s) = true

  pub each_is_paired : Blocks → Bool
  each_is_paired no_blocks = true
  each_is_paired (block b bs) = block_is_paired b && each_is_paired bs

  pub items_are_paired : Items → Bool
  items_are_paired no_items = true
  items_are_paired (item bs rest) =
      (is_nothing_left (blocks_unopened bs) && each_is_paired bs) && items_are_paired rest

abbrev pub blocks_are_paired : Blocks → Bool
blocks_are_paired bs = is_nothing_left (blocks_unopened bs) && each_is_paired bs

-- ---- documents without elements of HTML

abbrev mutual
  -- neither elements nor their tags in lines
  pub block_has_no_elements : document.Block → Bool
  block_has_no_elements (document.quote bs) = blocks_have_no_elements bs
  block_has_no_elements (document.list start is_tight items) = items_have_no_elements items
  block_has_no_elements (document.element name attributes bs) = false
  block_has_no_elements (document.tags s) = false
  block_has_no_elements b = true

  pub blocks_have_no_elements : document.Blocks → Bool
  blocks_have_no_elements document.no_blocks = true
  blocks_have_no_elements (document.block b bs) = block_has_no_elements b && blocks_have_no_elements bs

  pub items_have_no_elements : document.Items → Bool
  items_have_no_elements document.no_items = true
  items_have_no_elements (document.item bs rest) = blocks_have_no_elements bs && items_have_no_elements rest

-- ---- where HTML allows elements

-- An element where HTML allows it, as a part of a table in one. A term and a meaning stand in another one only through
-- a list of terms, and no attribute comes twice.
abbrev pub element_is_strict : Context → List ℕ → List BlockAttribute → Bool
element_is_strict c n attributes =
    fits_table (parent_name c) n && fits_lists c n && are_distinct (attribute_names (pairs_of_element attributes))

-- what isn't a part of a table stands in none, but in a cell or a caption
abbrev pub takes_blocks : Context → Bool
takes_blocks c = not (holds_parts (parent_name c))

-- where an element stands, a row in the section, and what stands in it
abbrev pub place_of : List ℕ → Context → Context
place_of n c = if is_row n then section_name ∷ c else c

abbrev pub around_content : List ℕ → Context → Context
around_content n c = n ∷ place_of n c

abbrev mutual
  -- each element of a document may stand below these
  pub block_elements_are_strict : Context → document.Block → Bool
  block_elements_are_strict c (document.quote bs) =
      takes_blocks c && elements_are_strict (codes "blockquote" ∷ c) bs
  block_elements_are_strict c (document.list start is_tight items) =
      takes_blocks c && item_elements_are_strict (codes "li" ∷ list_name start ∷ c) items
  block_elements_are_strict c (document.element name attributes bs) =
      (element_is_strict (place_of (element_name name) c) (element_name name) attributes
      && fits_table (parent_name c) (if is_row (element_name name) then section_name else element_name name))
      && elements_are_strict (around_content (element_name name) c) bs
  block_elements_are_strict c b = takes_blocks c

  pub elements_are_strict : Context → document.Blocks → Bool
  elements_are_strict c document.no_blocks = true
  elements_are_strict c (document.block b bs) = block_elements_are_strict c b && elements_are_strict c bs

  pub item_elements_are_strict : Context → document.Items → Bool
  item_elements_are_strict c document.no_items = true
  item_elements_are_strict c (document.item bs rest) =
      elements_are_strict c bs && item_elements_are_strict c rest

-- a table has a section in it
abbrev pub levels_of_element : List ℕ → ℕ
levels_of_element n = if is_table n then 2 else 1

abbrev mutual
  -- how many elements of HTML stand in each other, without those of leaves
  pub tree_depth : document.Block → ℕ
  tree_depth (document.quote bs) = suc (trees_depth bs)
  tree_depth (document.list start is_tight items) = suc (suc (items_depth items))
  tree_depth (document.element name attributes bs) = levels_of_element (element_name name) + trees_depth bs
  tree_depth b = zero

  pub trees_depth : document.Blocks → ℕ
  trees_depth document.no_blocks = zero
  trees_depth (document.block b bs) = max (tree_depth b) (trees_depth bs)

  pub items_depth : document.Items → ℕ
  items_depth document.no_items = zero
  items_depth (document.item bs rest) = max (trees_depth bs) (items_depth rest)

-- Each element may stand where it does, and they are nested only so deep that a tree has levels left for leaves.
abbrev pub elements_fit : document.Blocks → Bool
elements_fit d = elements_are_strict below_body d && nat_le (trees_depth d) 998

-- an `a` is opened further left, or none is
abbrev pub in_anchor : Option (List (List ℕ)) → Bool
in_anchor None = false
in_anchor (Some ns) = is_open (codes "a" ∷ []) ns

-- without the first name
abbrev pub behind_first : Option (List (List ℕ)) → Option (List (List ℕ))
behind_first None = None
behind_first (Some ns) = Some (drop 1 ns)

-- an `a` opens in no other
abbrev pub raw_is_strict : Bool → RawTag → Option (List (List ℕ)) → Bool
raw_is_strict in_link (opening name attributes) ns =
    not (bytes_eq name (codes "a")) || not (in_link || in_anchor (behind_first ns))
raw_is_strict in_link tag ns = true

-- inlines in a link or an anchor, or outside
abbrev pub are_strict : Bool → Inlines → Bool
are_strict in_link no_inlines = true
are_strict in_link (letter c xs) = are_strict in_link xs
are_strict in_link (code s xs) = are_strict in_link xs
are_strict in_link (formatted f content xs) =
    are_strict (in_link || in_anchor (unopened xs)) content && are_strict in_link xs
are_strict in_link (link a t content xs) =
    not (in_link || in_anchor (unopened xs)) && are_strict true content && are_strict in_link xs
are_strict in_link (image a t content xs) = are_strict in_link xs
are_strict in_link (line_break xs) = are_strict in_link xs
are_strict in_link (task d xs) = are_strict in_link xs
are_strict in_link (raw tag xs) = raw_is_strict in_link (raw_tag tag) (unopened xs) && are_strict in_link xs

abbrev pub cells_are_strict : List Inlines → Bool
cells_are_strict [] = true
cells_are_strict (c ∷ cs) = are_strict false c && cells_are_strict cs

abbrev pub rows_are_strict : List (List Inlines) → Bool
rows_are_strict [] = true
rows_are_strict (r ∷ rs) = cells_are_strict r && rows_are_strict rs

-- the names of open elements: those that lines have opened, and those around them
abbrev pub below_open : Context → Option (List (List ℕ)) → Context
below_open c None = c
below_open c (Some ns) = ns ++ c

-- a line before such that close these
abbrev pub line_is_strict : Context → Line → Option (List (List ℕ)) → Bool
line_is_strict c (lines.opening name attributes) ns =
    element_is_strict (below_open c (behind_first (names_outside (element_name name) ns))) (element_name name)
    attributes
line_is_strict c (lines.closing name) ns = true
line_is_strict c (lines.whole name attributes s) ns =
    element_is_strict (below_open c (names_outside (element_name name) ns)) (element_name name) attributes
    && (not (holds_parts (element_name name)) || is_empty s)
line_is_strict c lines.unknown ns = true

abbrev pub lines_are_strict : Context → List (List ℕ) → Option (List (List ℕ)) → Bool
lines_are_strict c [] ns = true
lines_are_strict c (s ∷ rest) ns =
    line_is_strict c (line_of s) (names_with_lines rest ns) && lines_are_strict c rest ns

abbrev pub stands_right : Context → Option (List (List ℕ)) → Block → Bool
stands_right c ns (html_block s) = true
stands_right c ns b = takes_blocks (below_open c ns)

abbrev mutual
  -- a block before others that close these
  pub block_is_strict : Context → Option (List (List ℕ)) → Block → Bool
  block_is_strict c ns (paragraph xs) = are_strict false xs
  block_is_strict c ns (heading level xs) = nat_le 1 level && nat_le level 6 && are_strict false xs
  block_is_strict c ns (code_block language s) = true
  block_is_strict c ns (quote bs) = blocks_are_strict (codes "blockquote" ∷ below_open c ns) bs
  block_is_strict c ns thematic_break = true
  block_is_strict c ns (list start tight items) =
      items_are_strict (codes "li" ∷ list_name start ∷ below_open c ns) items
  block_is_strict c ns (table alignments header rows) = cells_are_strict header && rows_are_strict rows
  block_is_strict c ns (html_block s) = lines_are_strict c (lines_of s) ns

  pub blocks_are_strict : Context → Blocks → Bool
  blocks_are_strict c no_blocks = true
  blocks_are_strict c (block b bs) =
      (stands_right c (blocks_unopened bs) b && block_is_strict c (blocks_unopened bs) b) && blocks_are_strict c bs

  pub items_are_strict : Context → Items → Bool
  items_are_strict c no_items = true
  items_are_strict c (item bs rest) = blocks_are_strict c bs && items_are_strict c rest

-- ---- what is plain

-- A reader of HTML takes a carriage return for a line feed, and no tree has more than 1,024 levels: three are above.
pub record IsPlain (bs : Blocks) : Type 0 where
  pub paired : blocks_are_paired bs ≡ true
  pub strict : blocks_are_strict below_body bs ≡ true
  pub no_returns : lacks carriage_return (html_of bs) ≡ true
  pub shallow : levels (spelled_of bs) ≤ 1022
