-- Which normal documents are like that of a page, so that they come back from theirs.
use Rattle.std.specs.Prelude.{ℕ, suc, ◌+◌, ◌*◌, ◌==◌, Bool, true, false, not, ◌&&◌, ◌||◌, nat_le}
use Rattle.std.specs.Prelude.{nat_lt}
use Rattle.std.specs.Prelude.{if◌then◌else◌, List, [], ◌∷◌, length}
use Rattle.std.specs.Prelude.{Option, Some, None}
use Rattle.std.specs.Prelude.{◌++◌}
use Rattle.std.specs.Option.{unwrap_or}
use Rattle.std.specs.List.{list_all, list_any}
use Rattle.std.specs.Str.{chars, is_utf8, bytes_eq}
use Rattle.htmd_document.specs.Documents.{Inline, text, code, formatted, link, image, anchor, line_break, task}
use Rattle.htmd_document.specs.Documents.{Inlines, no_inlines, inline, Block, paragraph, heading, code_block, quote}
use Rattle.htmd_document.specs.Documents.{thematic_break, Blocks, no_blocks, block}
use Rattle.htmd_document.specs.Documents.{list, Items, no_items, item, table, element, BlockAttribute}
use Rattle.htmd_document.specs.FlatDocuments.{flattened}
use Rattle.htmd_document.specs.declared.document.AttributeName.{AttributeName}
use Rattle.htmd_document.specs.declared.document.AttributeName.TheVariants as attribute
use Rattle.htmd_document.specs.declared.document.BlockElement.{BlockElement}
use Rattle.htmd_document.specs.declared.document.BlockElement.TheVariants as an
use Rattle.htmd_lexical.specs.Characters.{null}
use Rattle.htmd_lexical.specs.CharacterClasses.{is_empty}
use Rattle.htmd_document.specs.Formats.{Format, Abbreviation}
use Rattle.htmd_commonmark_reading.specs.Rendering.{stays_in_address}
use Rattle.htmd_document_of_tree.specs.Limits.{characters, always_written, Written, nothing_written, with_text}
use Rattle.htmd_document.specs.NormalDocuments.{item_count, ends_filled}
use Rattle.htmd_document.specs.NormalInlines.{has_none}
use Rattle.htmd_document.specs.TightItems.{is_tight_item}
use Rattle.htmd_flow.specs.DescriptionViews.{is_filled_element}
use Rattle.htmd_flow.specs.Languages.{is_name, is_none}
use Rattle.htmd_flow.specs.Lists.{holds_paragraph, greatest_in}
use Rattle.htmd_shown.specs.Attributes.{in_line, is_to_part}
use Rattle.htmd_shown.specs.Roles.{is_among}
use Rattle.htmd_shown.specs.ShownTexts.{is_shown}
use Rattle.htmd_shown.specs.Spaces.{is_blank_text}
use Rattle.htmd_shown.specs.Pieces.{greatest_count}
use Rattle.htmd_shown.specs.Marks.{is_one, is_usual_sign, letters}
use Rattle.htmd_law_returning.specs.ElementPlaces.{in_flow, inside, is_mixed, stands_here}
use Rattle.htmd_law_returning.specs.SettledTables.{is_border_at_most, are_rows_of_element, rows_in, are_of_cell}
use Rattle.htmd_law_returning.specs.SettledTables.{end_at_captions}
use Rattle.htmd_law_returning.specs.WholeLines.{begins_white_text, ends_white_text, is_whole}

-- a page shows neither U+0000 nor U+FEFF
abbrev pub is_plain_text : List ℕ → Bool
is_plain_text s = list_all is_shown (chars s)

-- no white space is beside a break
abbrev pub ends_in_white : Inline → Bool
ends_in_white (text s) = ends_white_text (chars s)
ends_in_white x = false

abbrev pub begins_in_white : Inline → Bool
begins_in_white (text s) = begins_white_text (chars s)
begins_in_white x = false

abbrev pub is_white_at_break : Inline → Inlines → Bool
is_white_at_break x (inline line_break rest) = ends_in_white x
is_white_at_break line_break (inline y rest) = begins_in_white y
is_white_at_break x rest = false

-- as a page has it: a page encodes other bytes
abbrev pub is_settled_address : List ℕ → Bool
is_settled_address s = list_all stays_in_address s

-- one line with single spaces, and none at its ends
abbrev pub is_one_line : List ℕ → Bool
is_one_line s = bytes_eq (in_line s) s

abbrev pub is_settled_title : Option (List ℕ) → Bool
is_settled_title None = true
is_settled_title (Some s) = is_one_line s

abbrev mutual
  -- the characters that are seen
  pub letters_of : Inline → List ℕ
  letters_of (text s) = letters s
  letters_of (code s) = letters s
  letters_of (formatted f content) = letters_in content
  letters_of (link a t content) = letters_in content
  letters_of (image a t description) = letters description
  letters_of x = []

  pub letters_in : Inlines → List ℕ
  letters_in no_inlines = []
  letters_in (inline x rest) = letters_of x ++ letters_in rest

abbrev mutual
  pub has_image : Inline → Bool
  has_image (formatted f content) = have_images content
  has_image (link a t content) = have_images content
  has_image (image a t description) = true
  has_image x = false

  pub have_images : Inlines → Bool
  have_images no_inlines = false
  have_images (inline x rest) = has_image x || have_images rest

-- one usual sign alone, as #
abbrev pub is_sign_alone : Inlines → Bool
is_sign_alone content = is_one is_usual_sign (letters_in content) && not (have_images content)

-- such a link to a part of the page: in a heading it is for its own place
abbrev pub is_own_place : List ℕ → Inlines → Bool
is_own_place address content = is_to_part address && is_sign_alone content

abbrev mutual
  -- no link is for its own place
  pub is_away : Inline → Bool
  is_away (formatted f content) = are_away content
  is_away (link address title content) = not (is_own_place address content) && are_away content
  is_away x = true

  pub are_away : Inlines → Bool
  are_away no_inlines = true
  are_away (inline x rest) = is_away x && are_away rest

abbrev pub is_settled_link : List ℕ → Option (List ℕ) → Bool
is_settled_link address title = is_settled_address address && is_settled_title title

abbrev mutual
  pub is_settled_inline : Inline → Bool
  is_settled_inline (text s) = is_plain_text s
  is_settled_inline (code s) = is_plain_text s
  is_settled_inline (formatted f content) = are_settled_inlines content
  is_settled_inline (link address title content) = is_settled_link address title && are_settled_inlines content
  is_settled_inline (image address title description) =
      is_settled_address address && is_settled_title title && is_one_line description
  is_settled_inline (anchor id) = true
  is_settled_inline line_break = true
  is_settled_inline (task is_checked) = false

  pub are_settled_inlines : Inlines → Bool
  are_settled_inlines no_inlines = true
  are_settled_inlines (inline x rest) =
      is_settled_inline x && not (is_white_at_break x rest) && are_settled_inlines rest

-- of a paragraph, a heading or a cell
abbrev pub is_settled_line : Inlines → Bool
is_settled_line xs = is_whole xs && are_settled_inlines xs

-- what stands behind the box of a task and the space that belongs to it
abbrev pub behind_box : Inlines → Inlines
behind_box (inline (task is_checked) (inline (text (c ∷ [])) xs)) = xs
behind_box (inline (task is_checked) (inline (text (c ∷ d ∷ s)) xs)) = inline (text (d ∷ s)) xs
behind_box xs = xs

abbrev pub is_settled_paragraph : Inlines → Bool
is_settled_paragraph xs = is_settled_line (behind_box xs)

-- Code shows as a whole, and not as white space alone.
abbrev pub is_settled_code : List ℕ → Bool
is_settled_code s = is_utf8 s && list_all is_shown (chars s) && not (is_blank_text s)

-- a page names it, and not by a name for none, as `text`
abbrev pub has_settled_language : Option (List ℕ) → Bool
has_settled_language None = true
has_settled_language (Some s) = is_name s && not (is_none s)

-- ---- lists

-- a page shows that a list is loose: by a paragraph in an item, or by more than a tight item has, with the tags of
-- elements in lines
abbrev pub show_loose : Items → Bool
show_loose no_items = false
show_loose (item bs rest) = (holds_paragraph bs || not (is_tight_item (flattened bs))) || show_loose rest

abbrev pub are_tight_items : Items → Bool
are_tight_items no_items = true
are_tight_items (item bs rest) = is_tight_item (flattened bs) && are_tight_items rest

-- neither a table nor an element stands in an item of a tight list of two items or more
abbrev pub stay_tight : Items → Bool
stay_tight no_items = true
stay_tight (item bs no_items) = true
stay_tight (item bs (item cs rest)) = are_tight_items (item bs (item cs rest))

abbrev pub is_right_list : Bool → Items → Bool
is_right_list is_tight items = if is_tight then stay_tight items else show_loose items

-- ---- tables

-- a page has no column in which nothing shows at its end
abbrev pub shows_last_column : List Inlines → List (List Inlines) → Bool
shows_last_column header rows = ends_filled header || list_any (λ row. length row == length header) rows

abbrev pub is_settled_table : List Inlines → List (List Inlines) → Bool
is_settled_table header rows =
    list_all is_settled_line header && list_all (list_all is_settled_line) rows && shows_last_column header rows

-- ---- elements

abbrev pub is_open : AttributeName → Bool
is_open attribute.Open = true
is_open name = false

abbrev pub is_open_at_most : List BlockAttribute → Bool
is_open_at_most [] = true
is_open_at_most (a ∷ []) = is_open a.name && is_empty a.value
is_open_at_most (a ∷ b ∷ rest) = false

abbrev pub has_no_attributes : List BlockAttribute → Bool
has_no_attributes [] = true
has_no_attributes (a ∷ rest) = false

-- something stands in an element of these
abbrev pub has_filled_element : Blocks → Bool
has_filled_element no_blocks = false
has_filled_element (block b bs) = is_filled_element b || has_filled_element bs

-- in a title, as in a heading, no link is for its own place
abbrev mutual
  pub block_is_away : Block → Bool
  block_is_away (paragraph content) = are_away content
  block_is_away (heading level content) = are_away content
  block_is_away (quote content) = blocks_are_away content
  block_is_away (list start is_tight items) = items_are_away items
  block_is_away (table alignments header rows) = list_all are_away header && list_all (list_all are_away) rows
  block_is_away (element name attributes content) = blocks_are_away content
  block_is_away b = true

  pub blocks_are_away : Blocks → Bool
  blocks_are_away no_blocks = true
  blocks_are_away (block b bs) = block_is_away b && blocks_are_away bs

  pub items_are_away : Items → Bool
  items_are_away no_items = true
  items_are_away (item bs rest) = blocks_are_away bs && items_are_away rest

abbrev pub is_of_figure : Block → Bool
is_of_figure (element an.FigureCaption attributes content) = true
is_of_figure b = false

abbrev pub has_caption : Blocks → Bool
has_caption no_blocks = false
has_caption (block b bs) = is_of_figure b || has_caption bs

-- a `details` is open or not, something stands in a term or a meaning of each list of these, summaries, terms and
-- captions are titles, and a figure has a caption; a table has a border of 1 at most, and captions, rows and cells that
-- come back: else a page has what is in it
abbrev pub is_settled_element : BlockElement → List BlockAttribute → Blocks → Bool
is_settled_element an.Details attributes content = is_open_at_most attributes
is_settled_element an.Summary attributes content = has_no_attributes attributes && blocks_are_away content
is_settled_element an.Terms attributes content = has_no_attributes attributes && has_filled_element content
is_settled_element an.Term attributes content = has_no_attributes attributes && blocks_are_away content
is_settled_element an.Meaning attributes content = has_no_attributes attributes
is_settled_element an.Figure attributes content = has_no_attributes attributes && has_caption content
is_settled_element an.FigureCaption attributes content = has_no_attributes attributes && blocks_are_away content
is_settled_element an.Table attributes content =
    is_border_at_most attributes
    && (end_at_captions (rows_in None content) && are_rows_of_element attributes (rows_in None content))
is_settled_element an.Caption attributes content = has_no_attributes attributes && blocks_are_away content
is_settled_element an.Row attributes content = has_no_attributes attributes
is_settled_element an.Cell attributes content = are_of_cell attributes
is_settled_element an.HeaderCell attributes content = are_of_cell attributes

-- ---- blocks

abbrev mutual
  pub is_settled_block : Block → Bool
  is_settled_block (paragraph content) = is_settled_paragraph content
  is_settled_block (heading level content) = is_settled_line content && are_away content
  is_settled_block (code_block language s) = has_settled_language language && is_settled_code s
  is_settled_block (quote content) = are_settled_blocks content
  is_settled_block thematic_break = true
  is_settled_block (list start is_tight items) = is_right_list is_tight items && are_settled_items items
  is_settled_block (table alignments header rows) = is_settled_table header rows
  is_settled_block (element name attributes content) =
      stands_here in_flow name && is_settled_element name attributes content && are_settled_in name content
  is_settled_block b = false

  -- what stands in an element: its parts, and what stands anywhere
  pub are_settled_in : BlockElement → Blocks → Bool
  are_settled_in outer no_blocks = true
  are_settled_in outer (block (element name attributes content) bs) =
      (stands_here (inside outer) name && is_settled_element name attributes content && are_settled_in name content)
      && are_settled_in outer bs
  are_settled_in outer (block b bs) = (is_mixed (inside outer) && is_settled_block b) && are_settled_in outer bs

  pub are_settled_blocks : Blocks → Bool
  are_settled_blocks no_blocks = true
  are_settled_blocks (block b bs) = is_settled_block b && are_settled_blocks bs

  pub are_settled_items : Items → Bool
  are_settled_items no_items = true
  are_settled_items (item bs rest) = are_settled_blocks bs && are_settled_items rest

-- ---- numbers

-- of a list in so many lists and quotes: from 1 on a page numbers whatever comes
abbrev pub has_fitting_numbers : ℕ → Option ℕ → ℕ → Bool
has_fitting_numbers nested None count = true
has_fitting_numbers nested (Some start) count = start == 1 || nat_le (start + count) (greatest_in nested + 1)

abbrev mutual
  pub block_numbers_fit : ℕ → Block → Bool
  block_numbers_fit nested (quote content) = numbers_fit (suc nested) content
  block_numbers_fit nested (list start is_tight items) =
      has_fitting_numbers nested start (item_count items) && item_numbers_fit (suc nested) items
  block_numbers_fit nested (element name attributes content) = numbers_fit nested content
  block_numbers_fit nested b = true

  pub numbers_fit : ℕ → Blocks → Bool
  numbers_fit nested no_blocks = true
  numbers_fit nested (block b bs) = block_numbers_fit nested b && numbers_fit nested bs

  pub item_numbers_fit : ℕ → Items → Bool
  item_numbers_fit nested no_items = true
  item_numbers_fit nested (item bs rest) = numbers_fit nested bs && item_numbers_fit nested rest

-- ---- how much links and abbreviations carry

abbrev mutual
  -- how many things stand in an inline
  pub count_of : Inline → ℕ
  count_of (formatted f content) = count_among content
  count_of (link a t content) = count_among content
  count_of x = 1

  pub count_among : Inlines → ℕ
  count_among no_inlines = 0
  count_among (inline x rest) = count_of x + count_among rest

-- what the title of an abbreviation weighs
abbrev pub title_weight : Format → ℕ
title_weight (Abbreviation title) = suc (characters title)
title_weight f = 0

abbrev mutual
  -- the characters of addresses and titles, and one more, for each thing in their links and abbreviations
  pub weight_of : Inline → ℕ
  weight_of (formatted f content) = title_weight f * count_among content + weight_among content
  weight_of (link address title content) =
      suc (characters address + characters (unwrap_or title [])) * count_among content + weight_among content
  weight_of x = 0

  pub weight_among : Inlines → ℕ
  weight_among no_inlines = 0
  weight_among (inline x rest) = weight_of x + weight_among rest

-- of each cell, together
abbrev pub over_cells : (Inlines → ℕ) → List Inlines → ℕ
over_cells measure [] = 0
over_cells measure (c ∷ cs) = measure c + over_cells measure cs

abbrev pub over_rows : (Inlines → ℕ) → List (List Inlines) → ℕ
over_rows measure [] = 0
over_rows measure (r ∷ rs) = over_cells measure r + over_rows measure rs

abbrev pub weight_of_cells : List Inlines → ℕ
weight_of_cells cells = over_cells weight_among cells

abbrev pub weight_of_rows : List (List Inlines) → ℕ
weight_of_rows rows = over_rows weight_among rows

abbrev mutual
  pub weight_of_block : Block → ℕ
  weight_of_block (paragraph content) = weight_among content
  weight_of_block (heading level content) = weight_among content
  weight_of_block (quote content) = weight_in content
  weight_of_block (list start is_tight items) = weight_of_items items
  weight_of_block (table alignments header rows) = weight_of_cells header + weight_of_rows rows
  weight_of_block (element name attributes content) = weight_in content
  weight_of_block b = 0

  pub weight_in : Blocks → ℕ
  weight_in no_blocks = 0
  weight_in (block b bs) = weight_of_block b + weight_in bs

  pub weight_of_items : Items → ℕ
  weight_of_items no_items = 0
  weight_of_items (item bs rest) = weight_in bs + weight_of_items rest

-- ---- how much a document says

-- after the address and title of one more link or abbreviation, which count once
abbrev pub with_own : Written → List ℕ → List ℕ → Written
with_own w address title =
    if is_among w.pairs (address ++ null ∷ title) then w
    else record {
      count = w.count + (characters address + characters title);
      pairs = (address ++ null ∷ title) ∷ w.pairs;
    }

abbrev pub with_format : Format → Written → Written
with_format (Abbreviation title) w = with_own w [] title
with_format f w = w

abbrev mutual
  -- what is written so far, with the characters of texts and codes, and with each pair of address and title once
  pub said_of : Inline → Written → Written
  said_of (text s) w = with_text w s
  said_of (code s) w = with_text w s
  said_of (formatted f content) w = said_among content (with_format f w)
  said_of (link address title content) w = said_among content (with_own w address (unwrap_or title []))
  said_of x w = w

  pub said_among : Inlines → Written → Written
  said_among no_inlines w = w
  said_among (inline x rest) w = said_among rest (said_of x w)

abbrev pub said_of_cells : List Inlines → Written → Written
said_of_cells [] w = w
said_of_cells (c ∷ cs) w = said_of_cells cs (said_among c w)

abbrev pub said_of_rows : List (List Inlines) → Written → Written
said_of_rows [] w = w
said_of_rows (r ∷ rs) w = said_of_rows rs (said_of_cells r w)

abbrev mutual
  pub said_of_block : Block → Written → Written
  said_of_block (paragraph content) w = said_among content w
  said_of_block (heading level content) w = said_among content w
  said_of_block (code_block language s) w = with_text w s
  said_of_block (quote content) w = said_in content w
  said_of_block (list start is_tight items) w = said_of_items items w
  said_of_block (element name attributes content) w = said_in content w
  said_of_block (table alignments header rows) w = said_of_rows rows (said_of_cells header w)
  said_of_block b w = w

  pub said_in : Blocks → Written → Written
  said_in no_blocks w = w
  said_in (block b bs) w = said_in bs (said_of_block b w)

  pub said_of_items : Items → Written → Written
  said_of_items no_items w = w
  said_of_items (item bs rest) w = said_of_items rest (said_in bs w)

-- how much is written in all
abbrev pub said : Blocks → ℕ
said d = (said_in d nothing_written).count

-- a page's budget pays for its links; what is in one is counted up to a number
abbrev pub is_light : Blocks → Bool
is_light d = nat_lt (weight_in d) greatest_count && nat_le (weight_in d) (16 * said d + always_written)

-- ---- headers of tables

-- something shows in one: else the table is an element of a rich page
abbrev pub shows_header : List Inlines → Bool
shows_header header = list_any (λ cell. not (has_none cell)) header

abbrev mutual
  pub has_bare_header : Block → Bool
  has_bare_header (quote content) = have_bare_headers content
  has_bare_header (list start is_tight items) = items_have_bare_headers items
  has_bare_header (table alignments header rows) = not (shows_header header)
  has_bare_header (element name attributes content) = have_bare_headers content
  has_bare_header b = false

  pub have_bare_headers : Blocks → Bool
  have_bare_headers no_blocks = false
  have_bare_headers (block b bs) = has_bare_header b || have_bare_headers bs

  pub items_have_bare_headers : Items → Bool
  items_have_bare_headers no_items = false
  items_have_bare_headers (item bs rest) = have_bare_headers bs || items_have_bare_headers rest

-- In eight lists and quotes or more, numbers that don't begin at 1 are below 100, and past a budget a page's links are
-- their content.
abbrev pub are_settled : Blocks → Bool
are_settled d = are_settled_blocks d && numbers_fit 0 d && is_light d
