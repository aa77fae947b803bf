-- A text as one sees it: where raw tags of inlines match within one list of inlines, they are formats or code, `<br>`
-- is a line break, and an image's description is plain text (CommonMark 0.31.2, 6.4 and 6.6); a row has no empty cells
-- at its end. The flat document that it then is.
use Rattle.std.specs.Prelude.{ℕ, Bool, true, false, ◌&&◌, if◌then◌else◌, List, [], ◌∷◌, ◌++◌, codes}
use Rattle.std.specs.Prelude.{Option, Some, None}
use Rattle.std.specs.Str.{bytes_eq}
use Rattle.htmd_document.specs.Formats.{Format}
use Rattle.htmd_document.specs.Formats.{Emphasis, Strong, Deleted, Superscript, Subscript, Inserted, Underlined, Marked}
use Rattle.htmd_document.specs.Formats.{Small, Keyboard, Abbreviation}
use Rattle.htmd_document.specs.Documents as document
use Rattle.htmd_document.specs.Tags.{end_of_anchor, abbreviation_tag}
use Rattle.htmd_lexical.specs.Characters.{space}
use Rattle.htmd_lexical.specs.CharacterClasses.{is_among}
use Rattle.htmd_commonmark_reading.specs.Markup.{Inlines, no_inlines, letter, code, formatted, link, image, line_break}
use Rattle.htmd_commonmark_reading.specs.Markup.{task, raw, Block, paragraph, heading, code_block, quote}
use Rattle.htmd_commonmark_reading.specs.Markup.{thematic_break, list, table, html_block, Blocks, no_blocks, block}
use Rattle.htmd_commonmark_reading.specs.Markup.{Items, no_items, item, joined, letters, plain_text}
use Rattle.htmd_commonmark_reading.specs.Anchors.{anchor_id, abbreviation_title}

-- ---- tags that are seen

-- what a pair of tags makes of what is between them
pub data Pair : Type 0 where
  format_pair : (f : Format) → Pair
  code_pair : Pair

pub record Tag : Type 0 where
  pub name : List ℕ
  pub open_tag : List ℕ
  pub pair : Pair

-- one without attributes
abbrev pub plain_tag : List ℕ → Pair → Tag
plain_tag name pair = record { name = name; open_tag = codes "<" ++ name ++ codes ">"; pair = pair }

abbrev pub abbreviation : List ℕ → Tag
abbreviation title =
    record { name = codes "abbr"; open_tag = abbreviation_tag title; pair = format_pair (Abbreviation title) }

abbrev pub tags : List Tag
tags =
    plain_tag (codes "em") (format_pair Emphasis)
    ∷ plain_tag (codes "strong") (format_pair Strong)
    ∷ plain_tag (codes "del") (format_pair Deleted)
    ∷ plain_tag (codes "sup") (format_pair Superscript)
    ∷ plain_tag (codes "sub") (format_pair Subscript)
    ∷ plain_tag (codes "ins") (format_pair Inserted)
    ∷ plain_tag (codes "u") (format_pair Underlined)
    ∷ plain_tag (codes "mark") (format_pair Marked)
    ∷ plain_tag (codes "small") (format_pair Small)
    ∷ plain_tag (codes "kbd") (format_pair Keyboard)
    ∷ plain_tag (codes "code") code_pair
    ∷ []

abbrev pub closing_tag : Tag → List ℕ
closing_tag t = codes "</" ++ t.name ++ codes ">"

-- what a raw tag is for the view
pub data Role : Type 0 where
  opens : (t : Tag) → Role
  closes : (t : Tag) → Role
  breaks : Role
  stays : Role

abbrev pub role_among : List Tag → List ℕ → Role
role_among [] s = if is_among (codes "<br>" ∷ codes "<br/>" ∷ codes "<br />" ∷ []) s then breaks else stays
role_among (t ∷ ts) s =
    if bytes_eq t.open_tag s then opens t else if bytes_eq (closing_tag t) s then closes t else role_among ts s

-- an abbreviation has a title
abbrev pub role_by_title : Option (List ℕ) → List ℕ → Role
role_by_title None s =
    if bytes_eq (closing_tag (abbreviation [])) s then closes (abbreviation []) else role_among tags s
role_by_title (Some title) s = opens (abbreviation title)

abbrev pub role : List ℕ → Role
role s = role_by_title (abbreviation_title s) s

-- ---- the stack of open tags

pub data Tags : Type 0 where
  outside : (items : Inlines) → Tags
  inside : (t : Tag) (items : Inlines) (below : Tags) → Tags

abbrev pub with_seen : Tags → Inlines → Tags
with_seen (outside items) xs = outside (joined items xs)
with_seen (inside t items below) xs = inside t (joined items xs) below

-- open tags that nothing closes stay raw
abbrev pub all_seen : Tags → Inlines → Inlines
all_seen (outside items) xs = joined items xs
all_seen (inside t items below) xs = all_seen below (raw t.open_tag (joined items xs))

-- characters and nothing else, and at least one
abbrev pub is_text_alone : Inlines → Bool
is_text_alone (letter c no_inlines) = true
is_text_alone (letter c xs) = is_text_alone xs
is_text_alone xs = false

-- Code has no formats, links, breaks or tags in it, so its tags take text alone. Around anything else they stay raw.
abbrev pub paired : Tag → Pair → Inlines → Inlines
paired t (format_pair f) content = formatted f content no_inlines
paired t code_pair content =
    if is_text_alone content then code (plain_text content) no_inlines
    else raw t.open_tag (joined content (raw (closing_tag t) no_inlines))

-- A closing tag matches the last open one of its name; those between the two stay raw. The second value is what there
-- is if nothing matches.
abbrev pub closed_tag : Tag → Tags → Tags → Inlines → Tags
closed_tag t whole (outside items) content = with_seen whole (raw (closing_tag t) no_inlines)
closed_tag t whole (inside u items below) content =
    if bytes_eq u.name t.name
    then with_seen below (paired u u.pair (joined items content))
    else closed_tag t whole below (raw u.open_tag (joined items content))

abbrev pub with_raw : Tags → List ℕ → Role → Tags
with_raw b tag (opens t) = inside t no_inlines b
with_raw b tag (closes t) = closed_tag t b b no_inlines
with_raw b tag breaks = with_seen b (line_break no_inlines)
with_raw b tag stays = with_seen b (raw tag no_inlines)

-- ---- inlines and blocks as they are seen

abbrev pub seen : Tags → Inlines → Tags
seen b no_inlines = b
seen b (letter c xs) = seen (with_seen b (letter c no_inlines)) xs
seen b (code s xs) = seen (with_seen b (code s no_inlines)) xs
seen b (formatted f content xs) =
    seen (with_seen b (formatted f (all_seen (seen (outside no_inlines) content) no_inlines) no_inlines)) xs
seen b (link a t content xs) =
    seen (with_seen b (link a t (all_seen (seen (outside no_inlines) content) no_inlines) no_inlines)) xs
seen b (image a t content xs) =
    seen (with_seen b (image a t
    (letters (plain_text (all_seen (seen (outside no_inlines) content) no_inlines)) no_inlines)
    no_inlines)) xs
seen b (line_break xs) = seen (with_seen b (line_break no_inlines)) xs
seen b (task d xs) = seen (with_seen b (task d no_inlines)) xs
seen b (raw tag xs) = seen (with_raw b tag (role tag)) xs

abbrev pub seen_inlines : Inlines → Inlines
seen_inlines xs = all_seen (seen (outside no_inlines) xs) no_inlines

abbrev pub seen_row : List Inlines → List Inlines
seen_row [] = []
seen_row (c ∷ cs) = seen_inlines c ∷ seen_row cs

abbrev pub has_none : Inlines → Bool
has_none no_inlines = true
has_none xs = false

abbrev pub has_no_cell : List Inlines → Bool
has_no_cell [] = true
has_no_cell (c ∷ cs) = false

-- cells without the empty ones at their end
abbrev pub filled_front : List Inlines → List Inlines
filled_front [] = []
filled_front (c ∷ cs) = if has_none c && has_no_cell (filled_front cs) then [] else c ∷ filled_front cs

-- in a row the first cell is one in any case
abbrev pub without_empty_end : List Inlines → List Inlines
without_empty_end [] = []
without_empty_end (c ∷ cs) = c ∷ filled_front cs

abbrev pub seen_rows : List (List Inlines) → List (List Inlines)
seen_rows [] = []
seen_rows (r ∷ rs) = without_empty_end (seen_row r) ∷ seen_rows rs

abbrev mutual
  pub seen_block : Block → Block
  seen_block (paragraph xs) = paragraph (seen_inlines xs)
  seen_block (heading level xs) = heading level (seen_inlines xs)
  seen_block (code_block language s) = code_block language s
  seen_block (quote bs) = quote (seen_blocks bs)
  seen_block thematic_break = thematic_break
  seen_block (list start is_tight items) = list start is_tight (seen_items items)
  seen_block (table alignments header rows) = table alignments (seen_row header) (seen_rows rows)
  seen_block (html_block s) = html_block s

  pub seen_blocks : Blocks → Blocks
  seen_blocks no_blocks = no_blocks
  seen_blocks (block b bs) = block (seen_block b) (seen_blocks bs)

  pub seen_items : Items → Items
  seen_items no_items = no_items
  seen_items (item bs rest) = item (seen_blocks bs) (seen_items rest)

-- ---- the flat document that these are, if no other raw inlines are left

abbrev pub with_first : document.Inline → Option document.Inlines → Option document.Inlines
with_first x None = None
with_first x (Some xs) = Some (document.inline x xs)

-- a byte of text before inlines
abbrev pub with_letter : ℕ → Option document.Inlines → Option document.Inlines
with_letter c None = None
with_letter c (Some (document.inline (document.text s) xs)) = Some (document.inline (document.text (c ∷ s)) xs)
with_letter c (Some xs) = Some (document.inline (document.text (c ∷ [])) xs)

abbrev pub with_content :
    (document.Inlines → document.Inline) → Option document.Inlines → Option document.Inlines
    → Option document.Inlines
with_content make None rest = None
with_content make (Some content) rest = with_first (make content) rest

-- an anchor before inlines, where two raw tags are one
abbrev pub with_anchor : Option (List ℕ) → List ℕ → Option document.Inlines → Option document.Inlines
with_anchor None end xs = None
with_anchor (Some id) end xs = if bytes_eq end end_of_anchor then with_first (document.anchor id) xs else None

-- In a document a space stands behind the box of a task. Of raw tags only anchors can stand in one: a tag with an id,
-- and right behind it the end tag.
abbrev pub document_inlines : Inlines → Option document.Inlines
document_inlines no_inlines = Some document.no_inlines
document_inlines (letter c xs) = with_letter c (document_inlines xs)
document_inlines (code s xs) = with_first (document.code s) (document_inlines xs)
document_inlines (formatted f content xs) =
    with_content (document.formatted f) (document_inlines content) (document_inlines xs)
document_inlines (link a t content xs) =
    with_content (document.link a t) (document_inlines content) (document_inlines xs)
document_inlines (image a t content xs) = with_first (document.image a t (plain_text content)) (document_inlines xs)
document_inlines (line_break xs) = with_first document.line_break (document_inlines xs)
document_inlines (task d xs) = with_first (document.task d) (with_letter space (document_inlines xs))
document_inlines (raw tag (raw end xs)) = with_anchor (anchor_id tag) end (document_inlines xs)
document_inlines (raw tag xs) = None

-- both or none
abbrev pub and_list : {A : Type 0} → Option A → Option (List A) → Option (List A)
and_list None rest = None
and_list (Some x) None = None
and_list (Some x) (Some xs) = Some (x ∷ xs)

abbrev pub document_row : List Inlines → Option (List document.Inlines)
document_row [] = Some []
document_row (c ∷ cs) = and_list (document_inlines c) (document_row cs)

abbrev pub document_rows : List (List Inlines) → Option (List (List document.Inlines))
document_rows [] = Some []
document_rows (r ∷ rs) = and_list (document_row r) (document_rows rs)

abbrev pub option_of : {A B : Type 0} → (A → B) → Option A → Option B
option_of f None = None
option_of f (Some x) = Some (f x)

abbrev pub option_of_both : {A B C : Type 0} → (A → B → C) → Option A → Option B → Option C
option_of_both f None y = None
option_of_both f (Some x) None = None
option_of_both f (Some x) (Some y) = Some (f x y)

abbrev mutual
  pub document_block : Block → Option document.Block
  document_block (paragraph xs) = option_of document.paragraph (document_inlines xs)
  document_block (heading level xs) = option_of (document.heading level) (document_inlines xs)
  document_block (code_block language s) = Some (document.code_block language s)
  document_block (quote bs) = option_of document.quote (document_blocks bs)
  document_block thematic_break = Some document.thematic_break
  document_block (list start is_tight items) = option_of (document.list start is_tight) (document_items items)
  document_block (table alignments header rows) =
      option_of_both (document.table alignments) (document_row header) (document_rows rows)
  document_block (html_block s) = Some (document.tags s)

  pub document_blocks : Blocks → Option document.Blocks
  document_blocks no_blocks = Some document.no_blocks
  document_blocks (block b bs) = option_of_both document.block (document_block b) (document_blocks bs)

  pub document_items : Items → Option document.Items
  document_items no_items = Some document.no_items
  document_items (item bs rest) = option_of_both document.item (document_blocks bs) (document_items rest)
