-- Whose anchors come back: a page's stand right before what shows, and each is a place of its own.
use Rattle.std.specs.Prelude.{ℕ, Bool, true, false, not, ◌&&◌, ◌||◌, if◌then◌else◌, List, [], ◌∷◌}
use Rattle.std.specs.Prelude.{◌++◌, drop, None}
use Rattle.std.specs.List.{list_all, list_any, flat_map}
use Rattle.htmd_document.specs.Documents.{Inline, formatted, link, anchor, Inlines, no_inlines, inline, Block}
use Rattle.htmd_document.specs.Documents.{paragraph, heading, quote, thematic_break, list, table, element, Blocks}
use Rattle.htmd_document.specs.Documents.{no_blocks, block, Items, no_items, item}
use Rattle.htmd_document.specs.declared.document.BlockElement.{BlockElement}
use Rattle.htmd_document.specs.declared.document.BlockElement.TheVariants as an
use Rattle.htmd_document.specs.AnchorIds.{ids_of_line, has_unique_ids}
use Rattle.htmd_document.specs.LoneAnchors.{all_stand}
use Rattle.htmd_document.specs.NormalInlines.{is_anchor, has_none}
use Rattle.htmd_document_of_tree.specs.declared.anchors.Anchors.{Anchors}
use Rattle.htmd_document_of_tree.specs.declared.anchors.Anchors.TheVariants as which
use Rattle.htmd_document_of_tree.specs.Leadings.{is_linked_to, leadings_to}
use Rattle.htmd_shown.specs.Attributes.{is_to_part}
use Rattle.htmd_law_returning.specs.NoAnchors.{have_no_anchors, block_has_no_anchors, blocks_have_no_anchors}
use Rattle.htmd_law_returning.specs.NoAnchors.{items_have_no_anchors}
use Rattle.htmd_law_returning.specs.SettledDocuments.{is_one_line, behind_box}
use Rattle.htmd_law_returning.specs.WholeLines.{begins_white, is_gap, is_same_around}

-- ---- where they stand

-- from what shows first on
abbrev pub past_gaps : Inlines → Inlines
past_gaps no_inlines = no_inlines
past_gaps (inline x xs) = if is_gap x || is_anchor x then past_gaps xs else inline x xs

-- the same format goes on there
abbrev pub goes_on : Inline → Inlines → Bool
goes_on x no_inlines = false
goes_on x (inline y ys) = is_same_around x y

-- with ids of a kind
module _ (is_id : List ℕ → Bool) where
  abbrev mutual
    pub inline_keeps : Inline → Bool
    inline_keeps (formatted f content) = all_keep content
    inline_keeps (link address title content) = all_keep content
    inline_keeps (anchor id) = is_id id
    inline_keeps x = true

    -- behind an anchor stands no white space of any kind and no break, and no format goes on behind white space, breaks
    -- and anchors alone
    pub all_keep : Inlines → Bool
    all_keep no_inlines = true
    all_keep (inline x xs) =
        inline_keeps x && not (is_anchor x && begins_white xs) && not (goes_on x (past_gaps xs)) && all_keep xs

-- an id is one line
abbrev pub line_keeps : Inlines → Bool
line_keeps xs = all_keep is_one_line xs

-- a heading's stand at its beginning
abbrev pub heading_keeps : Inlines → Bool
heading_keeps (inline (anchor id) xs) = heading_keeps xs
heading_keeps xs = have_no_anchors xs

-- what heads others
abbrev pub is_headed_element : BlockElement → Bool
is_headed_element an.Summary = true
is_headed_element an.Term = true
is_headed_element an.FigureCaption = true
is_headed_element an.Caption = true
is_headed_element name = false

abbrev mutual
  -- nothing is in it but thematic breaks
  pub is_unseen : Block → Bool
  is_unseen (quote content) = are_unseen content
  is_unseen thematic_break = true
  is_unseen (list start is_tight items) = items_unseen items
  is_unseen (element name attributes content) = are_unseen content
  is_unseen b = false

  pub are_unseen : Blocks → Bool
  are_unseen no_blocks = true
  are_unseen (block b bs) = is_unseen b && are_unseen bs

  pub items_unseen : Items → Bool
  items_unseen no_items = true
  items_unseen (item bs rest) = are_unseen bs && items_unseen rest

-- the anchors of cells stand at the beginning of the first in which something is
abbrev pub cells_lead : List Inlines → Bool
cells_lead [] = true
cells_lead (c ∷ cs) = heading_keeps c && (if has_none c then cells_lead cs else list_all have_no_anchors cs)

abbrev mutual
  -- the anchors of a block stand at its beginning, or behind the box of a task there; in a heading and in what heads
  -- others they do so anyway
  pub block_leads : Block → Bool
  block_leads (paragraph content) = heading_keeps (behind_box content)
  block_leads (heading level content) = true
  block_leads (quote content) = title_keeps content
  block_leads (list start is_tight items) = items_lead items
  block_leads (table alignments header rows) = cells_lead header && list_all (list_all have_no_anchors) rows
  block_leads (element name attributes content) = is_headed_element name || title_keeps content
  block_leads b = block_has_no_anchors b

  -- the anchors in it stand at the beginning of a line, behind nothing but thematic breaks
  pub title_keeps : Blocks → Bool
  title_keeps no_blocks = true
  title_keeps (block b bs) = block_leads b && (if is_unseen b then title_keeps bs else blocks_have_no_anchors bs)

  pub items_lead : Items → Bool
  items_lead no_items = true
  items_lead (item bs rest) = title_keeps bs && (if are_unseen bs then items_lead rest else items_have_no_anchors rest)

-- so it is in each line, heading and title
abbrev mutual
  pub block_lines_stand : Block → Bool
  block_lines_stand (paragraph content) = line_keeps content
  block_lines_stand (heading level content) = line_keeps content && heading_keeps content
  block_lines_stand (quote content) = lines_stand content
  block_lines_stand (list start is_tight items) = item_lines_stand items
  block_lines_stand (table alignments header rows) =
      list_all line_keeps header && list_all (list_all line_keeps) rows
  block_lines_stand (element name attributes content) =
      lines_stand content && (not (is_headed_element name) || title_keeps content)
  block_lines_stand b = true

  pub lines_stand : Blocks → Bool
  lines_stand no_blocks = true
  lines_stand (block b bs) = block_lines_stand b && lines_stand bs

  pub item_lines_stand : Items → Bool
  item_lines_stand no_items = true
  item_lines_stand (item bs rest) = lines_stand bs && item_lines_stand rest

-- ---- their lines

-- a line, and whether it is a heading
pub record Line : Type 0 where
  pub is_heading : Bool
  pub content : Inlines

abbrev pub line : Bool → Inlines → Line
line is_heading content = record { is_heading = is_heading; content = content }

abbrev pub cells_of : List Inlines → List Line
cells_of cells = flat_map (λ xs. line false xs ∷ []) cells

abbrev mutual
  pub lines_of : Block → List Line
  lines_of (paragraph content) = line false content ∷ []
  lines_of (heading level content) = line true content ∷ []
  lines_of (quote content) = lines_in content
  lines_of (list start is_tight items) = lines_among items
  lines_of (table alignments header rows) = cells_of header ++ flat_map cells_of rows
  lines_of (element name attributes content) = lines_in content
  lines_of b = []

  pub lines_in : Blocks → List Line
  lines_in no_blocks = []
  lines_in (block b bs) = lines_of b ++ lines_in bs

  pub lines_among : Items → List Line
  lines_among no_items = []
  lines_among (item bs rest) = lines_in bs ++ lines_among rest

-- where each anchor is a place of its own
abbrev pub anchors_stand : Blocks → Bool
anchors_stand d = lines_stand d && all_stand true d && has_unique_ids d

-- ---- the links to them

-- by what follows `#`
abbrev pub leads_to : List ℕ → List ℕ → Bool
leads_to address id = is_to_part address && is_linked_to (leadings_to None (drop 1 address)) id

abbrev mutual
  pub leads : List ℕ → Inline → Bool
  leads id (formatted f content) = lead id content
  leads id (link address title content) = leads_to address id
  leads id x = false

  pub lead : List ℕ → Inlines → Bool
  lead id no_inlines = false
  lead id (inline x xs) = leads id x || lead id xs

abbrev pub lines_lead : List ℕ → List Line → Bool
lines_lead id ls = list_any (λ (l : Line). lead id l.content) ls

-- a heading doesn't lead to its own anchors; the lines before, and those from here on
abbrev pub are_led_to : List Line → List Line → Bool
are_led_to before [] = true
are_led_to before (l ∷ after) =
    list_all (λ id. lines_lead id before || (not l.is_heading && lead id l.content) || lines_lead id after)
    (ids_of_line l.content)
    && are_led_to (l ∷ before) after

-- A page keeps all of them, or those that links lead to, or none.
abbrev pub anchors_stay : Anchors → Blocks → Bool
anchors_stay which.None d = blocks_have_no_anchors d
anchors_stay which.Linked d = anchors_stand d && are_led_to [] (lines_in d)
anchors_stay which.All d = anchors_stand d
