-- The blocks that closed blocks are once all definitions are known (CommonMark 0.31.2, 5.3 and appendix, phase 2), and
-- tasks (GFM 0.29, 5.3).
use Rattle.std.specs.Prelude.{ℕ, Bool, false, not, ◌&&◌, ◌||◌, ◌==◌, if◌then◌else◌, List, [], ◌∷◌, ◌++◌}
use Rattle.std.specs.Prelude.{drop, Option, codes}
use Rattle.htmd_lexical.specs.Characters.{left_square_bracket, right_square_bracket, space, is_one_of}
use Rattle.htmd_lexical.specs.CharacterClasses.{behind_run}
use Rattle.htmd_commonmark_reading.specs.Characters.{is_space_or_tab, is_white}
use Rattle.htmd_commonmark_reading.specs.Boxes.{Container, quoting, listing, ClosedBlock, ClosedBlocks}
use Rattle.htmd_commonmark_reading.specs.Boxes.{no_closed_blocks, closed_block}
use Rattle.htmd_commonmark_reading.specs.Boxes as closed
use Rattle.htmd_commonmark_reading.specs.Markup.{Inlines, task, Block, paragraph, heading, code_block, quote}
use Rattle.htmd_commonmark_reading.specs.Markup.{thematic_break, list, table, html_block, Blocks, no_blocks, block}
use Rattle.htmd_commonmark_reading.specs.Markup.{Items, no_items, item}
use Rattle.htmd_commonmark_reading.specs.Brackets.{References, inlines}

-- ---- definitions (4.7)

abbrev mutual
  pub part_definitions : ClosedBlock → References → References
  part_definitions (closed.text s) rest = rest
  part_definitions (closed.headed level s) rest = rest
  part_definitions (closed.code language s) rest = rest
  part_definitions closed.rule rest = rest
  part_definitions (closed.html s) rest = rest
  part_definitions (closed.grid alignments header rows) rest = rest
  part_definitions (closed.defined d) rest = d ∷ rest
  part_definitions (closed.boxed kind ps) rest = collected ps ++ rest

  -- all definitions of a document, in order
  pub collected : ClosedBlocks → References
  collected no_closed_blocks = []
  collected (closed_block g p ps) = part_definitions p (collected ps)

-- ---- blocks and lists of items

-- Blocks, each with whether a blank line stands before it: a block that shows, a definition, or a list with its sign.
pub data Gapped : Type 0 where
  no_gapped : Gapped
  shown : (gap : Bool) (first : Block) (rest : Gapped) → Gapped
  hidden : (gap : Bool) (rest : Gapped) → Gapped
  listed :
      (gap : Bool) (sign : ℕ) (start : Option ℕ) (is_tight : Bool) (items : Items) (rest : Gapped) → Gapped

abbrev pub plain : Gapped → Blocks
plain no_gapped = no_blocks
plain (shown g b rest) = block b (plain rest)
plain (hidden g rest) = plain rest
plain (listed g sign start is_tight items rest) = block (list start is_tight items) (plain rest)

abbrev pub any_gap : Gapped → Bool
any_gap no_gapped = false
any_gap (shown g b rest) = g || any_gap rest
any_gap (hidden g rest) = g || any_gap rest
any_gap (listed g sign start is_tight items rest) = g || any_gap rest

-- a blank line stands between two blocks
abbrev pub inner_gap : Gapped → Bool
inner_gap no_gapped = false
inner_gap (shown g b rest) = any_gap rest
inner_gap (hidden g rest) = any_gap rest
inner_gap (listed g sign start is_tight items rest) = any_gap rest

abbrev pub one_item : Bool → ℕ → Option ℕ → Gapped → Gapped → Gapped
one_item g sign number content rest =
    listed g sign number (not (inner_gap content)) (item (plain content) no_items) rest

-- Items that follow each other and have one sign are a list; it is loose if a blank line stands between two of them, or
-- between two blocks of one.
abbrev pub with_item : Bool → ℕ → Option ℕ → Gapped → Gapped → Gapped
with_item g sign number content (listed h other start is_tight items rest) =
    if sign == other
    then listed g sign number (not (inner_gap content) && not h && is_tight) (item (plain content) items) rest
    else one_item g sign number content (listed h other start is_tight items rest)
with_item g sign number content rest = one_item g sign number content rest

abbrev pub with_box : Bool → Container → Gapped → Gapped → Gapped
with_box g quoting content rest = shown g (quote (plain content)) rest
with_box g (listing sign number columns) content rest = with_item g sign number content rest

-- ---- tasks (GFM 5.3)

abbrev pub begins_with_blank : List ℕ → Bool
begins_with_blank [] = false
begins_with_blank (c ∷ s) = is_space_or_tab c

-- `[`, a space or `x`, `]` and white space
abbrev pub is_task : List ℕ → Bool
is_task (a ∷ b ∷ c ∷ s) =
    (a == left_square_bracket) && is_one_of (codes " xX") b && (c == right_square_bracket) && begins_with_blank s
is_task _ = false

abbrev pub is_checked : List ℕ → Bool
is_checked (a ∷ b ∷ s) = not (b == space)
is_checked _ = false

-- the text that an item begins with
abbrev pub item_text : References → List ℕ → Inlines
item_text refs s =
    if is_task s then task (is_checked s) (inlines refs (behind_run is_white (drop 3 s))) else inlines refs s

-- ---- all blocks

abbrev pub cell_inlines : References → List (List ℕ) → List Inlines
cell_inlines refs [] = []
cell_inlines refs (c ∷ cs) = inlines refs c ∷ cell_inlines refs cs

abbrev pub row_inlines : References → List (List (List ℕ)) → List (List Inlines)
row_inlines refs [] = []
row_inlines refs (r ∷ rs) = cell_inlines refs r ∷ row_inlines refs rs

abbrev mutual
  -- a closed block before others; the text of a paragraph is read so
  pub with_closed_block : References → (List ℕ → Inlines) → Bool → ClosedBlock → Gapped → Gapped
  with_closed_block refs reads g (closed.text s) rest = shown g (paragraph (reads s)) rest
  with_closed_block refs reads g (closed.headed level s) rest = shown g (heading level (inlines refs s)) rest
  with_closed_block refs reads g (closed.code language s) rest = shown g (code_block language s) rest
  with_closed_block refs reads g closed.rule rest = shown g thematic_break rest
  with_closed_block refs reads g (closed.html s) rest = shown g (html_block s) rest
  with_closed_block refs reads g (closed.grid alignments header rows) rest =
      shown g (table alignments (cell_inlines refs header) (row_inlines refs rows)) rest
  with_closed_block refs reads g (closed.defined d) rest = hidden g rest
  with_closed_block refs reads g (closed.boxed quoting ps) rest = with_box g quoting (gapped refs ps) rest
  with_closed_block refs reads g (closed.boxed (listing sign number columns) ps) rest =
      with_box g (listing sign number columns) (item_gapped refs ps) rest

  pub gapped : References → ClosedBlocks → Gapped
  gapped refs no_closed_blocks = no_gapped
  gapped refs (closed_block g p ps) = with_closed_block refs (inlines refs) g p (gapped refs ps)

  -- the blocks of an item, which may begin with a task
  pub item_gapped : References → ClosedBlocks → Gapped
  item_gapped refs no_closed_blocks = no_gapped
  item_gapped refs (closed_block g p ps) = with_closed_block refs (item_text refs) g p (gapped refs ps)
