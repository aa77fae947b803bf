-- How containers take lines, and lazy continuation lines (CommonMark 0.31.2, 5.1, 5.2 and appendix, phase 1).
use Rattle.std.specs.Prelude.{ℕ, Bool, true, false, not, ◌&&◌, nat_le, if◌then◌else◌, List, [], ◌∷◌}
use Rattle.std.specs.Prelude.{Option, Some, None}
use Rattle.htmd_lexical.specs.Characters.{greater_than_sign}
use Rattle.htmd_lexical.specs.CharacterClasses.{first_is}
use Rattle.htmd_commonmark_reading.specs.Lines.{Line, is_blank, indent, cut}
use Rattle.htmd_commonmark_reading.specs.Boxes.{ClosedBlocks, no_closed_blocks, closed_block, Container, quoting}
use Rattle.htmd_commonmark_reading.specs.Boxes.{listing, paragraph, Open, nothing, leaf, within, Box, box, joined}
use Rattle.htmd_commonmark_reading.specs.Boxes.{closed, shut, was_blank, in_paragraph}
use Rattle.htmd_commonmark_reading.specs.BlockStarts.{After, alone, lazy, Start, no_start, whole, first_line, started}
use Rattle.htmd_commonmark_reading.specs.BlockStarts.{behind_quote, within_box}
use Rattle.htmd_commonmark_reading.specs.LeafBlocks.{begun, longer, on_leaf}

-- ---- what a container takes of a line

abbrev pub is_nothing : Open → Bool
is_nothing nothing = true
is_nothing (leaf l) = false
is_nothing (within k done g o) = false

abbrev pub holds_nothing : ClosedBlocks → Open → Bool
holds_nothing no_closed_blocks o = is_nothing o
holds_nothing (closed_block g p ps) o = false

-- a line goes on with a quote if it begins with `>`, after at most three columns (5.1)
abbrev pub quoted : Line → Option Line
quoted l = if first_is greater_than_sign l.text then Some (behind_quote l) else None

-- A line goes on with an item if it is indented as its content is; a blank one does, unless the item is empty (5.2).
abbrev pub goes_with_item : Bool → ℕ → Line → Bool
goes_with_item is_empty columns l = if is_blank l then not is_empty else nat_le columns (indent l)

abbrev pub taken : Container → Bool → Line → Option Line
taken quoting is_empty l = quoted (cut 3 l)
taken (listing sign number columns) is_empty l =
    if goes_with_item is_empty columns l then Some (cut columns l) else None

-- ---- lazy continuation lines

-- the innermost paragraph takes the line
abbrev pub lazily : Open → Line → Open
lazily nothing l = nothing
lazily (leaf (paragraph earlier last)) l = leaf (longer earlier last l)
lazily (leaf f) l = leaf f
lazily (within k done g o) l = within k done g (lazily o l)

abbrev pub after_container : Bool → After
after_container true = lazy
after_container false = alone

-- a box whose open container ends before a line that starts this
abbrev pub after_open : ClosedBlocks → Bool → Open → Line → Start → Box
after_open done g o l s = begun (joined done (closed g o)) (was_blank g o) l s

-- a box whose open container doesn't go on with a line, which starts this; the flag: it may be a lazy line
abbrev pub left : Bool → ClosedBlocks → Bool → Open → Line → Start → Box
left true done g o l no_start = box done g (lazily o l)
left true done g o l (whole p) = after_open done g o l (whole p)
left true done g o l (first_line i) = after_open done g o l (first_line i)
left false done g o l s = after_open done g o l s

abbrev pub may_be_lazy : Open → Line → Bool
may_be_lazy o l = in_paragraph o && not (is_blank l)

-- ---- one more line

abbrev pub inside : ClosedBlocks → Bool → Container → Box → Box
inside done g k b = box done g (within_box k b)

-- a box after a line whose markers up to that box are cut off
abbrev pub fed : ClosedBlocks → Bool → Open → Line → Box
fed done g nothing l = begun done g l (started alone l)
fed done g (leaf f) l = on_leaf done g f l
fed done g (within k d h o) l =
    elim (taken k (holds_nothing d o) l) [
      | Some r ↦ inside done g k (fed d h o r)
      | None ↦
          left (may_be_lazy o l) done g (within k d h o) l (started (after_container (may_be_lazy o l)) l)
    ]

abbrev pub fed_all : Box → List Line → Box
fed_all b [] = b
fed_all b (l ∷ ls) = fed_all (fed b.done b.gap b.inner l) ls

-- the closed blocks of lines
abbrev pub parsed : List Line → ClosedBlocks
parsed ls = shut (fed_all (box no_closed_blocks false nothing) ls)
