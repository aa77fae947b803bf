-- Which items are a list, and whether it is tight (CommonMark 0.31.2, 5.3), by what follows each block.
use Rattle.std.specs.Prelude.{ℕ, Bool, true, false, not, ◌&&◌, ◌||◌, ◌==◌, if◌then◌else◌, List, [], ◌∷◌, drop, reverse}
use Rattle.std.specs.Prelude.{Option, Some, None}
use Rattle.htmd_commonmark_reading.specs.Boxes.{Container, quoting, listing}
use Rattle.htmd_commonmark_reader.specs.ClosedParts.{ClosedPart, begin, end, definition, single}
use Rattle.htmd_commonmark_reader.specs.declared.lists.Ahead.{Ahead}
use Rattle.htmd_commonmark_reader.specs.declared.lists.ListAhead.{ListAhead}
use Rattle.htmd_commonmark_reader.specs.declared.lists.ItemMark.{ItemMark}
use Rattle.htmd_commonmark_reader.specs.declared.lists.Survey as declared

abbrev pub nothing_ahead : Ahead
nothing_ahead = record { gap = false; inner_gap = false; list = None }

abbrev pub any_gap : Ahead → Bool
any_gap a = a.gap || a.inner_gap

-- a block that is no item, before others
abbrev pub before_block : Bool → Ahead → Ahead
before_block g after = record { gap = g; inner_gap = any_gap after; list = None }

-- an item with this sign goes on with the list that follows
abbrev pub goes_on : ℕ → Option ListAhead → Bool
goes_on sign None = false
goes_on sign (Some l) = sign == l.sign

abbrev pub is_tight_list : Option ListAhead → Bool
is_tight_list None = true
is_tight_list (Some l) = l.is_tight

-- an item with this sign and content, before other blocks
abbrev pub item_mark : ℕ → Ahead → Ahead → ItemMark
item_mark sign content after = record {
  is_tight = if goes_on sign after.list
      then not content.inner_gap && not after.gap && is_tight_list after.list
      else not content.inner_gap;
  goes_on = goes_on sign after.list;
}

abbrev pub before_item : Bool → ℕ → ItemMark → Ahead → Ahead
before_item g sign mark after = record {
  gap = g;
  inner_gap = if mark.goes_on then after.inner_gap else any_gap after;
  list = Some (record { sign = sign; is_tight = mark.is_tight });
}

abbrev pub first_ahead : List Ahead → Ahead
first_ahead [] = nothing_ahead
first_ahead (a ∷ rest) = a

-- what is ahead in the innermost container that is open, in those around it, and all items to come
pub record Survey : Type 0 where
  pub ahead : Ahead
  pub outer : List Ahead
  pub marks : List ItemMark

abbrev pub surveyed_as : Ahead → List Ahead → List ItemMark → Survey
surveyed_as a outer marks = record { ahead = a; outer = outer; marks = marks }

abbrev pub with_begin : Bool → Container → Survey → Survey
with_begin g quoting v = surveyed_as (before_block g (first_ahead v.outer)) (drop 1 v.outer) v.marks
with_begin g (listing sign number columns) v =
    let mark = item_mark sign v.ahead (first_ahead v.outer) in
    surveyed_as (before_item g sign mark (first_ahead v.outer)) (drop 1 v.outer) (mark ∷ v.marks)

abbrev pub surveyed : ClosedPart → Survey → Survey
surveyed (begin g kind) v = with_begin g kind v
surveyed end v = surveyed_as nothing_ahead (v.ahead ∷ v.outer) v.marks
surveyed (definition g) v = surveyed_as (before_block g v.ahead) v.outer v.marks
surveyed (single g p) v = surveyed_as (before_block g v.ahead) v.outer v.marks

abbrev pub survey : List ClosedPart → Survey
survey [] = surveyed_as nothing_ahead [] []
survey (p ∷ ps) = surveyed p (survey ps)

abbrev pub survey_of : declared.Survey → Survey
survey_of s = surveyed_as s.ahead (reverse s.outer.items) (reverse s.marks.items)

abbrev pub first_mark : List ItemMark → ItemMark
first_mark [] = record { is_tight = false; goes_on = false }
first_mark (m ∷ ms) = m
