-- Openers, and what a search among them may leave out.
use Rattle.std.specs.Prelude.{◌≡◌, ◌⊎◌, ℕ, ◌+◌, ◌-◌, ◌*◌, ◌%◌, ◌<◌, ◌≤◌, ◌==◌, Bool, false, true, not, ◌||◌}
use Rattle.std.specs.Prelude.{if◌then◌else◌, List, [], ◌∷◌, ◌++◌, length, take, drop, replicate, slice_index_or}
use Rattle.std.specs.Prelude.{codes, Option, Some, None}
use Rattle.std.specs.List.{AllWithin, HoldsAt}
use Rattle.htmd_document.specs.declared.document.Format.{Format}
use Rattle.htmd_document.specs.declared.document.Format.TheVariants.{Emphasis, Strong, Deleted}
use Rattle.htmd_lexical.specs.Characters.{asterisk, underscore, tilde, is_one_of}
use Rattle.htmd_commonmark_reading.specs.DelimiterRuns.{Run, is_closed_by}
use Rattle.htmd_commonmark_reader.specs.Runs.{run_of}
use Rattle.htmd_commonmark_reader.specs.declared.emphasis.Delimiter.{Delimiter}
use Rattle.htmd_commonmark_reader.specs.declared.emphasis.Searched.{Searched}
use Rattle.htmd_commonmark_reader.specs.declared.slots.Slot.{Slot}
use Rattle.htmd_commonmark_reader.specs.declared.slots.Slot.TheVariants.{Nothing}

abbrev pub IsUnfit : Run → Delimiter → Type 0
IsUnfit r d = is_closed_by (run_of d.run) r ≡ false

abbrev pub IsFit : Run → Delimiter → Type 0
IsFit r d = is_closed_by (run_of d.run) r ≡ true

abbrev pub AllUnfit : Run → List Delimiter → Type 0
AllUnfit r [] = Unit {0}
AllUnfit r (d ∷ ds) = IsUnfit r d × AllUnfit r ds

-- openers stand in the order of their places
abbrev pub AreOrdered : List Delimiter → Type 0
AreOrdered ds =
    (i j : ℕ) (d : Delimiter) → i ≤ j → j < length ds
    → (slice_index_or ds i d).from ≤ (slice_index_or ds j d).from

-- from this index on, no opener in front of this place fits
abbrev pub IsSearched : Run → List Delimiter → ℕ → ℕ → Type 0
IsSearched r ds index place =
    (j : ℕ) (d : Delimiter) → index ≤ j → j < length ds → (slice_index_or ds j d).from < place
    → IsUnfit r (slice_index_or ds j d)

-- an opener so many of whose signs are used
abbrev pub opener_less : Delimiter → ℕ → Delimiter
opener_less d n = record d { run = record d.run { unused = d.run.unused - n } }

-- a closing run so many of whose signs are used
abbrev pub closing_less : Delimiter → ℕ → Delimiter
closing_less d n = record { run = record d.run { unused = d.run.unused - n }; from = d.from + n }

-- the openers after a match
abbrev pub kept : Bool → Delimiter → List Delimiter → List Delimiter
kept true d ds = d ∷ ds
kept false d ds = ds

-- slots with something in so many of them, from a place on
abbrev pub put_at : ℕ → ℕ → Slot → List Slot → List Slot
put_at from count first slots =
    take from slots ++ (first ∷ replicate (count - 1) Nothing) ++ drop (from + count) slots

-- the format of a match
abbrev pub format_for : ℕ → ℕ → Format
format_for sign n = if sign == tilde then Deleted else if n == 1 then Emphasis else Strong

-- What an opener at an index needs for a run to use so many signs of both.
pub record IsClosable (openers : List Delimiter) (index : ℕ) (closing : Delimiter) (slots : List Slot) (n : ℕ)
    : Type 0 where
  pub in_range : index < length openers
  pub some : 0 < n
  pub of_opener : n ≤ (slice_index_or openers index closing).run.unused
  pub of_closing : n ≤ closing.run.unused
  pub before : (slice_index_or openers index closing).from + (slice_index_or openers index closing).run.unused
      ≤ closing.from
  pub after : closing.from + closing.run.unused ≤ length slots

-- ---- what was searched for

abbrev pub is_sign : ℕ → Bool
is_sign c = is_one_of (codes "*_~") c

abbrev pub sign_number : ℕ → ℕ
sign_number c = if c == asterisk then 0 else if c == underscore then 1 else 2

abbrev pub bit : Bool → ℕ
bit b = if b then 1 else 0

-- what an opener that fits a closing run depends on
abbrev pub kind : Run → ℕ
kind r = sign_number r.sign * 6 + bit r.opens * 3 + r.count % 3

-- what is known of closing runs of each kind, none of which stands behind this place
abbrev pub AreSearched : List Delimiter → List Searched → ℕ → Type 0
AreSearched ds known end =
    (r : Run) (e : Searched) → is_sign r.sign ≡ true
    → IsSearched r ds (slice_index_or known (kind r) e).index (slice_index_or known (kind r) e).place
    × ((slice_index_or known (kind r) e).place ≤ end)

-- tildes close as many
abbrev pub closes : Run → Run → Bool
closes r opened = not (r.sign == tilde) || (opened.unused == r.unused)

-- the nearest opener that fits
pub record IsNearest (r : Run) (ds : List Delimiter) (i : ℕ) : Type 0 where
  pub within : i < length ds
  pub fits : HoldsAt (IsFit r) ds i
  pub later : AllWithin (IsUnfit r) ds (i + 1) (length ds)

-- the opener that a run closes
abbrev pub IsPartner : Run → List Delimiter → Option ℕ → Type 0
IsPartner r ds None =
    (r.closes ≡ true) → (AllWithin (IsUnfit r) ds 0 (length ds))
    ⊎ ((i : ℕ) × IsNearest r ds i × HoldsAt (λ d. closes r (run_of d.run) ≡ false) ds i)
IsPartner r ds (Some i) =
    (r.closes ≡ true) × IsNearest r ds i × HoldsAt (λ d. closes r (run_of d.run) ≡ true) ds i
