-- Rows of tables and their cells (GFM 0.29, 4.10).
use Rattle.std.specs.Prelude.{ℕ, zero, suc, Bool, true, false, not, ◌&&◌, ◌==◌, if◌then◌else◌}
use Rattle.std.specs.Prelude.{List, [], ◌∷◌, reverse, Option, Some, None}
use Rattle.htmd_document.specs.declared.document.Alignment.{Alignment}
use Rattle.htmd_lexical.specs.Characters.{hyphen, colon, backslash, vertical_bar}
use Rattle.htmd_lexical.specs.CharacterClasses.{is_empty, first_is, behind_run}
use Rattle.htmd_commonmark_reading.specs.Characters.{stripped}
use Rattle.htmd_commonmark_reading.specs.Lines.{is_blank_text, onto_first}

-- ---- cells

abbrev pub without_first_bar : List ℕ → List ℕ
without_first_bar [] = []
without_first_bar (c ∷ s) = if c == vertical_bar then s else c ∷ s

-- a text at its bars, but for those with a backslash before them; the first number is the character before
abbrev pub split_at_bars : ℕ → List ℕ → List (List ℕ)
split_at_bars before [] = [] ∷ []
split_at_bars before (c ∷ s) =
    if (c == vertical_bar) && not (before == backslash)
    then [] ∷ split_at_bars c s
    else onto_first c (split_at_bars c s)

-- the cells without the last one, if that is blank
abbrev pub without_blank_last : List (List ℕ) → List (List ℕ)
without_blank_last [] = []
without_blank_last (c ∷ []) = if is_blank_text c then [] else c ∷ []
without_blank_last (c ∷ d ∷ cs) = c ∷ without_blank_last (d ∷ cs)

-- a bar with a backslash before it is a bar, in code too
abbrev pub with_bars : List ℕ → List ℕ
with_bars [] = []
with_bars (c ∷ s) = if (c == backslash) && first_is vertical_bar s then with_bars s else c ∷ with_bars s

abbrev pub cell_texts : List (List ℕ) → List (List ℕ)
cell_texts [] = []
cell_texts (c ∷ cs) = with_bars (stripped c) ∷ cell_texts cs

-- the raw cells of a row
abbrev pub cells : List ℕ → List (List ℕ)
cells s = cell_texts (without_blank_last (split_at_bars 0 (without_first_bar (stripped s))))

-- a row of so many cells: padded, or cut
abbrev pub fitted : ℕ → List (List ℕ) → List (List ℕ)
fitted zero cs = []
fitted (suc n) [] = [] ∷ fitted n []
fitted (suc n) (c ∷ cs) = c ∷ fitted n cs

-- ---- delimiter rows

abbrev pub aligned : Bool → Bool → Alignment
aligned false false = Alignment.None
aligned true false = Alignment.Left
aligned true true = Alignment.Center
aligned false true = Alignment.Right

abbrev pub is_hyphen : ℕ → Bool
is_hyphen c = c == hyphen

abbrev pub without_colon : List ℕ → List ℕ
without_colon [] = []
without_colon (c ∷ s) = if c == colon then s else c ∷ s

abbrev pub has_hyphens_alone : List ℕ → Bool
has_hyphens_alone s = first_is hyphen s && is_empty (behind_run is_hyphen s)

-- a cell of a delimiter row: hyphens, with a colon at either side or none
abbrev pub is_delimiter : List ℕ → Bool
is_delimiter s = has_hyphens_alone (reverse (without_colon (reverse (without_colon s))))

abbrev pub alignment_of : List ℕ → Alignment
alignment_of s = aligned (first_is colon s) (first_is colon (reverse s))

abbrev pub one_more_alignment : List ℕ → Option (List Alignment) → Option (List Alignment)
one_more_alignment c None = None
one_more_alignment c (Some more) = if is_delimiter c then Some (alignment_of c ∷ more) else None

abbrev pub alignments_of : List (List ℕ) → Option (List Alignment)
alignments_of [] = Some []
alignments_of (c ∷ cs) = one_more_alignment c (alignments_of cs)

-- the alignments of a row all of whose cells are of that form; one without cells has none
abbrev pub delimiter_row : List ℕ → Option (List Alignment)
delimiter_row s = alignments_of (cells s)
