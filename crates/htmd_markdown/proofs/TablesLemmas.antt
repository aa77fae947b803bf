-- Lines of a table, cell by cell.
use Rattle.std.proofs.Common.{◌≡◌, ℕ, zero, suc, ◌+◌, ◌-◌, ◌<◌, ◌≤◌, true, false, List, [], ◌∷◌, ◌++◌, length}
use Rattle.std.proofs.Common.{get_or, take, drop, map, refl, sym, ap, ◌∙◌, arith, append_assoc, length-append, ⊎_elim}
use Rattle.std.proofs.Common.{codes}
use Rattle.std.specs.Prelude.{not, ◌&&◌, ◌==◌, nat_lt, replicate, cond, All, String, string_bytes}
use Rattle.std.specs.List.{slice_split, list_all}
use Rattle.std.specs.Str.{chars}
use Rattle.std.proofs.lemmas.Bool.{and_parts, cases_Bool, not-true}
use Rattle.std.proofs.lemmas.Bool.Decides.{nat_tests}
use Rattle.std.proofs.lemmas.List.{length-map, length-replicate, get_or_append_left, get_or-append_right, get_or-map}
use Rattle.std.proofs.lemmas.List.{get_or-replicate, get_or_past, drop_more, drop_all, take_at}
use Rattle.std.proofs.lemmas.List.Folds.{list_all-append}
use Rattle.std.proofs.lemmas.List.Sums.{AllPass-from_list_all, sum_by-append}
use Rattle.std.proofs.lemmas.List.Splits.{slice_split_at}
use Rattle.std.proofs.lemmas.Str.{IsUtf8-nil, IsUtf8-string_bytes}
use Rattle.htmd_lexical.specs.Characters.{line_feed, space, vertical_bar}
use Rattle.htmd_text.specs.Trims.{trimmed_text}
use Rattle.htmd_lexical.specs.WhiteSpace.{is_document_white_space}
use Rattle.htmd_markdown.specs.Tables.{normalised_cell, line_cells, padded_cell, barred_cells, line}
use Rattle.htmd_markdown.specs.TableReading.{read_row, bars}
use Rattle.htmd_markdown.specs.CellBytes.{bar}
use Rattle.htmd_markdown.proofs.TrimmedTexts.{IsBare, trimmed_is}
use Rattle.htmd_markdown.proofs.CellsLemmas.{IsCell, lacks, normalised_is_cell}

-- ---- writing, cell by cell

-- a cell between its spaces, put piece by piece
pub padded_pushed : (out cell pad : List ℕ) → (((out ++ space ∷ []) ++ cell) ++ pad) ++ codes " |"
    ≡ (out ++ space ∷ (cell ++ (pad ++ space ∷ []))) ++ bar
padded_pushed out cell pad =
    append_assoc ((out ++ space ∷ []) ++ cell) pad (codes " |")
    ∙ append_assoc (out ++ space ∷ []) cell (pad ++ codes " |")
    ∙ append_assoc out (space ∷ []) (cell ++ (pad ++ codes " |"))
    ∙ ap (λ l. out ++ space ∷ (cell ++ l)) (sym (append_assoc pad (space ∷ []) bar))
    ∙ ap (λ l. out ++ space ∷ l) (sym (append_assoc cell (pad ++ space ∷ []) bar))
    ∙ sym (append_assoc out (space ∷ (cell ++ (pad ++ space ∷ []))) bar)

-- what is still to be put of a line
abbrev pub left : List (List ℕ) → List ℕ → ℕ → List ℕ
left cells widths i = barred_cells (drop i cells) (drop i widths) ++ line_feed ∷ []

pub line_begun : (out : List ℕ) (cells : List (List ℕ)) (widths : List ℕ)
    → (out ++ bar) ++ left cells widths 0 ≡ out
    ++ (line cells widths ++ line_feed ∷ [])
line_begun out cells widths = append_assoc out bar (left cells widths 0)

pub line_more : (out : List ℕ) (cells : List (List ℕ)) (widths : List ℕ) (i : ℕ) → i < length cells
    → i < length widths
    → ((out ++ padded_cell (get_or cells i []) (get_or widths i 0)) ++ bar) ++ left cells widths (i + 1) ≡ out
    ++ left cells widths i
line_more out cells widths i within lt =
    let cell = padded_cell (get_or cells i []) (get_or widths i 0) in
    let rest = barred_cells (drop (i + 1) cells) (drop (i + 1) widths) in
    let here : barred_cells (drop i cells) (drop i widths) ≡ cell ++ vertical_bar ∷ rest =
    ap (λ l. barred_cells l (drop i widths)) (drop_more cells i [] within)
    ∙ ap (λ l. barred_cells (get_or cells i [] ∷ drop (i + 1) cells) l) (drop_more widths i 0 lt) in
    append_assoc (out ++ cell) bar (rest ++ line_feed ∷ [])
    ∙ append_assoc out cell (vertical_bar ∷ (rest ++ line_feed ∷ []))
    ∙ ap (λ l. out ++ l) (sym (append_assoc cell (vertical_bar ∷ rest) (line_feed ∷ [])))
    ∙ ap (λ l. out ++ (l ++ line_feed ∷ [])) (sym here)

none_left : (cells : List (List ℕ)) → barred_cells cells [] ≡ []
none_left [] = refl
none_left (cell ∷ cells) = refl

pub line_ended : (out : List ℕ) (cells : List (List ℕ)) (widths : List ℕ) (i : ℕ) → length widths ≤ i
    → out ++ line_feed ∷ [] ≡ out ++ left cells widths i
line_ended out cells widths i past =
    ap (λ l. out ++ (l ++ line_feed ∷ [])) (sym (ap (λ l. barred_cells (drop i cells) l) (drop_all i widths past)
    ∙ none_left (drop i cells)))

pub line_cells-length : (columns : ℕ) (cells : List (List ℕ)) → length (line_cells columns cells) ≡ length cells
    + (columns - length cells)
line_cells-length columns cells =
    length-append (map normalised_cell cells) (replicate (columns - length cells) [])
    ∙ ap (λ n. n + length (replicate {A = List ℕ} (columns - length cells) [])) (length-map cells normalised_cell)
    ∙ ap (λ n. length cells + n) (length-replicate {A = List ℕ} (columns - length cells) [])

-- the cell of a column, empty if it is missing
pub cell_at : (columns : ℕ) (cells : List (List ℕ)) (i : ℕ) → i < columns
    → get_or (line_cells columns cells) i [] ≡ normalised_cell (get_or cells i [])
cell_at columns cells i lt =
    let size = length-map cells normalised_cell in
    ⊎_elim
    (λ (yes : nat_lt i (length cells) ≡ true).
    let within : i < length cells = grind (arith, nat_tests) in
    get_or_append_left (map normalised_cell cells) (replicate (columns - length cells) []) [] i (omega (arith, size))
    ∙ get_or-map normalised_cell cells i [] [] within)
    (λ (no : nat_lt i (length cells) ≡ false).
    let past : length cells ≤ i = grind (arith, nat_tests) in
    get_or-append_right (map normalised_cell cells) (replicate (columns - length cells) [])
    (length cells) i [] size past
    ∙ get_or-replicate (columns - length cells) (i - length cells) [] [] (omega arith)
    ∙ ap normalised_cell (sym (get_or_past cells i [] past)))
    (cases_Bool (nat_lt i (length cells)))

-- ---- cells of a line

-- each is a cell as it is written
abbrev pub AreCells : List (List ℕ) → Type 0
AreCells [] = Unit {0}
AreCells (cell ∷ cells) = IsCell cell × AreCells cells

empty_cell : IsCell []
empty_cell = record {
  text = IsUtf8-nil;
  bare = record { front = tt; back = tt };
  bars = refl;
  line_feeds = refl;
}

empty_cells : (n : ℕ) → AreCells (replicate n [])
empty_cells zero = tt
empty_cells (suc n) = (empty_cell, empty_cells n)

both_cells : (front back : List (List ℕ)) → AreCells front → AreCells back → AreCells (front ++ back)
both_cells [] back ours theirs = theirs
both_cells (cell ∷ front) back ours theirs = (ours.0, both_cells front back ours.1 theirs)

normalised_are_cells : {Z : Type 0} (cells : List (String Z))
    → AreCells (map normalised_cell (map (λ cell. string_bytes cell) cells))
normalised_are_cells [] = tt
normalised_are_cells (cell ∷ cells) =
    (normalised_is_cell (string_bytes cell) (IsUtf8-string_bytes cell), normalised_are_cells cells)

pub row_cells : {Z : Type 0} (columns : ℕ) (cells : List (String Z))
    → AreCells (line_cells columns (map (λ cell. string_bytes cell) cells))
row_cells columns cells =
    let texts = map (λ cell. string_bytes cell) cells in
    both_cells (map normalised_cell texts) (replicate (columns - length texts) []) (normalised_are_cells cells)
    (empty_cells (columns - length texts))

-- ---- reading

spaces_white : (n : ℕ) → list_all is_document_white_space (replicate n space) ≡ true
spaces_white zero = refl
spaces_white (suc n) = spaces_white n

spaces_lack : (n c : ℕ) → (space == c) ≡ false → lacks c (replicate n space) ≡ true
spaces_lack zero c other = refl
spaces_lack (suc n) c other = ap (λ first. not first && lacks c (replicate n space)) other ∙ spaces_lack n c other

padded_trimmed : (cell : List ℕ) (width : ℕ) → IsBare is_document_white_space cell
    → trimmed_text is_document_white_space (padded_cell cell width) ≡ cell
padded_trimmed cell width bare =
    let pad = replicate (width - length (chars cell)) space in
    trimmed_is is_document_white_space (padded_cell cell width) cell (record {
      before = space ∷ [];
      after = pad ++ space ∷ [];
      whole = refl;
      cut = refl;
      cut_behind = list_all-append is_document_white_space pad (space ∷ [])
          ∙ ap (λ front. front && true) (spaces_white (width - length (chars cell)));
      bare = bare;
    })

pub padded_lacks : (cell : List ℕ) (width c : ℕ) → (space == c) ≡ false → lacks c cell ≡ true
    → lacks c (padded_cell cell width) ≡ true
padded_lacks cell width c other none =
    let n = width - length (chars cell) in
    let pad = replicate n space in
    let ends : lacks c (pad ++ space ∷ []) ≡ true =
    list_all-append (λ b. not (b == c)) pad (space ∷ [])
    ∙ ap (λ front. front && (not (space == c) && true)) (spaces_lack n c other)
    ∙ ap (λ is. not is && true) other in
    ap (λ is. not is && lacks c (cell ++ (pad ++ space ∷ []))) other
    ∙ list_all-append (λ b. not (b == c)) cell (pad ++ space ∷ [])
    ∙ ap (λ front. front && lacks c (pad ++ space ∷ [])) none
    ∙ ends

-- the texts between the bars
abbrev pub paddeds : List (List ℕ) → List ℕ → List (List ℕ)
paddeds [] widths = []
paddeds (cell ∷ cells) [] = []
paddeds (cell ∷ cells) (width ∷ widths) = padded_cell cell width ∷ paddeds cells widths

pub none_of : (c : ℕ) (s : List ℕ) → lacks c s ≡ true → All (λ b. (b == c) ≡ false) s
none_of c s all = λ k d lt. not-true _ (AllPass-from_list_all (λ b. not (b == c)) s all k d lt)

parts_of : (cells : List (List ℕ)) (widths : List ℕ) → AreCells cells
    → slice_split (λ b. b == vertical_bar) (barred_cells cells widths ++ line_feed ∷ []) ≡ paddeds cells widths
    ++ (line_feed ∷ []) ∷ []
parts_of [] widths are = refl
parts_of (cell ∷ cells) [] are = refl
parts_of (cell ∷ cells) (width ∷ widths) are =
    ap (slice_split (λ b. b == vertical_bar))
    (append_assoc (padded_cell cell width) (vertical_bar ∷ barred_cells cells widths) (line_feed ∷ []))
    ∙ slice_split_at (λ b. b == vertical_bar) (padded_cell cell width) vertical_bar
    (barred_cells cells widths ++ line_feed ∷ [])
    (none_of vertical_bar (padded_cell cell width) (padded_lacks cell width vertical_bar refl are.0.bars)) refl
    ∙ ap (λ l. padded_cell cell width ∷ l) (parts_of cells widths are.1)

all_trimmed : (cells : List (List ℕ)) (widths : List ℕ) → length cells ≡ length widths → AreCells cells
    → map (trimmed_text is_document_white_space) (paddeds cells widths) ≡ cells
all_trimmed [] widths same are = refl
all_trimmed (cell ∷ cells) [] same are = absurd (omega arith)
all_trimmed (cell ∷ cells) (width ∷ widths) same are =
    ap (λ l. l ∷ map (trimmed_text is_document_white_space) (paddeds cells widths))
    (padded_trimmed cell width are.0.bare)
    ∙ ap (λ l. cell ∷ l) (all_trimmed cells widths (omega arith) are.1)

inner_of : (inner : List (List ℕ)) (first last : List ℕ) → let parts = first ∷ (inner ++ last ∷ []) in
    drop 1 (take (length parts - 1) parts) ≡ inner
inner_of inner first last =
    let size : length (inner ++ last ∷ []) ≡ length inner + 1 = length-append inner (last ∷ []) in
    let count : suc (length (inner ++ last ∷ [])) - 1 ≡ suc (length inner) = omega (arith, size) in
    ap (λ n. drop 1 (take n (first ∷ (inner ++ last ∷ [])))) count
    ∙ take_at inner (last ∷ []) (length inner) refl

-- a line is read as its cells
pub line_read : (cells : List (List ℕ)) (widths : List ℕ) → length cells ≡ length widths → AreCells cells
    → read_row (line cells widths ++ line_feed ∷ []) ≡ cells
line_read cells widths same are =
    let parts : slice_split (λ b. b == vertical_bar) (line cells widths ++ line_feed ∷ []) ≡ []
    ∷ (paddeds cells widths ++ (line_feed ∷ []) ∷ []) =
    ap (λ l. [] ∷ l) (parts_of cells widths are) in
    ap (λ ps. map (trimmed_text is_document_white_space) (drop 1 (take (length ps - 1) ps))) parts
    ∙ ap (map (trimmed_text is_document_white_space)) (inner_of (paddeds cells widths) [] (line_feed ∷ []))
    ∙ all_trimmed cells widths same are

-- ---- bars

pub bars-append : (s t : List ℕ) → bars (s ++ t) ≡ bars s + bars t
bars-append s t = sum_by-append (λ b. cond (b == vertical_bar) 1 0) s t

no_bars : (s : List ℕ) → lacks vertical_bar s ≡ true → bars s ≡ 0
no_bars [] none = refl
no_bars (b ∷ s) none =
    let parts = and_parts (not (b == vertical_bar)) (lacks vertical_bar s) none in
    let first : (b == vertical_bar) ≡ false = not-true (b == vertical_bar) parts.0 in
    let one : bars (b ∷ []) ≡ 0 = rw first refl in
    omega (arith, bars-append (b ∷ []) s, one, no_bars s parts.1)

barred_bars : (cells : List (List ℕ)) (widths : List ℕ) → length cells ≡ length widths → AreCells cells
    → bars (barred_cells cells widths) ≡ length widths
barred_bars [] [] same are = refl
barred_bars [] (width ∷ widths) same are = absurd (omega arith)
barred_bars (cell ∷ cells) [] same are = absurd (omega arith)
barred_bars (cell ∷ cells) (width ∷ widths) same are =
    let here = bars-append (padded_cell cell width) (vertical_bar ∷ barred_cells cells widths) in
    let none = no_bars (padded_cell cell width) (padded_lacks cell width vertical_bar refl are.0.bars) in
    let more = bars-append bar (barred_cells cells widths) in
    let rest = barred_bars cells widths (omega arith) are.1 in
    omega (arith, here, none, more, rest)

-- one bar more than columns
pub line_bars : (cells : List (List ℕ)) (widths : List ℕ) → length cells ≡ length widths → AreCells cells
    → bars (line cells widths) ≡ length widths + 1
line_bars cells widths same are =
    omega (arith, bars-append bar (barred_cells cells widths), barred_bars cells widths same are)

pub row_bars : (cells : List (List ℕ)) (widths : List ℕ) → length cells ≡ length widths → AreCells cells
    → bars (line cells widths ++ line_feed ∷ []) ≡ length widths + 1
row_bars cells widths same are =
    omega (arith, bars-append (line cells widths) (line_feed ∷ []), line_bars cells widths same are)
