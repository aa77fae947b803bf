-- Tables of normal documents.
use Rattle.std.proofs.Common.{◌≡◌, ℕ, zero, suc, ◌+◌, ◌-◌, ◌≤◌, Bool, true, false, cond, ◌||◌, List, [], ◌∷◌}
use Rattle.std.proofs.Common.{◌++◌, ◌⊎◌, inl, inr}
use Rattle.std.proofs.Common.{map, refl, sym, ap, ◌∙◌, arith, length, fold, max, min, take, replicate}
use Rattle.std.proofs.Common.{Option, Some, None}
use Rattle.std.specs.Prelude.{◌==◌, nat_le, nat_lt}
use Rattle.std.specs.List.{list_any, list_all}
use Rattle.std.proofs.lemmas.Bool.Decides.{nat_tests}
use Rattle.std.proofs.lemmas.List.{append-nil, length-append, length-replicate, length-take}
use Rattle.htmd_lexical.proofs.Cases.{test}
use Rattle.htmd_document.specs.declared.document.Alignment.{Alignment}
use Rattle.htmd_document.specs.declared.document.Alignment.TheVariants as align
use Rattle.htmd_document.specs.Documents.{Inlines, no_inlines, inline, Block}
use Rattle.htmd_flow.specs.Grids.{Cell, Row, filled, filled_all, shapes_of, contents_of, is_too_large, grid}
use Rattle.htmd_flow.specs.Grids.{with_cell, trimmed_row, width, padded, body, aligned, table_in}
use Rattle.htmd_flow.specs.Grids.{table_of_all, table_of_rows, alignments_of, begins_with_header}
use Rattle.htmd_document.specs.LoneAnchors.{is_alone}
use Rattle.htmd_document.specs.NormalInlines.{is_normal_line, anchors_stand_well}
use Rattle.htmd_document.specs.NormalDocuments.{has_cell, ends_filled, are_normal_cells, is_normal_row}
use Rattle.htmd_document.specs.NormalDocuments.{is_normal_table}
use Rattle.htmd_law_documents.specs.TableLengths.{has_right_length}
use Rattle.htmd_law_documents.proofs.NormalStandLemmas.{stand-well}
use Rattle.htmd_law_documents.proofs.NormalTextLemmas.{and-true, false-true}
use Rattle.htmd_law_documents.proofs.NormalBlockLemmas.{IsLineWell, Fine}

-- ---- cells

-- one line, in which anchors stand before what shows
abbrev pub IsCellLine : Inlines → Type 0
IsCellLine cell = (is_normal_line cell ≡ true) × (anchors_stand_well cell ≡ true)

cell-line : (cell : Inlines) → IsLineWell cell → IsCellLine cell
cell-line cell h = (h.0, stand-well cell h.1)

abbrev pub AreLines : List Inlines → Type 0
AreLines [] = Unit {0}
AreLines (cell ∷ cells) = IsCellLine cell × AreLines cells

abbrev pub AllLines : List (List Inlines) → Type 0
AllLines [] = Unit {0}
AllLines (row ∷ rows) = AreLines row × AllLines rows

abbrev pub FineCells : List Cell → Type 0
FineCells [] = Unit {0}
FineCells (c ∷ cells) = IsLineWell c.content × FineCells cells

abbrev pub FineRows : List Row → Type 0
FineRows [] = Unit {0}
FineRows (row ∷ rows) = FineCells row.cells × FineRows rows

empty-line : IsCellLine no_inlines
empty-line = (refl, refl)

filled-lines : (begins : List Bool) (cells : List Cell) → FineCells cells → AreLines (filled begins cells)
filled-lines [] cells h = tt
filled-lines (true ∷ begins) (c ∷ cells) h = (cell-line c.content h.0, filled-lines begins cells h.1)
filled-lines (true ∷ begins) [] h = (empty-line, filled-lines begins [] h)
filled-lines (false ∷ begins) cells h = (empty-line, filled-lines begins cells h)

all-filled : (shapes : List (List Bool)) (rows : List Row) → FineRows rows → AllLines (filled_all shapes rows)
all-filled [] rows h = tt
all-filled (begins ∷ shapes) [] h = tt
all-filled (begins ∷ shapes) (row ∷ rows) h = (filled-lines begins row.cells h.0, all-filled shapes rows h.1)

contents-lines : (cells : List Cell) → FineCells cells → AreLines (map (λ (c : Cell). c.content) cells)
contents-lines [] h = tt
contents-lines (c ∷ cells) h = (cell-line c.content h.0, contents-lines cells h.1)

all-contents : (rows : List Row) → FineRows rows → AllLines (map contents_of rows)
all-contents [] h = tt
all-contents (row ∷ rows) h = (contents-lines row.cells h.0, all-contents rows h.1)

grid-lines : (rows : List Row) → FineRows rows → AllLines (grid rows)
grid-lines rows h = either (is_too_large rows)
  where
    either : (b : Bool) → AllLines (cond b (map contents_of rows) (filled_all (shapes_of rows) rows))
    either true = all-contents rows h
    either false = all-filled (shapes_of rows) rows h

lines-normal : (cells : List Inlines) → AreLines cells → are_normal_cells cells ≡ true
lines-normal cells h = and-true (normal cells h) (well cells h)
  where
    normal : (cells : List Inlines) → AreLines cells → list_all is_normal_line cells ≡ true
    normal [] h = refl
    normal (cell ∷ cells) h = and-true h.0.0 (normal cells h.1)

    well : (cells : List Inlines) → AreLines cells → list_all anchors_stand_well cells ≡ true
    well [] h = refl
    well (cell ∷ cells) h = and-true h.0.1 (well cells h.1)

-- ---- rows without the empty cells at their ends

-- the last cell isn't empty
record IsTrimmed (cells : List Inlines) : Type 0 where
  lines : AreLines cells
  ends : has_cell cells ≡ true → ends_filled cells ≡ true

abbrev AllTrimmed : List (List Inlines) → Type 0
AllTrimmed [] = Unit {0}
AllTrimmed (row ∷ rows) = IsTrimmed row × AllTrimmed rows

trimmed-row : (cells : List Inlines) → AreLines cells → IsTrimmed (trimmed_row cells)
trimmed-row [] h = record { lines = tt; ends = λ e. false-true e }
trimmed-row (cell ∷ cells) h = at cell (trimmed_row cells) h.0 (trimmed-row cells h.1)
  where
    at : (cell : Inlines) (rest : List Inlines) → IsCellLine cell → IsTrimmed rest
        → IsTrimmed (with_cell cell rest)
    at no_inlines [] l t = record { lines = tt; ends = λ e. false-true e }
    at (inline x xs) [] l t = record { lines = (l, tt); ends = λ e. refl }
    at no_inlines (next ∷ rest) l t = record { lines = (l, t.lines); ends = λ e. t.ends refl }
    at (inline x xs) (next ∷ rest) l t = record { lines = (l, t.lines); ends = λ e. t.ends refl }

all-trimmed : (rows : List (List Inlines)) → AllLines rows → AllTrimmed (map trimmed_row rows)
all-trimmed [] h = tt
all-trimmed (row ∷ rows) h = (trimmed-row row h.0, all-trimmed rows h.1)

-- ---- as many columns as the longest row has

-- no row is longer
abbrev pub AreWithin : ℕ → List (List Inlines) → Type 0
AreWithin n [] = Unit {0}
AreWithin n (row ∷ rows) = (length row ≤ n) × AreWithin n rows

abbrev wider : ℕ → List (List Inlines) → ℕ
wider n rows = fold (λ n row. max n (length row)) n rows

wider-least : (rows : List (List Inlines)) (n : ℕ) → n ≤ wider n rows
wider-least [] n = omega arith
wider-least (row ∷ rows) n = more n (length row) (wider (max n (length row)) rows)
    (wider-least rows (max n (length row)))
  where
    more : (n k w : ℕ) → max n k ≤ w → n ≤ w
    more n k w h = omega arith

pub wider-within : (rows : List (List Inlines)) (n : ℕ) → AreWithin (wider n rows) rows
wider-within [] n = tt
wider-within (row ∷ rows) n = (
  more n (length row) (wider (max n (length row)) rows) (wider-least rows (max n (length row))),
  wider-within rows (max n (length row)),
)
  where
    more : (n k w : ℕ) → max n k ≤ w → k ≤ w
    more n k w h = omega arith

later : (a : Bool) {b : Bool} → b ≡ true → (a || b) ≡ true
later true h = refl
later false h = h

equal : (m n : ℕ) → m ≡ n → (m == n) ≡ true
equal m n e = grind (arith, nat_tests)

-- and one is as long
abbrev IsReached : ℕ → List (List Inlines) → Type 0
IsReached n rows = list_any (λ row. length row == n) rows ≡ true

wider-reached : (rows : List (List Inlines)) (n : ℕ) → (wider n rows ≡ n) ⊎ IsReached (wider n rows) rows
wider-reached [] n = inl refl
wider-reached (row ∷ rows) n = first (wider-reached rows (max n (length row))) (more n (length row))
  where
    more : (n k : ℕ) → (max n k ≡ n) ⊎ (max n k ≡ k)
    more n k = test (nat_le n k) (λ e. inr (grind (arith, nat_tests))) (λ e. inl (grind (arith, nat_tests)))

    first : (wider (max n (length row)) rows ≡ max n (length row))
        ⊎ IsReached (wider (max n (length row)) rows) rows
        → (max n (length row) ≡ n) ⊎ (max n (length row) ≡ length row)
        → (wider n (row ∷ rows) ≡ n) ⊎ IsReached (wider n (row ∷ rows)) (row ∷ rows)
    first (inr h) e = inr (later (length row == wider (max n (length row)) rows) h)
    first (inl h) (inl e) = inl (h ∙ e)
    first (inl h) (inr e) =
        inr (ap (λ b. b || list_any (λ r. length r == wider (max n (length row)) rows) rows)
        (equal (length row) (wider (max n (length row)) rows) (sym (h ∙ e))))

-- ---- the table

lines-append : (xs ys : List Inlines) → AreLines xs → AreLines ys → AreLines (xs ++ ys)
lines-append [] ys g h = h
lines-append (x ∷ xs) ys g h = (g.0, lines-append xs ys g.1 h)

empty-lines : (n : ℕ) → AreLines (replicate n no_inlines)
empty-lines zero = tt
empty-lines (suc n) = (empty-line, empty-lines n)

padded-length : (n : ℕ) (cells : List Inlines) → length cells ≤ n → length (padded n cells) ≡ n
padded-length n cells l = whole (length (padded n cells)) (length cells) n
    (length-append cells (replicate (n - length cells) no_inlines)
    ∙ ap (λ k. length cells + k) (length-replicate (n - length cells) no_inlines)) l
  where
    whole : (w k n : ℕ) → w ≡ k + (n - k) → k ≤ n → w ≡ n
    whole w k n e l = omega arith

-- a row that is as long as the longest is the header as it stands
padded-whole : (n : ℕ) (cells : List Inlines) → length cells ≡ n → padded n cells ≡ cells
padded-whole n cells e =
    ap (λ k. cells ++ replicate k no_inlines) (none (length cells) n e) ∙ append-nil cells
  where
    none : (k n : ℕ) → k ≡ n → n - k ≡ 0
    none k n e = omega arith

-- an empty row is left out, and no other
body-empty : (rows : List (List Inlines)) → body ([] ∷ rows) ≡ body rows
body-empty rows = ap (λ b. cond b ([] ∷ body rows) (body rows)) none
  where
    none : nat_lt 0 0 ≡ false
    none = grind (arith, nat_tests)

body-filled : (cell : Inlines) (cells : List Inlines) (rows : List (List Inlines))
    → body ((cell ∷ cells) ∷ rows) ≡ (cell ∷ cells) ∷ body rows
body-filled cell cells rows =
    ap (λ b. cond b ((cell ∷ cells) ∷ body rows) (body rows)) (some (length cells))
  where
    some : (n : ℕ) → nat_lt 0 (suc n) ≡ true
    some n = grind (arith, nat_tests)

body-rows : (n : ℕ) (rows : List (List Inlines)) → AreWithin n rows → AllTrimmed rows
    → list_all (is_normal_row n) (body rows) ≡ true
body-rows n [] w h = refl
body-rows n ([] ∷ rows) w h = ap (list_all (is_normal_row n)) (body-empty rows) ∙ body-rows n rows w.1 h.1
body-rows n ((cell ∷ cells) ∷ rows) w h =
    ap (list_all (is_normal_row n)) (body-filled cell cells rows)
    ∙ and-true (and-true (and-true (within (length (cell ∷ cells)) n w.0) (h.0.ends refl))
    (lines-normal (cell ∷ cells) h.0.lines))
    (body-rows n rows w.1 h.1)
  where
    within : (k n : ℕ) → k ≤ n → nat_le k n ≡ true
    within k n l = grind (arith, nat_tests)

-- the longest row stays, as it isn't empty
reached-stays : (n : ℕ) (rows : List (List Inlines)) → 1 ≤ n → IsReached n rows
    → IsReached n (body rows)
reached-stays n [] l h = false-true h
reached-stays n ([] ∷ rows) l h =
    ap (list_any (λ row. length row == n)) (body-empty rows)
    ∙ reached-stays n rows l (sym (ap (λ b. b || longer) (short n l)) ∙ h)
  where
    longer : Bool
    longer = list_any (λ row. length row == n) rows

    short : (n : ℕ) → 1 ≤ n → (0 == n) ≡ false
    short n l = grind (arith, nat_tests)
reached-stays n ((cell ∷ cells) ∷ rows) l h =
    ap (list_any (λ row. length row == n)) (body-filled cell cells rows)
    ∙ test (length (cell ∷ cells) == n)
    (λ e. ap (λ b. b || list_any (λ row. length row == n) (body rows)) e)
    (λ e. ap (λ b. b || list_any (λ row. length row == n) (body rows)) e
    ∙ reached-stays n rows l (sym (ap (λ b. b || list_any (λ row. length row == n) rows) e) ∙ h))

aligned-length : (n : ℕ) (alignments : List Alignment) → length (aligned n alignments) ≡ n
aligned-length n alignments =
    whole (length (aligned n alignments)) (length (take n alignments))
    (length (replicate (n - length alignments) align.None))
    (length alignments) n (length-append (take n alignments) (replicate (n - length alignments) align.None))
    (length-take n alignments) (length-replicate (n - length alignments) align.None)
  where
    whole : (w a b k n : ℕ) → w ≡ a + b → a ≡ min n k → b ≡ n - k → w ≡ n
    whole w a b k n e f g = omega arith

has-some : (cells : List Inlines) → 1 ≤ length cells → has_cell cells ≡ true
has-some [] l = absurd (omega arith)
has-some (x ∷ cells) l = refl

-- the header ends with a cell in which something shows, or a row is as long
abbrev IsAsLong : ℕ → List Inlines → List (List Inlines) → Type 0
IsAsLong n header rows = (length header ≡ n) ⊎ IsReached n rows

right-length : (n : ℕ) (header : List Inlines) (rows : List (List Inlines)) → 1 ≤ n → length header ≤ n
    → IsTrimmed header → IsAsLong n header rows
    → has_right_length (padded n header) (body rows) ≡ true
right-length n header rows l m h (inl e) =
    ap (λ cells. has_right_length cells (body rows)) (padded-whole n header e)
    ∙ ap (λ b. b || list_any (λ cells. length cells == length header) (body rows))
    (h.ends (has-some header (least n (length header) e l)))
  where
    least : (n k : ℕ) → k ≡ n → 1 ≤ n → 1 ≤ k
    least n k e l = omega arith
right-length n header rows l m h (inr e) =
    later (ends_filled (padded n header))
    (ap (λ k. list_any (λ cells. length cells == k) (body rows)) (padded-length n header m)
    ∙ reached-stays n rows l e)

table-made : (n : ℕ) (alignments : List Alignment) (header : List Inlines) (rows : List (List Inlines)) → 1 ≤ n
    → length header ≤ n → IsTrimmed header → AreWithin n rows → AllTrimmed rows → IsAsLong n header rows
    → (is_normal_table (aligned n alignments) (padded n header) (body rows) ≡ true)
    × (has_right_length (padded n header) (body rows) ≡ true)
table-made n alignments header rows l m h w a r =
    let columns : length (padded n header) ≡ n = padded-length n header m in
    let lines : AreLines (padded n header) =
    lines-append header (replicate (n - length header) no_inlines) h.lines (empty-lines (n - length header)) in (
      and-true (and-true (and-true (has-some (padded n header) (least n (length (padded n header)) columns l))
          (equal (length (aligned n alignments)) (length (padded n header))
          (aligned-length n alignments ∙ sym columns)))
          (lines-normal (padded n header) lines))
          (ap (λ k. list_all (is_normal_row k) (body rows)) columns ∙ body-rows n rows w a),
      right-length n header rows l m h r,
    )
  where
    least : (n k : ℕ) → k ≡ n → 1 ≤ n → 1 ≤ k
    least n k e l = omega arith

-- a table, if there is one
abbrev pub FineOption : ℕ → Option Block → Type 0
FineOption n None = Unit {0}
FineOption n (Some b) = Fine n false b × (is_alone b ≡ false)

-- the width is that of the first row, or of a later one
first-or-later : (n : ℕ) (first : List Inlines) (rest : List (List Inlines)) → IsReached n (first ∷ rest)
    → IsAsLong n first rest
first-or-later n first rest h = test (length first == n)
    (λ e. inl (same (length first) n e))
    (λ e. inr (sym (ap (λ b. b || list_any (λ row. length row == n) rest) e) ∙ h))
  where
    same : (m n : ℕ) → (m == n) ≡ true → m ≡ n
    same m n e = grind (arith, nat_tests)

width-reached : (rows : List (List Inlines)) → 1 ≤ width rows → IsReached (width rows) rows
width-reached rows l = at (wider-reached rows 0)
  where
    none : (k : ℕ) → k ≡ 0 → 1 ≤ k → ⊥
    none k e l = omega arith

    at : (wider 0 rows ≡ 0) ⊎ IsReached (width rows) rows → IsReached (width rows) rows
    at (inl e) = absurd (none (width rows) e l)
    at (inr h) = h

table-of : (n : ℕ) (alignments : List Alignment) (has_header : Bool) (rows : List (List Inlines)) → AllTrimmed rows
    → 1 ≤ width rows → Fine n false (table_in (width rows) alignments has_header rows)
table-of n alignments has_header [] h l = absurd (none l)
  where
    none : 1 ≤ 0 → ⊥
    none l = omega arith
table-of n alignments true (first ∷ rest) h l =
    let within : AreWithin (width (first ∷ rest)) (first ∷ rest) = wider-within (first ∷ rest) 0 in
    let long = first-or-later (width (first ∷ rest)) first rest (width-reached (first ∷ rest) l) in
    (table-made (width (first ∷ rest)) alignments first rest l within.0 h.0 within.1 h.1 long, omega arith)
table-of n alignments false (first ∷ rest) h l =
    let within : AreWithin (width (first ∷ rest)) (first ∷ rest) = wider-within (first ∷ rest) 0 in
    let none : IsTrimmed [] = record { lines = tt; ends = λ e. false-true e } in (
      table-made (width (first ∷ rest)) alignments [] (first ∷ rest) l (omega arith) none within h
          (inr (width-reached (first ∷ rest) l)),
      omega arith,
    )

pub table-all-fine : (n : ℕ) (alignments : List Alignment) (has_header : Bool) (rows : List (List Inlines))
    → AllLines rows → FineOption n (table_of_all alignments has_header rows)
table-all-fine n alignments has_header rows h =
    let lines : List (List Inlines) = map trimmed_row rows in
    either (width lines == 0) (λ e. table-of n alignments has_header lines (all-trimmed rows h) (some (width lines) e))
  where
    some : (k : ℕ) → (k == 0) ≡ false → 1 ≤ k
    some k e = grind (arith, nat_tests)

    made : Block
    made = table_in (width (map trimmed_row rows)) alignments has_header (map trimmed_row rows)

    either : (b : Bool) → (b ≡ false → Fine n false made) → FineOption n (cond b None (Some made))
    either true f = tt
    either false f = (f refl, refl)

pub table-fine : (n : ℕ) (rows : List Row) → FineRows rows → FineOption n (table_of_rows rows)
table-fine n [] h = tt
table-fine n (first ∷ rows) h =
    table-all-fine n (alignments_of first) (begins_with_header first) (grid (first ∷ rows))
    (grid-lines (first ∷ rows) h)
