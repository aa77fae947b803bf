-- Rows of tables, cell by cell.
use Rattle.std.proofs.Common.{◌≡◌, ℕ, zero, suc, ◌+◌, ◌-◌, ◌<◌, ◌≤◌, Bool, true, false, List, [], ◌∷◌, ◌++◌}
use Rattle.std.proofs.Common.{length, get_or, set, take, drop, max, refl, sym, ap, ◌∙◌, arith, append_assoc, codes, Result, Ok, Err, OnOk}
use Rattle.std.proofs.Common.{add-one, drop-cons}
use Rattle.std.specs.Prelude.{◌==◌, replicate, map, String, string_bytes, Vec}
use Rattle.std.specs.declared.alloc.Global.{Global}
use Rattle.std.specs.List.{flat_map, slice_split, onto_first, sum_by}
use Rattle.std.proofs.lemmas.Str.{chars-nil}
use Rattle.std.proofs.lemmas.List.{append-nil, drop_more, drop_all, take_all}
use Rattle.std.proofs.lemmas.List.Splits.{slice_split-cons_yes, slice_split-cons_no}
use Rattle.htmd_lexical.specs.Characters.{line_feed, space, vertical_bar}
use Rattle.htmd_text.specs.Joins.{joined_texts}
use Rattle.htmd_markdown.specs.Tables.{texts}
use Rattle.htmd_document.specs.declared.document.Alignment.{Alignment}
use Rattle.htmd_document.specs.declared.document.Inline.{Inline}
use Rattle.htmd_document.specs.Documents.{Inlines}
use Rattle.htmd_document.specs.DocumentViews.{inlines_of}
use Rattle.htmd_commonmark.specs.Columns.{columns_of, width_of}
use Rattle.htmd_commonmark.specs.TableLines.{with_escaped_bars, widened, line_width, delimiters, dashes}
use Rattle.htmd_commonmark.specs.TableLines.{padded_cell, barred_cells, line, narrowest, rows_text, shown_cells}
use Rattle.htmd_commonmark.specs.declared.line.Line.{Line}
use Rattle.htmd_commonmark.specs.BlockMarkdown.{written_cells, written_rows}
use Rattle.htmd_commonmark.specs.BlockViews.{cells_of, rows_of}
use Rattle.htmd_commonmark.specs.InlineMarkdown.{written_line}

-- ---- bars

record BarParts (s : List ℕ) : Type 0 where
  pub first : List ℕ
  pub others : List (List ℕ)
  pub is : slice_split (λ b. b == vertical_bar) s ≡ first ∷ others
  pub whole : first ++ flat_map (λ next. codes "\\|" ++ next) others ≡ with_escaped_bars s

bar_byte : (b : ℕ) (s : List ℕ) → BarParts s → (t : Bool) → (b == vertical_bar) ≡ t → BarParts (b ∷ s)
bar_byte b s ls true here = record {
  first = [];
  others = ls.first ∷ ls.others;
  is = slice_split-cons_yes (λ c. c == vertical_bar) b s here ∙ ap (λ l. [] ∷ l) ls.is;
  whole = rw here (ap (λ l. codes "\\|" ++ l) ls.whole);
}
bar_byte b s ls false other = record {
  first = b ∷ ls.first;
  others = ls.others;
  is = slice_split-cons_no (λ c. c == vertical_bar) b s other ∙ ap (onto_first b) ls.is;
  whole = rw other (ap (λ l. b ∷ l) ls.whole);
}

bar_parts : (s : List ℕ) → BarParts s
bar_parts [] = record { first = []; others = []; is = refl; whole = refl }
bar_parts (b ∷ s) = bar_byte b s (bar_parts s) (b == vertical_bar) refl

-- the parts between bars, joined by escaped ones
pub bars-joined : (s : List ℕ)
    → joined_texts (codes "\\|") (slice_split (λ b. b == vertical_bar) s) ≡ with_escaped_bars s
bars-joined s = let ls = bar_parts s in ap (joined_texts (codes "\\|")) ls.is ∙ ls.whole

-- ---- rows

-- what is left of a row from a cell on
abbrev pub cells_left : List (List ℕ) → List ℕ → ℕ → List ℕ
cells_left cells widths k = barred_cells (drop k cells) (drop k widths)

pub cells-more : (out : List ℕ) (cells : List (List ℕ)) (widths : List ℕ) (k : ℕ) → k < length cells
    → k < length widths
    → ((((out ++ codes " ") ++ get_or cells k [])
    ++ replicate (get_or widths k 0 - width_of (get_or cells k [])) space)
    ++ codes " |") ++ cells_left cells widths (k + 1)
    ≡ out ++ cells_left cells widths k
cells-more out cells widths k first second =
    let cell = get_or cells k [] in
    let rest = cells_left cells widths (k + 1) in
    let pad = replicate (get_or widths k 0 - width_of cell) space in
    let whole : cells_left cells widths k ≡ padded_cell cell (get_or widths k 0) ++ vertical_bar ∷ rest =
    ap (λ l. barred_cells l (drop k widths)) (drop_more cells k [] first)
    ∙ ap (λ l. barred_cells (cell ∷ drop (k + 1) cells) l) (drop_more widths k 0 second) in
    regroup out cell pad rest ∙ ap (λ l. out ++ l) (sym whole)
  where
    regroup : (out cell pad rest : List ℕ)
        → ((((out ++ codes " ") ++ cell) ++ pad) ++ codes " |") ++ rest
        ≡ out ++ ((space ∷ (cell ++ (pad ++ space ∷ []))) ++ vertical_bar ∷ rest)
    regroup out cell pad rest = simp append_assoc refl

pub cells-end : (cells : List (List ℕ)) (widths : List ℕ) (k : ℕ) → length cells ≤ k
    → cells_left cells widths k ≡ []
cells-end cells widths k past = ap (λ l. barred_cells l (drop k widths)) (drop_all k cells past)

no_columns : (cells : List (List ℕ)) → barred_cells cells [] ≡ []
no_columns [] = refl
no_columns (cell ∷ cells) = refl

pub columns-end : (cells : List (List ℕ)) (widths : List ℕ) (k : ℕ) → length widths ≤ k
    → cells_left cells widths k ≡ []
columns-end cells widths k past = ap (barred_cells (drop k cells)) (drop_all k widths past)
    ∙ no_columns (drop k cells)

-- the same of the dashes
abbrev pub dashes_left : List Alignment → List ℕ → ℕ → List ℕ
dashes_left alignments widths k = delimiters (drop k alignments) (drop k widths)

pub dashes-more : (out : List ℕ) (alignments : List Alignment) (a : Alignment) (widths : List ℕ) (k : ℕ)
    → k < length alignments → a ≡ get_or alignments k a → k < length widths
    → (((out ++ codes " ") ++ dashes a (get_or widths k 0)) ++ codes " |") ++ dashes_left alignments widths (k + 1)
    ≡ out ++ dashes_left alignments widths k
dashes-more out alignments a widths k first is second =
    let rest = dashes_left alignments widths (k + 1) in
    let w = get_or widths k 0 in
    let whole : dashes_left alignments widths k ≡ ((codes " " ++ dashes a w) ++ codes " |") ++ rest =
    ap (λ l. delimiters l (drop k widths)) (drop_more alignments k a first)
    ∙ ap (λ l. delimiters (get_or alignments k a ∷ drop (k + 1) alignments) l) (drop_more widths k 0 second)
    ∙ ap (λ x. ((codes " " ++ dashes x w) ++ codes " |") ++ rest) (sym is) in
    regroup out (dashes a w) rest ∙ ap (λ l. out ++ l) (sym whole)
  where
    regroup : (out dash rest : List ℕ)
        → (((out ++ codes " ") ++ dash) ++ codes " |") ++ rest ≡ out
        ++ (((codes " " ++ dash) ++ codes " |") ++ rest)
    regroup out dash rest = simp append_assoc refl

pub dashes-end : (alignments : List Alignment) (widths : List ℕ) (k : ℕ) → length alignments ≤ k
    → dashes_left alignments widths k ≡ []
dashes-end alignments widths k past = ap (λ l. delimiters l (drop k widths)) (drop_all k alignments past)

no_dashes : (alignments : List Alignment) → delimiters alignments [] ≡ []
no_dashes [] = refl
no_dashes (a ∷ alignments) = refl

pub dashed-end : (alignments : List Alignment) (widths : List ℕ) (k : ℕ) → length widths ≤ k
    → dashes_left alignments widths k ≡ []
dashed-end alignments widths k past =
    ap (delimiters (drop k alignments)) (drop_all k widths past) ∙ no_dashes (drop k alignments)

-- ---- widths

pub line_width_more : (ws : List ℕ) (w : ℕ) → line_width (ws ++ w ∷ []) ≡ line_width ws + w + 3
line_width_more [] w = omega arith
line_width_more (v ∷ ws) w = omega (arith, line_width_more ws w)

widened-none : (old : List ℕ) → widened old [] ≡ old
widened-none [] = refl
widened-none (w ∷ old) = refl

pub widened_start : (old : List ℕ) → old ≡ widened old []
widened_start old = sym (widened-none old)

-- one more cell in a column
pub widened_set : (old : List ℕ) (cells : List (List ℕ)) (k : ℕ) → k < length old → k < length cells
    → widened old (take (k + 1) cells)
    ≡ set (widened old (take k cells)) k
    (max (get_or (widened old (take k cells)) k 0) (width_of (get_or cells k [])))
widened_set [] cells k first second = absurd (omega arith)
widened_set (w ∷ old) [] k first second = absurd (omega arith)
widened_set (w ∷ old) (cell ∷ cells) zero first second =
    let one : 0 + 1 ≡ 1 = omega arith in
    ap (λ n. widened (w ∷ old) (take n (cell ∷ cells))) one
    ∙ ap (λ l. max w (width_of cell) ∷ l) (widened-none old)
widened_set (w ∷ old) (cell ∷ cells) (suc k) first second =
    let more : suc k + 1 ≡ suc (k + 1) = omega arith in
    ap (λ n. widened (w ∷ old) (take n (cell ∷ cells))) more
    ∙ ap (λ l. max w (width_of cell) ∷ l) (widened_set old cells k (omega arith) (omega arith))

-- a cell beyond the columns
pub widened_past : (old : List ℕ) (cells : List (List ℕ)) (k : ℕ) → length old ≤ k
    → widened old (take (k + 1) cells) ≡ widened old (take k cells)
widened_past [] cells k past = refl
widened_past (w ∷ old) cells zero past = absurd (omega arith)
widened_past (w ∷ old) [] (suc k) past =
    let more : suc k + 1 ≡ suc (k + 1) = omega arith in ap (λ n. widened (w ∷ old) (take n [])) more
widened_past (w ∷ old) (cell ∷ cells) (suc k) past =
    let more : suc k + 1 ≡ suc (k + 1) = omega arith in
    ap (λ n. widened (w ∷ old) (take n (cell ∷ cells))) more
    ∙ ap (λ l. max w (width_of cell) ∷ l) (widened_past old cells k (omega arith))

-- ---- cells that a row lacks

no_width : width_of [] ≡ 0
no_width = ap (sum_by columns_of) chars-nil

abbrev empties : ℕ → List (List ℕ)
empties n = replicate n []

length-empty : (n : ℕ) → length (empties n) ≡ n
length-empty zero = refl
length-empty (suc n) = ap (λ k. suc k) (length-empty n)

empty-at : (n k : ℕ) → get_or (empties n) k [] ≡ []
empty-at zero k = refl
empty-at (suc n) zero = refl
empty-at (suc n) (suc k) = empty-at n k

-- the empty cells of the columns from one on
abbrev pub empty_left : List ℕ → ℕ → List ℕ
empty_left widths k = cells_left (empties (length widths)) widths k

-- a row that is filled up is the row and then empty cells
filled-cells : (cells : List (List ℕ)) (widths : List ℕ)
    → barred_cells (shown_cells true (length widths) cells) widths
    ≡ barred_cells cells widths ++ empty_left widths (length cells)
filled-cells [] widths =
    let all : length widths - 0 ≡ length widths = omega arith in
    ap (λ n. barred_cells (replicate n []) widths) all
filled-cells (cell ∷ cells) [] = refl
filled-cells (cell ∷ cells) (width ∷ widths) =
    let less : suc (length widths) - suc (length cells) ≡ length widths - length cells = omega arith in
    let rest = empty_left widths (length cells) in
    ap (λ n. padded_cell cell width ++ vertical_bar ∷ barred_cells (cells ++ replicate n []) widths) less
    ∙ ap (λ l. padded_cell cell width ++ vertical_bar ∷ l) (filled-cells cells widths)
    ∙ sym (append_assoc (padded_cell cell width) (vertical_bar ∷ barred_cells cells widths) rest)

pub filled-line : (out : List ℕ) (cells : List (List ℕ)) (widths : List ℕ)
    → (out ++ line cells widths) ++ empty_left widths (length cells)
    ≡ out ++ line (shown_cells true (length widths) cells) widths
filled-line out cells widths =
    append_assoc out (line cells widths) (empty_left widths (length cells))
    ∙ ap (λ l. out ++ vertical_bar ∷ l) (sym (filled-cells cells widths))

-- one more empty cell
pub empty-more : (out : List ℕ) (widths : List ℕ) (k : ℕ) → k < length widths
    → (((out ++ codes " ") ++ replicate (get_or widths k 0) space) ++ codes " |") ++ empty_left widths (k + 1)
    ≡ out ++ empty_left widths k
empty-more out widths k within =
    let cells = empties (length widths) in
    let w = get_or widths k 0 in
    let rest = empty_left widths (k + 1) in
    let none : w ≡ w - width_of [] = omega (arith, no_width) in
    ap (λ l. ((l ++ replicate w space) ++ codes " |") ++ rest) (sym (append-nil (out ++ codes " ")))
    ∙ ap (λ n. ((((out ++ codes " ") ++ []) ++ replicate n space) ++ codes " |") ++ rest) none
    ∙ ap (λ x. ((((out ++ codes " ") ++ x) ++ replicate (w - width_of x) space) ++ codes " |") ++ rest)
    (sym (empty-at (length widths) k))
    ∙ cells-more out cells widths k (omega (arith, within, length-empty (length widths))) within

-- what a call that may fail leaves, told in another way
pub told_as : {T E : Type 0} (r : Result T E) (x a b : List ℕ) → OnOk r (x ≡ a) → a ≡ b → OnOk r (x ≡ b)
told_as (Ok v) x a b h e = h ∙ e
told_as (Err v) x a b h e = tt

-- ---- rows

flat_map_push : {X : Type 0} (f : X → List ℕ) (xs : List X) (x : X)
    → flat_map f (xs ++ x ∷ []) ≡ flat_map f xs ++ f x
flat_map_push f [] x = append-nil (f x)
flat_map_push f (y ∷ xs) x =
    ap (λ l. f y ++ l) (flat_map_push f xs x) ∙ sym (append_assoc (f y) (flat_map f xs) (f x))

pub rows_more : (is_padded : Bool) (widths : List ℕ) (rows : List (List (List ℕ))) (row : List (List ℕ))
    → rows_text is_padded widths (rows ++ row ∷ [])
    ≡ rows_text is_padded widths rows ++ (line_feed ∷ line (shown_cells is_padded (length widths) row) widths)
rows_more is_padded widths rows row =
    flat_map_push (λ cells. line_feed ∷ line (shown_cells is_padded (length widths) cells) widths) rows row

-- ---- the texts of cells

pub cell_split : (cells : List (Vec Inline Global)) (i : ℕ) (cell : Vec Inline Global) → i < length cells
    → cell ≡ get_or cells i cell
    → cells_of (drop i cells) ≡ inlines_of cell.items ∷ cells_of (drop (i + 1) cells)
cell_split cells i cell within is =
    ap cells_of (drop-cons cells i cell within ∙ ap (λ n. get_or cells i cell ∷ drop n cells) (sym (add-one i)))
    ∙ ap (λ y. inlines_of y.items ∷ cells_of (drop (i + 1) cells)) (sym is)

pub row_split : (rows : List (Vec (Vec Inline Global) Global)) (i : ℕ) (row : Vec (Vec Inline Global) Global)
    → i < length rows → row ≡ get_or rows i row
    → rows_of (drop i rows) ≡ cells_of row.items ∷ rows_of (drop (i + 1) rows)
row_split rows i row within is =
    ap rows_of (drop-cons rows i row within ∙ ap (λ n. get_or rows i row ∷ drop n rows) (sym (add-one i)))
    ∙ ap (λ y. cells_of y.items ∷ rows_of (drop (i + 1) rows)) (sym is)

pub cells_step : (at : Line) (definitions next : List (List ℕ)) (done more : List (List ℕ)) (text : List ℕ)
    (content : Inlines) (rest : List Inlines) (all : List (List ℕ)) → more ≡ done ++ text ∷ []
    → text ≡ with_escaped_bars (written_line at definitions content).text
    → next ≡ (written_line at definitions content).definitions
    → done ++ (written_cells at definitions (content ∷ rest)).cells ≡ all
    → more ++ (written_cells at next rest).cells ≡ all
cells_step at definitions next done more text content rest all is told defined was =
    let cell = written_line at definitions content in
    let others = written_cells at cell.definitions rest in
    ap (λ l. l ++ (written_cells at next rest).cells) is
    ∙ ap (λ ds. (done ++ text ∷ []) ++ (written_cells at ds rest).cells) defined
    ∙ append_assoc done (text ∷ []) others.cells
    ∙ ap (λ s. done ++ s ∷ others.cells) told ∙ was

pub rows_step : (at : Line) (definitions next : List (List ℕ)) (done more : List (List (List ℕ)))
    (cells : List (List ℕ)) (row : List Inlines) (rest : List (List Inlines)) (all : List (List (List ℕ)))
    → more ≡ done ++ cells ∷ []
    → cells ≡ (written_cells at definitions row).cells → next ≡ (written_cells at definitions row).definitions
    → done ++ (written_rows at definitions (row ∷ rest)).rows ≡ all
    → more ++ (written_rows at next rest).rows ≡ all
rows_step at definitions next done more cells row rest all is told defined was =
    let w = written_cells at definitions row in
    let others = written_rows at w.definitions rest in
    ap (λ l. l ++ (written_rows at next rest).rows) is
    ∙ ap (λ ds. (done ++ cells ∷ []) ++ (written_rows at ds rest).rows) defined
    ∙ append_assoc done (cells ∷ []) others.rows
    ∙ ap (λ s. done ++ s ∷ others.rows) told ∙ was

-- ---- widths

pub length_widened : (old : List ℕ) (cells : List (List ℕ)) → length (widened old cells) ≡ length old
length_widened [] cells = refl
length_widened (w ∷ old) [] = refl
length_widened (w ∷ old) (cell ∷ cells) = ap (λ n. suc n) (length_widened old cells)

-- what becomes of a vector whose slice was written
pub written_back : (n : ℕ) (old now : List ℕ) → length now ≡ length old → n ≡ length old
    → take n (now ++ drop (length now) old) ≡ now
written_back n old now size is =
    ap (λ l. take n (now ++ l)) (drop_all (length now) old (omega (arith, size)))
    ∙ ap (take n) (append-nil now) ∙ take_all n now (omega (arith, size, is))

abbrev pub header_width : {Z : Type 0} → String Z → ℕ
header_width cell = max narrowest (width_of (string_bytes cell))

pub header_widths : {Z : Type 0} (cells : List (String Z))
    → map header_width cells ≡ map (λ cell. max narrowest (width_of cell)) (texts cells)
header_widths [] = refl
header_widths (cell ∷ cells) = ap (λ l. max narrowest (width_of (string_bytes cell)) ∷ l) (header_widths cells)
