-- Rows of cells that take one column and one row each, as the table of a page's rows.
use Rattle.std.proofs.Common.{◌≡◌, ℕ, suc, ◌+◌, ◌-◌, ◌≤◌, ◌==◌, min, max, Bool, true, false}
use Rattle.std.proofs.Common.{not, ◌&&◌, ◌||◌, cond}
use Rattle.std.proofs.Common.{List, [], ◌∷◌, ◌++◌, length, map, take, drop, replicate, fold, refl, sym, ap}
use Rattle.std.proofs.Common.{◌∙◌}
use Rattle.std.proofs.Common.{arith, nat_lt, Option, Some, None}
use Rattle.std.specs.Prelude.{nat_le}
use Rattle.std.specs.List.{list_all, list_any, prefix_len, flat_map}
use Rattle.std.proofs.lemmas.Bool.{and_parts, and_from}
use Rattle.std.proofs.lemmas.List.{append-nil, take_all}
use Rattle.std.proofs.lemmas.Bool.Decides.{nat_tests}
use Rattle.htmd_lexical.proofs.Cases.{test}
use Rattle.htmd_document.specs.declared.document.Alignment.{Alignment}
use Rattle.htmd_document.specs.declared.document.Alignment.TheVariants as align
use Rattle.htmd_document.specs.Documents.{Inlines, no_inlines, inline, table}
use Rattle.htmd_document.specs.NormalDocuments.{has_cell, ends_filled, is_normal_row, are_normal_cells}
use Rattle.htmd_document.specs.NormalInlines.{has_none}
use Rattle.htmd_flow.specs.Flows.{filled_rows}
use Rattle.htmd_flow.specs.Grids.{Cell, Row, end_of, columns_before, laid, taken_in, is_same_part, shapes_from, filled}
use Rattle.htmd_flow.specs.Grids.{filled_all, contents_of, grid, Shape, is_too_large, with_cell, is_empty_cell, width}
use Rattle.htmd_flow.specs.Grids.{trimmed_row, padded, body, aligned, table_of, table_of_all, table_of_rows}
use Rattle.htmd_commonmark_reading.specs.Rendering.{first_alignment}
use Rattle.htmd_law_returning.specs.SettledDocuments.{shows_last_column}
use Rattle.htmd_law_returning.proofs.StartLemmas.{false-true}

-- ---- cells

-- what a page makes of cells in columns with these alignments
abbrev pub made_cells : Bool → List Alignment → List Inlines → List Cell
made_cells is_header alignments [] = []
made_cells is_header alignments (c ∷ cs) =
    record {
      content = c;
      columns = 1;
      rows = 1;
      is_header = is_header;
      alignment = first_alignment alignments;
    } ∷ made_cells is_header (drop 1 alignments) cs

abbrev pub made_row : Bool → Option ℕ → List Alignment → List Inlines → Row
made_row is_header part alignments cells =
    record { part = part; is_in_head = is_header; cells = made_cells is_header alignments cells }

abbrev pub made_rows : Option ℕ → List Alignment → List (List Inlines) → List Row
made_rows part alignments rows = map (made_row false part alignments) rows

contents : (is_header : Bool) (alignments : List Alignment) (cells : List Inlines)
    → map (λ (c : Cell). c.content) (made_cells is_header alignments cells) ≡ cells
contents is_header alignments [] = refl
contents is_header alignments (c ∷ cs) = ap (λ xs. c ∷ xs) (contents is_header (drop 1 alignments) cs)

-- ---- the grid

-- no column is taken from row n on
abbrev are_free : ℕ → List ℕ → Bool
are_free n taken = list_all (λ until. nat_le until n) taken

none-kept : (n : ℕ) (taken : List ℕ) → are_free n taken ≡ true → prefix_len (nat_lt n) taken ≡ 0
none-kept n [] h = refl
none-kept n (x ∷ xs) h =
    let own : nat_le x n ≡ true = (and_parts (nat_le x n) (are_free n xs) h).0 in
    let past : nat_lt n x ≡ false = grind (arith, nat_tests, own) in
    ap (λ b. cond b (1 + prefix_len (nat_lt n) xs) 0) past

all-free : (n : ℕ) (taken : List ℕ) → are_free n taken ≡ true
    → prefix_len (λ until. nat_le until n) taken ≡ length taken
all-free n [] h = refl
all-free n (x ∷ xs) h =
    let parts = and_parts (nat_le x n) (are_free n xs) h in
    ap (λ b. cond b (1 + prefix_len (λ until. nat_le until n) xs) 0) parts.0
    ∙ one-more (all-free n xs parts.1)
  where
    one-more : {j k : ℕ} → j ≡ k → 1 + j ≡ suc k
    one-more e = omega (arith, e)

one-column : (n columns : ℕ) (taken : List ℕ) → are_free n taken ≡ true
    → columns_before taken n columns ≡ columns
one-column n columns taken h =
    let same : (prefix_len (λ until. nat_le until n) taken == length taken) ≡ true =
    grind (arith, nat_tests, all-free n taken h) in
    ap (λ b. cond b columns (min columns (prefix_len (λ until. nat_le until n) taken))) same

drop-free : (n : ℕ) (taken : List ℕ) → are_free n taken ≡ true → are_free n (drop 1 taken) ≡ true
drop-free n [] h = refl
drop-free n (x ∷ xs) h = (and_parts (nat_le x n) (are_free n xs) h).1

more-free : (n : ℕ) (taken : List ℕ) → are_free n taken ≡ true → are_free (suc n) taken ≡ true
more-free n [] h = refl
more-free n (x ∷ xs) h =
    let parts = and_parts (nat_le x n) (are_free n xs) h in
    let own : nat_le x (suc n) ≡ true = grind (arith, nat_tests, parts.0) in
    ap (λ b. b && are_free (suc n) xs) own ∙ more-free n xs parts.1

-- a row, once it is known how many columns its first cell leaves and how many it takes
abbrev laid_with : ℕ → List ℕ → ℕ → ℕ → Cell → List Cell → Shape
laid_with n taken kept columns cell cells =
    let rest = laid n (drop columns (drop kept taken)) cells in
    record {
      begins = replicate kept false ++ true ∷ replicate (columns - 1) false ++ rest.begins;
      taken = take kept taken ++ replicate columns (end_of n cell.rows) ++ rest.taken;
    }

-- each of these cells begins a column, and takes that up to the next row
record IsSingle (n : ℕ) (taken : List ℕ) (cells : List Cell) : Type 0 where
  begins : filled (laid n taken cells).begins cells ≡ map (λ (c : Cell). c.content) cells
  later : are_free (suc n) (laid n taken cells).taken ≡ true

single : (n : ℕ) (taken : List ℕ) (is_header : Bool) (alignments : List Alignment) (cells : List Inlines)
    → are_free n taken ≡ true → IsSingle n taken (made_cells is_header alignments cells)
single n taken is_header alignments [] h = record {
  begins = ap (λ k. filled (replicate k false) []) (none-kept n taken h);
  later = more-free n taken h;
}
single n taken is_header alignments (c ∷ cs) h =
    let first : Cell = record {
      content = c;
      columns = 1;
      rows = 1;
      is_header = is_header;
      alignment = first_alignment alignments;
    } in
    let others : List Cell = made_cells is_header (drop 1 alignments) cs in
    let is : laid n taken (first ∷ others) ≡ laid_with n taken 0 1 first others =
    ap (λ k. laid_with n taken k (columns_before (drop k taken) n 1) first others) (none-kept n taken h)
    ∙ ap (λ k. laid_with n taken 0 k first others) (one-column n 1 taken h) in
    let rest = single n (drop 1 taken) is_header (drop 1 alignments) cs (drop-free n taken h) in
    let next : nat_le (n + 1) (suc n) ≡ true = grind (arith, nat_tests) in
    record {
      begins = ap (λ (s : Shape). filled s.begins (first ∷ others)) is ∙ ap (λ xs. c ∷ xs) rest.begins;
      later = ap (λ (s : Shape). are_free (suc n) s.taken) is
          ∙ (ap (λ b. b && are_free (suc n) (laid n (drop 1 taken) others).taken) next ∙ rest.later);
    }

taken-free : (n : ℕ) (part next : Option ℕ) (taken : List ℕ) → are_free n taken ≡ true
    → are_free n (taken_in part next taken) ≡ true
taken-free n part next taken h = either (is_same_part part next)
  where
    either : (b : Bool) → are_free n (cond b taken []) ≡ true
    either true = h
    either false = refl

rows-filled : (n : ℕ) (part own : Option ℕ) (taken : List ℕ) (alignments : List Alignment)
    (rows : List (List Inlines)) → are_free n taken ≡ true
    → filled_all (shapes_from n part taken (made_rows own alignments rows)) (made_rows own alignments rows)
    ≡ map contents_of (made_rows own alignments rows)
rows-filled n part own taken alignments [] h = refl
rows-filled n part own taken alignments (r ∷ rs) h =
    let first = single n (taken_in part own taken) false alignments r (taken-free n part own taken h) in
    let later : List ℕ = (laid n (taken_in part own taken) (made_cells false alignments r)).taken in
    let rest : List Row = made_rows own alignments rs in
    ap (λ xs. xs ∷ filled_all (shapes_from (suc n) own later rest) rest) first.begins
    ∙ ap (λ xs. contents_of (made_row false own alignments r) ∷ xs)
    (rows-filled (suc n) own own later alignments rs first.later)

lines-kept : (part : Option ℕ) (alignments : List Alignment) (rows : List (List Inlines))
    → map contents_of (made_rows part alignments rows) ≡ rows
lines-kept part alignments [] = refl
lines-kept part alignments (r ∷ rs) =
    ap (λ xs. xs ∷ map contents_of (made_rows part alignments rs)) (contents false alignments r)
    ∙ ap (λ xs. r ∷ xs) (lines-kept part alignments rs)

-- the contents of the cells are the grid
grid-kept : (head part : Option ℕ) (alignments : List Alignment) (header : List Inlines)
    (rows : List (List Inlines))
    → grid (made_row true head alignments header ∷ made_rows part alignments rows) ≡ header ∷ rows
grid-kept head part alignments header rows =
    let all : List Row = made_row true head alignments header ∷ made_rows part alignments rows in
    let same : map contents_of all ≡ header ∷ rows =
    ap (λ xs. xs ∷ map contents_of (made_rows part alignments rows)) (contents true alignments header)
    ∙ ap (λ xs. header ∷ xs) (lines-kept part alignments rows) in
    let first = single 0 (taken_in None head []) true alignments header (taken-free 0 None head [] refl) in
    let later : List ℕ = (laid 0 (taken_in None head []) (made_cells true alignments header)).taken in
    let rest : List Row = made_rows part alignments rows in
    let shaped : filled_all (shapes_from 0 None [] all) all ≡ map contents_of all =
    ap (λ xs. xs ∷ filled_all (shapes_from 1 head later rest) rest) first.begins
    ∙ ap (λ xs. contents_of (made_row true head alignments header) ∷ xs)
    (rows-filled 1 head part later alignments rows first.later) in
    either (is_too_large all) (map contents_of all) (filled_all (shapes_from 0 None [] all) all) (header ∷ rows) same
    (shaped ∙ same)
  where
    either : (b : Bool) (x y z : List (List Inlines)) → x ≡ z → y ≡ z → cond b x y ≡ z
    either true x y z p q = p
    either false x y z p q = q

-- ---- the empty cells at the end of a row

-- a row without them, but for its first cell
abbrev pub cut_row : List Inlines → List Inlines
cut_row [] = []
cut_row (c ∷ cs) = c ∷ trimmed_row cs

filled-cell : (c : Inlines) → not (has_none c) ≡ true → is_empty_cell c ≡ false
filled-cell no_inlines h = false-true h
filled-cell (inline x xs) h = refl

before-cells : (c : Inlines) (cs : List Inlines) → ends_filled (c ∷ cs) ≡ true → with_cell c cs ≡ c ∷ cs
before-cells c [] h = ap (λ b. cond b [] (c ∷ [])) (filled-cell c h)
before-cells c (d ∷ cs) h = refl

-- a normal row is as a page has it
cut-trimmed : (cells : List Inlines) → ends_filled (cut_row cells) ≡ true → trimmed_row cells ≡ cut_row cells
cut-trimmed [] h = false-true h
cut-trimmed (c ∷ cs) h = before-cells c (trimmed_row cs) h

full-row : (cells : List Inlines) → ends_filled cells ≡ true → trimmed_row cells ≡ cells
full-row [] h = false-true h
full-row (c ∷ []) h = before-cells c [] h
full-row (c ∷ d ∷ cs) h = ap (with_cell c) (full-row (d ∷ cs) h)

-- what holds of empty cells, and of others, holds of a row with its empty cells again
pub whole-row : (p : Inlines → Bool) → p no_inlines ≡ true → (cells : List Inlines)
    → list_all p (cut_row cells) ≡ true → list_all p cells ≡ true
whole-row p empty [] h = refl
whole-row p empty (c ∷ cs) h =
    let parts = and_parts (p c) (list_all p (trimmed_row cs)) h in
    and_from (p c) (list_all p cs) parts.0 (rest cs parts.1)
  where
    before : (c : Inlines) (cs t : List Inlines) → list_all p (with_cell c t) ≡ true
        → (list_all p t ≡ true → list_all p cs ≡ true) → list_all p (c ∷ cs) ≡ true
    before no_inlines cs [] h later = and_from (p no_inlines) (list_all p cs) empty (later refl)
    before (inline x xs) cs [] h later =
        and_from (p (inline x xs)) (list_all p cs) (and_parts (p (inline x xs)) true h).0 (later refl)
    before c cs (d ∷ t) h later =
        let parts = and_parts (p c) (list_all p (d ∷ t)) h in
        and_from (p c) (list_all p cs) parts.0 (later parts.1)

    rest : (cs : List Inlines) → list_all p (trimmed_row cs) ≡ true → list_all p cs ≡ true
    rest [] h = refl
    rest (c ∷ cs) h = before c cs (trimmed_row cs) h (rest cs)

trimmed-length : (cells : List Inlines) → length (trimmed_row cells) ≤ length cells
trimmed-length [] = omega arith
trimmed-length (c ∷ cs) = before c (trimmed_row cs) (trimmed-length cs)
  where
    either : (b : Bool) (k : ℕ) → length (cond b [] (c ∷ [])) ≤ suc k
    either true k = omega arith
    either false k = omega arith

    before : (c : Inlines) (t : List Inlines) → length t ≤ length cs → length (with_cell c t) ≤ suc (length cs)
    before c [] h = both (is_empty_cell c)
      where
        both : (b : Bool) → length (cond b [] (c ∷ [])) ≤ suc (length cs)
        both true = omega arith
        both false = omega arith
    before c (d ∷ t) h = omega (arith, h)

-- a header with its empty cells again
header-padded : (cells : List Inlines) → padded (length cells) (trimmed_row cells) ≡ cells
header-padded [] = refl
header-padded (c ∷ cs) = before c (trimmed_row cs) (header-padded cs)
  where
    before : (c : Inlines) (t : List Inlines) → t ++ replicate (length cs - length t) no_inlines ≡ cs
        → with_cell c t ++ replicate (suc (length cs) - length (with_cell c t)) no_inlines ≡ c ∷ cs
    before no_inlines [] h =
        let e : suc (length cs) - 0 ≡ suc (length cs - 0) = omega arith in
        ap (λ n. replicate n no_inlines) e ∙ ap (λ xs. no_inlines ∷ xs) h
    before (inline x xs) [] h =
        let e : suc (length cs) - 1 ≡ length cs - 0 = omega arith in
        ap (λ n. inline x xs ∷ replicate n no_inlines) e ∙ ap (λ ys. inline x xs ∷ ys) h
    before c (d ∷ t) h =
        let e : suc (length cs) - suc (suc (length t)) ≡ length cs - suc (length t) = omega arith in
        ap (λ n. c ∷ d ∷ t ++ replicate n no_inlines) e ∙ ap (λ xs. c ∷ xs) h

-- ---- columns

widest : (k n : ℕ) (rows : List (List Inlines)) → n ≤ k → list_all (λ row. nat_le (length row) k) rows ≡ true
    → ((n == k) || list_any (λ row. length row == k) rows) ≡ true
    → fold (λ n row. max n (length row)) n rows ≡ k
widest k n [] h few some = last (n == k) refl some
  where
    last : (b : Bool) → (n == k) ≡ b → (b || false) ≡ true → n ≡ k
    last true e s = grind (arith, nat_tests, e)
    last false e s = false-true s
widest k n (r ∷ rs) h few some =
    let parts = and_parts (nat_le (length r) k) (list_all (λ row. nat_le (length row) k) rs) few in
    let low : length r ≤ k = grind (arith, nat_tests, parts.0) in
    widest k (max n (length r)) rs (omega (arith, h, low)) parts.1
    (either (n == k) (length r == k) (list_any (λ row. length row == k) rs) refl refl some h low)
  where
    either : (a b c : Bool) → (n == k) ≡ a → (length r == k) ≡ b → (a || (b || c)) ≡ true → n ≤ k
        → length r ≤ k
        → ((max n (length r) == k) || c) ≡ true
    either true b c e f s h low =
        let is : (max n (length r) == k) ≡ true = grind (arith, nat_tests, e, h, low) in ap (λ x. x || c) is
    either false true c e f s h low =
        let is : (max n (length r) == k) ≡ true = grind (arith, nat_tests, f, h, low) in ap (λ x. x || c) is
    either false false true e f s h low = or-true (max n (length r) == k)
      where
        or-true : (b : Bool) → (b || true) ≡ true
        or-true true = refl
        or-true false = refl
    either false false false e f s h low = false-true s

-- ---- alignments

said : (is_header : Bool) (alignments : List Alignment) (cells : List Inlines)
    → length alignments ≡ length cells
    → flat_map (λ (c : Cell). replicate c.columns c.alignment) (made_cells is_header alignments cells) ≡ alignments
said is_header [] [] h = refl
said is_header [] (c ∷ cs) h = absurd (omega (arith, h))
said is_header (a ∷ more) [] h = absurd (omega (arith, h))
said is_header (a ∷ more) (c ∷ cs) h = ap (λ xs. a ∷ xs) (said is_header more cs (omega (arith, h)))

aligned-all : (k : ℕ) (alignments : List Alignment) → length alignments ≡ k
    → aligned k alignments ≡ alignments
aligned-all k alignments h =
    let none : k - length alignments ≡ 0 = omega (arith, h) in
    ap (λ n. take k alignments ++ replicate n align.None) none
    ∙ (append-nil (take k alignments) ∙ take_all k alignments (omega (arith, h)))

-- ---- normal rows

some-more : (n : ℕ) → nat_lt 0 (suc n) ≡ true
some-more n = grind (arith, nat_tests)

record AreNormal (k : ℕ) (rows : List (List Inlines)) : Type 0 where
  trimmed : map trimmed_row rows ≡ map cut_row rows
  filled : body (map cut_row rows) ≡ map cut_row rows
  few : list_all (λ row. nat_le (length row) k) (map cut_row rows) ≡ true
  held : (part : Option ℕ) (alignments : List Alignment)
      → filled_rows (made_rows part alignments rows) ≡ made_rows part alignments rows

normal-rows : (k : ℕ) (rows : List (List Inlines)) → list_all (is_normal_row k) (map cut_row rows) ≡ true
    → AreNormal k rows
normal-rows k [] h = record { trimmed = refl; filled = refl; few = refl; held = λ part alignments. refl }
normal-rows k ([] ∷ rs) h =
    let own = and_parts (nat_le 0 k && false) (are_normal_cells [])
    (and_parts (is_normal_row k []) (list_all (is_normal_row k) (map cut_row rs)) h).0 in
    false-true (and_parts (nat_le 0 k) false own.0).1
normal-rows k ((c ∷ cs) ∷ rs) h =
    let parts = and_parts (is_normal_row k (cut_row (c ∷ cs))) (list_all (is_normal_row k) (map cut_row rs)) h in
    let own = and_parts (nat_le (length (cut_row (c ∷ cs))) k && ends_filled (cut_row (c ∷ cs)))
    (are_normal_cells (cut_row (c ∷ cs))) parts.0 in
    let shape = and_parts (nat_le (length (cut_row (c ∷ cs))) k) (ends_filled (cut_row (c ∷ cs))) own.0 in
    let rest = normal-rows k rs parts.1 in
    record {
      trimmed = ap (λ x. x ∷ map trimmed_row rs) (cut-trimmed (c ∷ cs) shape.1)
          ∙ ap (λ xs. cut_row (c ∷ cs) ∷ xs) rest.trimmed;
      filled = ap (λ b. cond b (cut_row (c ∷ cs) ∷ body (map cut_row rs)) (body (map cut_row rs)))
          (some-more (length (trimmed_row cs))) ∙ ap (λ xs. cut_row (c ∷ cs) ∷ xs) rest.filled;
      few = ap (λ b. b && list_all (λ row. nat_le (length row) k) (map cut_row rs)) shape.0 ∙ rest.few;
      held = λ part alignments.
          ap (λ b. cond b (made_row false part alignments (c ∷ cs) ∷ filled_rows (made_rows part alignments rs))
          (filled_rows (made_rows part alignments rs)))
          (some-more (length (made_cells false (drop 1 alignments) cs)))
          ∙ ap (λ xs. made_row false part alignments (c ∷ cs) ∷ xs) (rest.held part alignments);
    }

-- ---- the table

some-wide : (header : List Inlines) (rows : List (List Inlines)) → shows_last_column header rows ≡ true
    → ((max 0 (length (trimmed_row header)) == length header)
    || list_any (λ row. length row == length header) rows) ≡ true
some-wide header rows h = test (ends_filled header)
    (λ e.
    let same : length (trimmed_row header) ≡ length header = ap (λ xs. length xs) (full-row header e) in
    let is : (max 0 (length (trimmed_row header)) == length header) ≡ true = grind (arith, nat_tests, same) in
    ap (λ b. b || list_any (λ row. length row == length header) rows) is)
    (λ e.
    let other : list_any (λ row. length row == length header) rows ≡ true =
    sym (ap (λ b. b || list_any (λ row. length row == length header) rows) e) ∙ h in
    ap (λ b. (max 0 (length (trimmed_row header)) == length header) || b) other
    ∙ or-true (max 0 (length (trimmed_row header)) == length header))
  where
    or-true : (b : Bool) → (b || true) ≡ true
    or-true true = refl
    or-true false = refl

-- rows that are read, some with empty cells at their ends, are the table that they are without these
pub lines-made : (alignments : List Alignment) (header : List Inlines) (rows : List (List Inlines))
    → has_cell header ≡ true → (length alignments == length header) ≡ true
    → list_all (is_normal_row (length header)) (map cut_row rows) ≡ true
    → shows_last_column header (map cut_row rows) ≡ true
    → table_of_all alignments true (header ∷ rows) ≡ Some (table alignments header (map cut_row rows))
lines-made alignments [] rows some count normal last = false-true some
lines-made alignments (c ∷ cs) rows some count normal last =
    let header : List Inlines = c ∷ cs in
    let k : ℕ = length header in
    let own = normal-rows k rows normal in
    let low : length (trimmed_row header) ≤ k = trimmed-length header in
    let wide : width (trimmed_row header ∷ map cut_row rows) ≡ k =
    widest k (max 0 (length (trimmed_row header))) (map cut_row rows) (omega (arith, low)) own.few
    (some-wide header (map cut_row rows) last) in
    let same : length alignments ≡ k = grind (arith, nat_tests, count) in
    ap (λ ls. table_of alignments true (trimmed_row header ∷ ls)) own.trimmed
    ∙ (ap (λ n. cond (n == 0) None (Some (table (aligned n alignments) (padded n (trimmed_row header))
    (body (map cut_row rows))))) wide
    ∙ (ap (λ b. cond b None (Some (table (aligned k alignments) (padded k (trimmed_row header))
    (body (map cut_row rows))))) (no-zero (length cs))
    ∙ (ap (λ more. Some (table more (padded k (trimmed_row header)) (body (map cut_row rows))))
    (aligned-all k alignments same)
    ∙ (ap (λ xs. Some (table alignments xs (body (map cut_row rows)))) (header-padded header)
    ∙ ap (λ xs. Some (table alignments header xs)) own.filled))))
  where
    no-zero : (n : ℕ) → (suc n == 0) ≡ false
    no-zero n = grind (arith, nat_tests)

-- so are rows of a page
pub table-made : (head part : Option ℕ) (alignments : List Alignment) (header : List Inlines)
    (rows : List (List Inlines)) → has_cell header ≡ true → (length alignments == length header) ≡ true
    → list_all (is_normal_row (length header)) (map cut_row rows) ≡ true
    → shows_last_column header (map cut_row rows) ≡ true
    → table_of_rows (filled_rows (made_row true head alignments header ∷ made_rows part alignments rows))
    ≡ Some (table alignments header (map cut_row rows))
table-made head part alignments [] rows some count normal last = false-true some
table-made head part alignments (c ∷ cs) rows some count normal last =
    let header : List Inlines = c ∷ cs in
    let k : ℕ = length header in
    let first : Row = made_row true head alignments header in
    let own = normal-rows k rows normal in
    let same : length alignments ≡ k = grind (arith, nat_tests, count) in
    ap (λ b. table_of_rows (cond b (first ∷ filled_rows (made_rows part alignments rows))
    (filled_rows (made_rows part alignments rows)))) (some-more (length (made_cells true (drop 1 alignments) cs)))
    ∙ (ap (λ rs. table_of_rows (first ∷ rs)) (own.held part alignments)
    ∙ (ap (λ more. table_of more true (map trimmed_row (grid (first ∷ made_rows part alignments rows))))
    (said true alignments header same)
    ∙ (ap (λ ls. table_of alignments true (map trimmed_row ls)) (grid-kept head part alignments header rows)
    ∙ lines-made alignments header rows some count normal last)))
