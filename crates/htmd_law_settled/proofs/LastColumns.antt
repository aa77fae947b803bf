-- A page's table has no column at its end in which nothing shows.
use Rattle.std.proofs.Common.{◌≡◌, ℕ, ◌-◌, ◌≤◌, ◌==◌, max, Bool, true, false, ◌||◌, cond}
use Rattle.std.proofs.Common.{List, [], ◌∷◌, ◌++◌, length, map, drop, replicate, fold, get_or, refl, sym, ap, ◌∙◌}
use Rattle.std.proofs.Common.{arith, nat_lt}
use Rattle.std.specs.List.{list_any}
use Rattle.std.proofs.lemmas.Bool.{or_right, true≢false}
use Rattle.std.proofs.lemmas.Bool.Decides.{nat_tests}
use Rattle.std.proofs.lemmas.List.{append-nil, length-append, length-replicate}
use Rattle.htmd_lexical.proofs.Cases.{test}
use Rattle.htmd_document.specs.Documents.{Inlines, no_inlines, inline}
use Rattle.htmd_document.specs.NormalDocuments.{ends_filled}
use Rattle.htmd_flow.specs.Grids.{with_cell, trimmed_row, width, padded, body}
use Rattle.htmd_law_returning.specs.SettledDocuments.{shows_last_column}

false-true : {A : Type 0} → false ≡ true → A
false-true e = absurd (true≢false (sym e))

-- a row whose empty cells at its end are cut ends in another one, if it has some
trimmed-ends : (cells : List Inlines) → nat_lt 0 (length (trimmed_row cells)) ≡ true
    → ends_filled (trimmed_row cells) ≡ true
trimmed-ends [] h = false-true h
trimmed-ends (c ∷ cs) h = before c (trimmed_row cs) h (trimmed-ends cs)
  where
    before : (c : Inlines) (t : List Inlines) → nat_lt 0 (length (with_cell c t)) ≡ true
        → (nat_lt 0 (length t) ≡ true → ends_filled t ≡ true) → ends_filled (with_cell c t) ≡ true
    before no_inlines [] h rest = false-true h
    before (inline x xs) [] h rest = refl
    before c (d ∷ t) h rest = rest (grind (arith, nat_tests))

-- some row is as long as the longest
longest : (rows : List (List Inlines)) (n k : ℕ) → fold (λ n row. max n (length row)) n rows ≡ k
    → ((n == k) || list_any (λ row. length row == k) rows) ≡ true
longest [] n k e =
    let is : (n == k) ≡ true = grind (arith, nat_tests, e) in
    ap (λ b. b || false) is
longest (r ∷ rs) n k e =
    either (n == k) (length r == k) (list_any (λ row. length row == k) rs) refl refl
    (longest rs (max n (length r)) k e)
  where
    either : (a b c : Bool) → (n == k) ≡ a → (length r == k) ≡ b → ((max n (length r) == k) || c) ≡ true
        → (a || (b || c)) ≡ true
    either true b c p q h = refl
    either false true c p q h = refl
    either false false true p q h = refl
    either false false false p q h =
        let never : (max n (length r) == k) ≡ false = grind (arith, nat_tests, p, q) in
        false-true (sym (ap (λ x. x || false) never) ∙ h)

at-least : (rows : List (List Inlines)) (n : ℕ) → n ≤ fold (λ n row. max n (length row)) n rows
at-least [] n = omega arith
at-least (r ∷ rs) n = let h = at-least rs (max n (length r)) in omega (arith, h)

-- it isn't empty
kept-row : (k : ℕ) (rows : List (List Inlines)) → (k == 0) ≡ false
    → list_any (λ row. length row == k) rows ≡ true → list_any (λ row. length row == k) (body rows) ≡ true
kept-row k [] some h = false-true h
kept-row k (r ∷ rs) some h =
    test (length r == k)
    (λ e.
    let filled : nat_lt 0 (length r) ≡ true = grind (arith, nat_tests, some, e) in
    ap (λ b. list_any (λ row. length row == k) (cond b (r ∷ body rs) (body rs))) filled
    ∙ ap (λ b. b || list_any (λ row. length row == k) (body rs)) e)
    (λ e.
    let rest = kept-row k rs some (sym (ap (λ b. b || list_any (λ row. length row == k) rs) e) ∙ h) in
    either (nat_lt 0 (length r)) rest)
  where
    either : (b : Bool) → list_any (λ row. length row == k) (body rs) ≡ true
        → list_any (λ row. length row == k) (cond b (r ∷ body rs) (body rs)) ≡ true
    either true g = or_right (length r == k) (list_any (λ row. length row == k) (body rs)) g
    either false g = g

padded-length : (k : ℕ) (cells : List Inlines) → length cells ≤ k → length (padded k cells) ≡ k
padded-length k cells h =
    let e = length-append cells (replicate (k - length cells) no_inlines) in
    let f = length-replicate (k - length cells) no_inlines in
    omega (arith, e, f, h)

-- by a row below the header
by-row : (k : ℕ) (header : List Inlines) (rows : List (List Inlines)) → (k == 0) ≡ false → length header ≤ k
    → list_any (λ row. length row == k) rows ≡ true → shows_last_column (padded k header) (body rows) ≡ true
by-row k header rows some h e =
    or_right (ends_filled (padded k header))
    (list_any (λ row. length row == length (padded k header)) (body rows))
    (ap (λ n. list_any (λ row. length row == n) (body rows)) (padded-length k header h) ∙ kept-row k rows some e)

-- by the header
by-header : (k : ℕ) (header : List Inlines) (rows : List (List Inlines)) → (length header == k) ≡ true
    → ends_filled header ≡ true → shows_last_column (padded k header) (body rows) ≡ true
by-header k header rows e f =
    let none : k - length header ≡ 0 = grind (arith, nat_tests, e) in
    let same : padded k header ≡ header =
    ap (λ n. header ++ replicate n no_inlines) none ∙ append-nil header in
    ap (λ b. b || list_any (λ row. length row == length (padded k header)) (body rows))
    (ap ends_filled same ∙ f)

-- a table of rows without the empty cells at their ends
pub last-shown : (has_header : Bool) (lines : List (List Inlines)) → (width (map trimmed_row lines) == 0) ≡ false
    → shows_last_column
    (padded (width (map trimmed_row lines)) (cond has_header (get_or (map trimmed_row lines) 0 []) []))
    (body (cond has_header (drop 1 (map trimmed_row lines)) (map trimmed_row lines))) ≡ true
last-shown false lines some =
    let rows : List (List Inlines) = map trimmed_row lines in
    let zero : (0 == width rows) ≡ false = grind (arith, nat_tests, some) in
    let e : list_any (λ row. length row == width rows) rows ≡ true =
    sym (ap (λ b. b || list_any (λ row. length row == width rows) rows) zero) ∙ longest rows 0 (width rows) refl in
    by-row (width rows) [] rows some (omega arith) e
last-shown true [] some = false-true (sym some)
last-shown true (l ∷ lines) some =
    let header : List Inlines = trimmed_row l in
    let rows : List (List Inlines) = map trimmed_row lines in
    let k : ℕ = width (header ∷ rows) in
    let zero : (0 == k) ≡ false = grind (arith, nat_tests, some) in
    let e : ((length header == k) || list_any (λ row. length row == k) rows) ≡ true =
    sym (ap (λ b. b || ((length header == k) || list_any (λ row. length row == k) rows)) zero)
    ∙ longest (header ∷ rows) 0 k refl in
    test (length header == k)
    (λ f.
    let filled : nat_lt 0 (length header) ≡ true = grind (arith, nat_tests, some, f) in
    by-header k header rows f (trimmed-ends l filled))
    (λ f.
    let low = at-least rows (max 0 (length header)) in
    by-row k header rows some (omega (arith, low))
    (sym (ap (λ b. b || list_any (λ row. length row == k) rows) f) ∙ e))
