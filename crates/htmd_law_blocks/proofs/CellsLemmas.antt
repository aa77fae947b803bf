-- The cells of a table's line are read as they are written.
use Rattle.std.proofs.Common.{◌≡◌, ◌∙◌, refl, sym, ap, subst, ℕ, zero, suc, ◌≤◌, Bool, true, false, List, [], ◌∷◌, ◌-◌}
use Rattle.std.proofs.Common.{◌++◌, map, append_assoc, arith}
use Rattle.std.proofs.lemmas.Bool.Decides.{nat_tests}
use Rattle.std.proofs.lemmas.List.{append-nil, reverse-append, reverse-reverse}
use Rattle.std.specs.Prelude.{◌==◌, ◌&&◌, if◌then◌else◌, replicate, reverse, Some, None}
use Rattle.htmd_lexical.specs.Characters.{space, hyphen, colon}
use Rattle.htmd_lexical.specs.CharacterClasses.{first_is, behind_run}
use Rattle.htmd_commonmark.specs.TableLines as tables
use Rattle.htmd_commonmark.specs.Columns.{width_of}
use Rattle.htmd_document.specs.declared.document.Alignment.{Alignment}
use Rattle.htmd_commonmark.specs.TableLines.{in_cell, with_escaped_bars, colon_if, is_left, is_right, dashes}
use Rattle.htmd_commonmark.specs.TableLines.{delimiters}
use Rattle.htmd_commonmark_reading.specs.Characters.{is_space_or_tab, stripped, stripped_end}
use Rattle.htmd_commonmark_reading.specs.Lines.{onto_first}
use Rattle.htmd_commonmark_reading.specs.Tables.{cells, without_first_bar, is_hyphen, has_hyphens_alone, without_colon}
use Rattle.htmd_commonmark_reading.specs.Tables.{is_delimiter, alignment_of, alignments_of, aligned, one_more_alignment}
use Rattle.htmd_commonmark_reading.specs.Tables.{delimiter_row, split_at_bars, with_bars, without_blank_last}
use Rattle.htmd_commonmark_reading.specs.Tables.{cell_texts}
use Rattle.htmd_law_blocks.specs.LineTexts.{IsBlack, EndsBlack, IsTrimmed}
use Rattle.htmd_law_blocks.proofs.LinesLemmas.{black_past}
use mathlib.Core.List.{reverse-cons}

-- ---- bars with a backslash before them

escaped_first : (t : List ℕ) → first_is 124 (with_escaped_bars t) ≡ false
escaped_first [] = refl
escaped_first (x ∷ t) = go (x == 124) refl
  where
    go : (b : Bool) → (x == 124) ≡ b → first_is 124 (with_escaped_bars (x ∷ t)) ≡ false
    go true e = rw e refl
    go false e = rw e e

pub escaped_bar : (x : ℕ) (t : List ℕ) → (x == 124) ≡ true
    → with_escaped_bars (x ∷ t) ≡ 92 ∷ 124 ∷ with_escaped_bars t
escaped_bar x t e = rw e refl

pub escaped_other : (x : ℕ) (t : List ℕ) → (x == 124) ≡ false
    → with_escaped_bars (x ∷ t) ≡ x ∷ with_escaped_bars t
escaped_other x t e = rw e refl

is_bar : (x : ℕ) → (x == 124) ≡ true → 124 ≡ x
is_bar x e = grind (arith, nat_tests)

bars_back : (t : List ℕ) → with_bars (with_escaped_bars t) ≡ t
bars_back [] = refl
bars_back (x ∷ t) = go (x == 124) refl (bars_back t)
  where
    kept : (b : Bool) (u : List ℕ) → (if (b && false) then with_bars u else x ∷ with_bars u) ≡ x ∷ with_bars u
    kept true u = refl
    kept false u = refl

    go : (b : Bool) → (x == 124) ≡ b → with_bars (with_escaped_bars t) ≡ t
        → with_bars (with_escaped_bars (x ∷ t)) ≡ x ∷ t
    go true e i =
        ap with_bars (escaped_bar x t e) ∙ ap (◌∷◌ 124) i ∙ ap (λ (c : ℕ). c ∷ t) (is_bar x e)
    go false e i =
        let u = with_escaped_bars t in
        ap with_bars (escaped_other x t e)
        ∙ ap (λ (b : Bool). if ((x == 92) && b) then with_bars u else x ∷ with_bars u) (escaped_first t)
        ∙ kept (x == 92) u ∙ ap (◌∷◌ x) i

-- ---- cut at bars

abbrev prepended : List ℕ → List (List ℕ) → List (List ℕ)
prepended [] ls = ls
prepended (x ∷ xs) ls = onto_first x (prepended xs ls)

prepended_cons : (xs q : List ℕ) (qs : List (List ℕ)) → prepended xs (q ∷ qs) ≡ (xs ++ q) ∷ qs
prepended_cons [] q qs = refl
prepended_cons (x ∷ xs) q qs = ap (onto_first x) (prepended_cons xs q qs)

split_cell : (t : List ℕ) (before : ℕ) (s : List ℕ)
    → split_at_bars before (with_escaped_bars t ++ (32 ∷ s))
    ≡ prepended (with_escaped_bars t) (onto_first 32 (split_at_bars 32 s))
split_cell [] before s = refl
split_cell (x ∷ t) before s = go (x == 124) refl (λ b. split_cell t b s)
  where
    r : List (List ℕ)
    r = onto_first 32 (split_at_bars 32 s)

    u : List ℕ
    u = with_escaped_bars t

    go : (b : Bool) → (x == 124) ≡ b → ((c : ℕ) → split_at_bars c (u ++ (32 ∷ s)) ≡ prepended u r)
        → split_at_bars before (with_escaped_bars (x ∷ t) ++ (32 ∷ s)) ≡ prepended (with_escaped_bars (x ∷ t))
        r
    go true e i =
        ap (λ (y : List ℕ). split_at_bars before (y ++ (32 ∷ s))) (escaped_bar x t e)
        ∙ ap (λ (y : List (List ℕ)). onto_first 92 (onto_first 124 y)) (i 124)
        ∙ ap (λ (y : List ℕ). prepended y r) (sym (escaped_bar x t e))
    go false e i =
        let f : split_at_bars before (x ∷ (u ++ (32 ∷ s))) ≡ onto_first x (split_at_bars x (u ++ (32 ∷ s))) =
        rw e refl in
        ap (λ (y : List ℕ). split_at_bars before (y ++ (32 ∷ s))) (escaped_other x t e)
        ∙ f ∙ ap (onto_first x) (i x)
        ∙ ap (λ (y : List ℕ). prepended y r) (sym (escaped_other x t e))

split_pad : (k : ℕ) (s : List ℕ) → split_at_bars 32 (replicate k 32 ++ (124 ∷ s)) ≡ replicate k 32
    ∷ split_at_bars 124 s
split_pad zero s = refl
split_pad (suc k) s = ap (onto_first 32) (split_pad k s)

-- a cell between its spaces
abbrev spaced : List ℕ → ℕ → List ℕ
spaced c k = 32 ∷ (c ++ (32 ∷ replicate k 32))

split_spaced : (t : List ℕ) (k before : ℕ) (s : List ℕ)
    → split_at_bars before (spaced (with_escaped_bars t) k ++ (124 ∷ s))
    ≡ spaced (with_escaped_bars t) k ∷ split_at_bars 124 s
split_spaced t k before s =
    let c = with_escaped_bars t in
    ap (λ (x : List ℕ). onto_first 32 (split_at_bars 32 x)) (append_assoc c (32 ∷ replicate k 32) (124 ∷ s))
    ∙ ap (onto_first 32) (split_cell t 32 (replicate k 32 ++ (124 ∷ s)))
    ∙ ap (λ (x : List (List ℕ)). onto_first 32 (prepended c (onto_first 32 x))) (split_pad k s)
    ∙ ap (onto_first 32) (prepended_cons c (32 ∷ replicate k 32) (split_at_bars 124 s))

pads_turn : (k : ℕ) → replicate k space ++ (space ∷ []) ≡ space ∷ replicate k space
pads_turn zero = refl
pads_turn (suc k) = ap (◌∷◌ space) (pads_turn k)

padded_spaced : (c : List ℕ) (w : ℕ) → tables.padded_cell c w ≡ spaced c (w - width_of c)
padded_spaced c w = ap (λ (x : List ℕ). 32 ∷ (c ++ x)) (pads_turn (w - width_of c))

-- ---- texts without white space at their ends

ends_cons : (c : ℕ) (s : List ℕ) → EndsBlack s → EndsBlack (c ∷ s)
ends_cons c [] h = absurd h
ends_cons c (d ∷ s) h = h

ends_append : (s t : List ℕ) → EndsBlack t → EndsBlack (s ++ t)
ends_append [] t h = h
ends_append (c ∷ s) t h = ends_cons c (s ++ t) (ends_append s t h)

escaped_ends : (t : List ℕ) → EndsBlack t → EndsBlack (with_escaped_bars t)
escaped_ends [] h = absurd h
escaped_ends (c ∷ []) h = go (c == 124) refl
  where
    go : (b : Bool) → (c == 124) ≡ b → EndsBlack (with_escaped_bars (c ∷ []))
    go true e = subst EndsBlack (sym (escaped_bar c [] e)) refl
    go false e = subst EndsBlack (sym (escaped_other c [] e)) h
escaped_ends (c ∷ d ∷ t) h = ends_append (in_cell c) (with_escaped_bars (d ∷ t)) (escaped_ends (d ∷ t) h)

escaped_trimmed : (t : List ℕ) → IsTrimmed t → IsTrimmed (with_escaped_bars t)
escaped_trimmed [] h = tt
escaped_trimmed (c ∷ t) h = go (c == 124) refl (escaped_ends (c ∷ t) h.1)
  where
    go : (b : Bool) → (c == 124) ≡ b → EndsBlack (with_escaped_bars (c ∷ t)) → IsTrimmed
        (with_escaped_bars (c ∷ t))
    go true e i = subst IsTrimmed (sym (escaped_bar c t e)) (refl, subst EndsBlack (escaped_bar c t e) i)
    go false e i = subst IsTrimmed (sym (escaped_other c t e)) (h.0, subst EndsBlack (escaped_other c t e) i)

blanks_gone : (k : ℕ) → behind_run is_space_or_tab (replicate k 32) ≡ []
blanks_gone zero = refl
blanks_gone (suc k) = blanks_gone k

black_append : (s t : List ℕ) → IsBlack s → IsBlack (s ++ t)
black_append [] t h = absurd h
black_append (c ∷ s) t h = h

reverse_black : (c : List ℕ) → EndsBlack c → IsBlack (reverse c)
reverse_black [] h = absurd h
reverse_black (x ∷ []) h = h
reverse_black (x ∷ d ∷ s) h =
    subst IsBlack (sym (reverse-cons x (d ∷ s))) (black_append (reverse (d ∷ s)) (x ∷ [])
    (reverse_black (d ∷ s) h))

pub run_turn : (x k : ℕ) → replicate k x ++ (x ∷ []) ≡ x ∷ replicate k x
run_turn x zero = refl
run_turn x (suc k) = ap (◌∷◌ x) (run_turn x k)

pub reverse_run : (x k : ℕ) → reverse (replicate k x) ≡ replicate k x
reverse_run x zero = refl
reverse_run x (suc k) =
    reverse-cons x (replicate k x) ∙ ap (λ (y : List ℕ). y ++ (x ∷ [])) (reverse_run x k) ∙ run_turn x k

blanks_passed : (k : ℕ) (y : List ℕ) → behind_run is_space_or_tab (replicate k space ++ y) ≡ behind_run
    is_space_or_tab y
blanks_passed zero y = refl
blanks_passed (suc k) y = blanks_passed k y

pub ends_strip : (c : List ℕ) (k : ℕ) → EndsBlack c → stripped_end is_space_or_tab
    (c ++ replicate k space) ≡ c
ends_strip c k h =
    ap (λ (x : List ℕ). reverse (behind_run is_space_or_tab x)) (reverse-append c (replicate k space))
    ∙ ap (λ (x : List ℕ). reverse (behind_run is_space_or_tab (x ++ reverse c))) (reverse_run space k)
    ∙ ap reverse (blanks_passed k (reverse c) ∙ black_past (reverse c) (reverse_black c h))
    ∙ reverse-reverse c

strip_spaced : (c : List ℕ) (k : ℕ) → IsTrimmed c → stripped (spaced c k) ≡ c
strip_spaced [] k h = ap (stripped_end is_space_or_tab) (blanks_gone k)
strip_spaced (x ∷ s) k h =
    ap (stripped_end is_space_or_tab) (black_past ((x ∷ s) ++ replicate (suc k) space) h.0)
    ∙ ends_strip (x ∷ s) (suc k) h.1

-- ---- a line of cells

abbrev pub AreTrimmed : List (List ℕ) → Type 0
AreTrimmed [] = Unit {0}
AreTrimmed (t ∷ ts) = IsTrimmed t × AreTrimmed ts

-- a width for each cell
abbrev pub Fit : List (List ℕ) → List ℕ → Type 0
Fit [] ws = Unit {0}
Fit (t ∷ ts) [] = ⊥
Fit (t ∷ ts) (w ∷ ws) = Fit ts ws

abbrev pub escaped_cells : List (List ℕ) → List (List ℕ)
escaped_cells ts = map with_escaped_bars ts

abbrev spaced_cells : List (List ℕ) → List ℕ → List (List ℕ)
spaced_cells [] ws = []
spaced_cells (t ∷ ts) [] = []
spaced_cells (t ∷ ts) (w ∷ ws) =
    spaced (with_escaped_bars t) (w - width_of (with_escaped_bars t)) ∷ spaced_cells ts ws

split_line : (ts : List (List ℕ)) (ws : List ℕ) (before : ℕ) → Fit ts ws
    → split_at_bars before (tables.barred_cells (escaped_cells ts) ws) ≡ spaced_cells ts ws ++ ([] ∷ [])
split_line [] ws before h = refl
split_line (t ∷ ts) [] before h = absurd h
split_line (t ∷ ts) (w ∷ ws) before h =
    let c = with_escaped_bars t in
    let k = w - width_of c in
    let more = tables.barred_cells (escaped_cells ts) ws in
    ap (λ (x : List ℕ). split_at_bars before (x ++ (124 ∷ more))) (padded_spaced c w)
    ∙ split_spaced t k before more
    ∙ ap (◌∷◌ (spaced c k)) (split_line ts ws 124 h)

last_gone : (xs : List (List ℕ)) → without_blank_last (xs ++ ([] ∷ [])) ≡ xs
last_gone [] = refl
last_gone (x ∷ []) = refl
last_gone (x ∷ y ∷ xs) = ap (◌∷◌ x) (last_gone (y ∷ xs))

cells_back : (ts : List (List ℕ)) (ws : List ℕ) → AreTrimmed ts → Fit ts ws → cell_texts
    (spaced_cells ts ws) ≡ ts
cells_back [] ws a f = refl
cells_back (t ∷ ts) [] a f = absurd f
cells_back (t ∷ ts) (w ∷ ws) a f =
    let c = with_escaped_bars t in
    let k = w - width_of c in
    ap (λ (x : List ℕ). with_bars x ∷ cell_texts (spaced_cells ts ws)) (strip_spaced c k (escaped_trimmed t a.0))
    ∙ ap (λ (x : List ℕ). x ∷ cell_texts (spaced_cells ts ws)) (bars_back t)
    ∙ ap (◌∷◌ t) (cells_back ts ws a.1 f)

pub line_ends : (ts : List (List ℕ)) (ws : List ℕ) → Fit ts ws → EndsBlack (tables.line (escaped_cells ts) ws)
line_ends [] ws f = refl
line_ends (t ∷ ts) [] f = absurd f
line_ends (t ∷ ts) (w ∷ ws) f =
    let c = with_escaped_bars t in
    ends_append (124 ∷ tables.padded_cell c w) (124 ∷ tables.barred_cells (escaped_cells ts) ws) (line_ends ts ws f)

-- the cells of a line, whatever the widths
pub line_cells : (ts : List (List ℕ)) (ws : List ℕ) → AreTrimmed ts → Fit ts ws
    → cells (tables.line (escaped_cells ts) ws) ≡ ts
line_cells ts ws a f =
    let b = tables.barred_cells (escaped_cells ts) ws in
    let e : stripped (124 ∷ b) ≡ 124 ∷ b =
    ap (stripped_end is_space_or_tab) (sym (append-nil (124 ∷ b))) ∙ ends_strip (124 ∷ b) 0 (line_ends ts ws f) in
    ap (λ (x : List ℕ). cell_texts (without_blank_last (split_at_bars 0 (without_first_bar x)))) e
    ∙ ap (λ (x : List (List ℕ)). cell_texts (without_blank_last x)) (split_line ts ws 0 f)
    ∙ ap cell_texts (last_gone (spaced_cells ts ws))
    ∙ cells_back ts ws a f

-- ---- delimiter rows

abbrev pub run : ℕ → List ℕ
run m = replicate m hyphen

hyphens_alone : (m : ℕ) → has_hyphens_alone (run (suc m)) ≡ true
hyphens_alone m = rw (gone m) refl
  where
    gone : (m : ℕ) → behind_run is_hyphen (run m) ≡ []
    gone zero = refl
    gone (suc m) = gone m

-- after the first sign: hyphens, and a last sign
rest_is : (m y : ℕ) → ((y == colon) ≡ true) → has_hyphens_alone
    (reverse (without_colon (reverse (run (suc m) ++ (y ∷ []))))) ≡ true
rest_is m y e =
    ap (λ (x : List ℕ). has_hyphens_alone (reverse (without_colon x))) (reverse-append (run (suc m)) (y ∷ []))
    ∙ by_colon e
    ∙ ap (λ (x : List ℕ). has_hyphens_alone x) (reverse-reverse (run (suc m)))
    ∙ hyphens_alone m
  where
    by_colon : (y == colon) ≡ true → has_hyphens_alone (reverse (without_colon (y ∷ reverse (run (suc m)))))
        ≡ has_hyphens_alone (reverse (reverse (run (suc m))))
    by_colon e = rw e refl

rest_hyphen : (m : ℕ) → has_hyphens_alone (reverse (without_colon
    (reverse (run (suc m) ++ (hyphen ∷ []))))) ≡ true
rest_hyphen m =
    ap (λ (x : List ℕ). has_hyphens_alone (reverse (without_colon (reverse x)))) (run_turn hyphen (suc m))
    ∙ ap (λ (x : List ℕ). has_hyphens_alone (reverse (without_colon x))) (reverse_run hyphen (suc (suc m)))
    ∙ ap has_hyphens_alone (reverse_run hyphen (suc (suc m)))
    ∙ hyphens_alone (suc m)

rest_colon : (m : ℕ) → has_hyphens_alone (reverse (without_colon
    (reverse (run (suc m) ++ (colon ∷ []))))) ≡ true
rest_colon m = rest_is m colon refl

alignment_is : (x y n : ℕ) → alignment_of (x ∷ (run n ++ (y ∷ []))) ≡ aligned (x == colon) (y == colon)
alignment_is x y n =
    ap (λ (s : List ℕ). aligned (x == colon) (first_is colon s)) (reverse-append (x ∷ run n) (y ∷ []))

-- a delimiter row's cell of some hyphens
dash_is : (a : Alignment) (n : ℕ)
    → (let d = colon_if (is_left a) ++ run (suc n) ++ colon_if (is_right a) in
    (is_delimiter d ≡ true) × (alignment_of d ≡ a))
dash_is Alignment.None n = (rest_hyphen (suc n), alignment_is hyphen hyphen (suc n))
dash_is Alignment.Left n = (rest_hyphen n, alignment_is colon hyphen (suc n))
dash_is Alignment.Center n = (rest_colon n, alignment_is colon colon (suc n))
dash_is Alignment.Right n = (rest_colon (suc n), alignment_is hyphen colon (suc n))

-- widths of three columns at least
abbrev pub AreWide : List ℕ → Type 0
AreWide [] = Unit {0}
AreWide (w ∷ ws) = 3 ≤ w × AreWide ws

abbrev pub dash_cells : List Alignment → List ℕ → List (List ℕ)
dash_cells [] ws = []
dash_cells (a ∷ al) [] = []
dash_cells (a ∷ al) (w ∷ ws) = dashes a w ∷ dash_cells al ws

-- as many widths as alignments
abbrev pub Aligned : List Alignment → List ℕ → Type 0
Aligned [] ws = Unit {0}
Aligned (a ∷ al) [] = ⊥
Aligned (a ∷ al) (w ∷ ws) = Aligned al ws

dashes_are : (a : Alignment) (w : ℕ) → 3 ≤ w → (is_delimiter (dashes a w) ≡ true) ×
    (alignment_of (dashes a w) ≡ a)
dashes_are a w h =
    let e : suc (w - 3) ≡ w - 2 = omega arith in
    subst (λ (n : ℕ). (is_delimiter (colon_if (is_left a) ++ run n ++ colon_if (is_right a)) ≡ true)
    × (alignment_of (colon_if (is_left a) ++ run n ++ colon_if (is_right a)) ≡ a)) e (dash_is a (w - 3))

dash_alignments : (al : List Alignment) (ws : List ℕ) → Aligned al ws → AreWide ws
    → alignments_of (dash_cells al ws) ≡ Some al
dash_alignments [] ws h w = refl
dash_alignments (a ∷ al) [] h w = absurd h
dash_alignments (a ∷ al) (n ∷ ws) h w =
    let d = dashes_are a n w.0 in
    ap (one_more_alignment (dashes a n)) (dash_alignments al ws h w.1)
    ∙ ap (λ (b : Bool). if b then Some (alignment_of (dashes a n) ∷ al) else None) d.0
    ∙ ap (λ (x : Alignment). Some (x ∷ al)) d.1

-- ---- dashes as cells

escaped_append : (s t : List ℕ) → with_escaped_bars (s ++ t) ≡ with_escaped_bars s ++ with_escaped_bars t
escaped_append [] t = refl
escaped_append (x ∷ s) t =
    ap (λ (y : List ℕ). in_cell x ++ y) (escaped_append s t)
    ∙ sym (append_assoc (in_cell x) (with_escaped_bars s) (with_escaped_bars t))

escaped_run : (n : ℕ) → with_escaped_bars (run n) ≡ run n
escaped_run zero = refl
escaped_run (suc n) = ap (◌∷◌ hyphen) (escaped_run n)

escaped_colon : (b : Bool) → with_escaped_bars (colon_if b) ≡ colon_if b
escaped_colon true = refl
escaped_colon false = refl

escaped_dashes : (a : Alignment) (w : ℕ) → with_escaped_bars (dashes a w) ≡ dashes a w
escaped_dashes a w =
    let l = colon_if (is_left a) in
    let r = colon_if (is_right a) in
    let n = w - 2 in
    escaped_append (l ++ run n) r
    ∙ ap (λ (x : List ℕ). x ++ with_escaped_bars r) (escaped_append l (run n))
    ∙ ap (λ (x : List ℕ). (x ++ with_escaped_bars (run n)) ++ with_escaped_bars r) (escaped_colon (is_left a))
    ∙ ap (λ (x : List ℕ). (l ++ x) ++ with_escaped_bars r) (escaped_run n)
    ∙ ap (λ (x : List ℕ). (l ++ run n) ++ x) (escaped_colon (is_right a))

colon_ends : (b : Bool) → EndsBlack (colon_if b)
colon_ends true = refl
colon_ends false = refl

dashes_trimmed : (a : Alignment) (w : ℕ) → IsTrimmed (dashes a w)
dashes_trimmed a w =
    go (is_left a) (ends_append (colon_if (is_left a) ++ run (w - 2)) (colon_if (is_right a)) (colon_ends (is_right a)))
  where
    go : (b : Bool) → EndsBlack (colon_if b ++ run (w - 2) ++ colon_if (is_right a))
        → IsTrimmed (colon_if b ++ run (w - 2) ++ colon_if (is_right a))
    go true h = (refl, h)
    go false h = (refl, h)

dash_cells_trimmed : (al : List Alignment) (ws : List ℕ) → AreTrimmed (dash_cells al ws)
dash_cells_trimmed [] ws = tt
dash_cells_trimmed (a ∷ al) [] = tt
dash_cells_trimmed (a ∷ al) (w ∷ ws) = (dashes_trimmed a w, dash_cells_trimmed al ws)

abbrev pub zeros : List ℕ → List ℕ
zeros [] = []
zeros (w ∷ ws) = 0 ∷ zeros ws

dash_fit : (al : List Alignment) (ws : List ℕ) → Fit (dash_cells al ws) (zeros ws)
dash_fit [] ws = tt
dash_fit (a ∷ al) [] = tt
dash_fit (a ∷ al) (w ∷ ws) = dash_fit al ws

pub delimiters_barred : (al : List Alignment) (ws : List ℕ)
    → delimiters al ws ≡ tables.barred_cells (escaped_cells (dash_cells al ws)) (zeros ws)
delimiters_barred [] ws = refl
delimiters_barred (a ∷ al) [] = refl
delimiters_barred (a ∷ al) (w ∷ ws) =
    let d = dashes a w in
    let more = delimiters al ws in
    let n : 0 - width_of d ≡ 0 = omega arith in
    ap (λ (x : List ℕ). 32 ∷ x) (append_assoc d (32 ∷ 124 ∷ []) more ∙ sym
    (append_assoc d (32 ∷ []) (124 ∷ more)))
    ∙ ap (λ (k : ℕ). (32 ∷ (d ++ (replicate k 32 ++ (32 ∷ [])))) ++ (124 ∷ more)) (sym n)
    ∙ ap (λ (x : List ℕ). tables.padded_cell x 0 ++ (124 ∷ more)) (sym (escaped_dashes a w))
    ∙ ap (λ (x : List ℕ). tables.padded_cell (with_escaped_bars d) 0 ++ (124 ∷ x)) (delimiters_barred al ws)

-- the line under a header has its alignments
pub delimiter_line : (al : List Alignment) (ws : List ℕ) → Aligned al ws → AreWide ws
    → delimiter_row (124 ∷ delimiters al ws) ≡ Some al
delimiter_line al ws h w =
    ap (λ (x : List ℕ). delimiter_row (124 ∷ x)) (delimiters_barred al ws)
    ∙ ap alignments_of (line_cells (dash_cells al ws) (zeros ws) (dash_cells_trimmed al ws) (dash_fit al ws))
    ∙ dash_alignments al ws h w

pub delimiter_ends : (al : List Alignment) (ws : List ℕ) → EndsBlack (124 ∷ delimiters al ws)
delimiter_ends al ws =
    subst (λ (x : List ℕ). EndsBlack (124 ∷ x)) (sym (delimiters_barred al ws))
    (line_ends (dash_cells al ws) (zeros ws) (dash_fit al ws))
