-- The lines of a table, by the texts of its cells.
use Rattle.std.proofs.Common.{◌≡◌, ◌∙◌, refl, sym, ap, subst, ℕ, zero, suc, ◌≤◌, Bool, true, false, List, [], ◌∷◌, ◌-◌}
use Rattle.std.proofs.Common.{◌++◌, length, map, append_assoc, arith}
use Rattle.std.proofs.lemmas.List.{append-nil, length-replicate}
use Rattle.std.specs.Prelude.{◌==◌, nat_le, max, fold, if◌then◌else◌, replicate, Some}
use Rattle.htmd_lexical.specs.Characters.{hyphen}
use Rattle.htmd_lexical.specs.CharacterClasses.{first_is}
use Rattle.htmd_commonmark.specs.TableLines as tables
use Rattle.htmd_commonmark.specs.Columns.{width_of}
use Rattle.htmd_document.specs.declared.document.Alignment.{Alignment}
use Rattle.htmd_commonmark.specs.TableLines.{with_escaped_bars, narrowest, widened, column_widths}
use Rattle.htmd_commonmark.specs.TableLines.{line_width, longest_padded, colon_if, is_left, is_right}
use Rattle.htmd_commonmark.specs.TableLines.{delimiters, shown_cells, rows_text, table_text}
use Rattle.htmd_commonmark_reading.specs.Characters.{stripped, stripped_end, is_space_or_tab}
use Rattle.htmd_commonmark_reading.specs.Lines.{line}
use Rattle.htmd_commonmark_reading.specs.Tables.{cells, fitted, delimiter_row}
use Rattle.htmd_commonmark_reading.specs.Boxes.{joined_lines, end_line, fitted_rows}
use Rattle.htmd_commonmark_reading.specs.LeafBlocks.{delimiter_row_of}
use Rattle.htmd_law_blocks.specs.LineTexts.{lines_of}
use Rattle.htmd_law_blocks.proofs.TextsLemmas.{IsClean, AreClean, clean_append, written_lines}
use Rattle.htmd_law_blocks.proofs.CellsLemmas.{run, AreTrimmed, Fit, Aligned, AreWide, escaped_cells, escaped_bar}
use Rattle.htmd_law_blocks.proofs.CellsLemmas.{escaped_other, line_cells, delimiter_line, delimiter_ends, ends_strip}
use Rattle.htmd_law_blocks.proofs.CellsLemmas.{dash_cells, zeros, delimiters_barred}
use Rattle.htmd_law_blocks.proofs.RowsLemmas.{escaped_length, shown_texts, shown_back, shown_short, shown_escaped}
use Rattle.htmd_law_blocks.proofs.RowsLemmas.{shown_trimmed}

-- ---- widths

wide_start : (hs : List (List ℕ)) → AreWide (map (λ cell. max narrowest (width_of cell)) hs)
wide_start [] = tt
wide_start (h ∷ hs) = (omega arith, wide_start hs)

widened_wide : (ws : List ℕ) (cs : List (List ℕ)) → AreWide ws → AreWide (widened ws cs)
widened_wide [] cs h = tt
widened_wide (w ∷ ws) [] h = h
widened_wide (w ∷ ws) (c ∷ cs) h = (let g = h.0 in omega (arith, g), widened_wide ws cs h.1)

widened_length : (ws : List ℕ) (cs : List (List ℕ)) → length (widened ws cs) ≡ length ws
widened_length [] cs = refl
widened_length (w ∷ ws) [] = refl
widened_length (w ∷ ws) (c ∷ cs) = ap suc (widened_length ws cs)

all_widened : (rows : List (List (List ℕ))) (ws : List ℕ) → AreWide ws
    → AreWide (fold widened ws rows) × (length (fold widened ws rows) ≡ length ws)
all_widened [] ws h = (h, refl)
all_widened (r ∷ rows) ws h =
    let i = all_widened rows (widened ws r) (widened_wide ws r h) in
    (i.0, i.1 ∙ widened_length ws r)

start_length : (hs : List (List ℕ)) → length (map (λ cell. max narrowest (width_of cell)) hs) ≡ length hs
start_length [] = refl
start_length (h ∷ hs) = ap suc (start_length hs)

widths_are : (hs : List (List ℕ)) (rows : List (List (List ℕ)))
    → AreWide (column_widths hs rows) × (length (column_widths hs rows) ≡ length hs)
widths_are hs rows =
    let i = all_widened rows (map (λ cell. max narrowest (width_of cell)) hs) (wide_start hs) in
    (i.0, i.1 ∙ start_length hs)

all_narrow : (n : ℕ) → AreWide (replicate n narrowest)
all_narrow zero = tt
all_narrow (suc n) = (omega arith, all_narrow n)

fit_by : (ts : List (List ℕ)) (ws : List ℕ) → length ts ≤ length ws → Fit ts ws
fit_by [] ws h = tt
fit_by (t ∷ ts) [] h = absurd (omega arith)
fit_by (t ∷ ts) (w ∷ ws) h = fit_by ts ws (omega arith)

aligned_by : (al : List Alignment) (ws : List ℕ) → length al ≡ length ws → Aligned al ws
aligned_by [] ws h = tt
aligned_by (a ∷ al) [] h = absurd (let e : 1 ≤ 0 = omega arith in omega (arith, e))
aligned_by (a ∷ al) (w ∷ ws) h = aligned_by al ws (omega arith)

-- ---- clean lines

escaped_clean : (t : List ℕ) → IsClean t → IsClean (with_escaped_bars t)
escaped_clean [] h = tt
escaped_clean (c ∷ t) h = go (c == 124) refl (escaped_clean t h.3)
  where
    go : (b : Bool) → (c == 124) ≡ b → IsClean (with_escaped_bars t) → IsClean (with_escaped_bars (c ∷ t))
    go true e i = subst IsClean (sym (escaped_bar c t e)) (refl, refl, refl, (refl, refl, refl, i))
    go false e i = subst IsClean (sym (escaped_other c t e)) (h.0, h.1, h.2, i)

run_clean : (c n : ℕ) → IsClean (c ∷ []) → IsClean (replicate n c)
run_clean c zero h = tt
run_clean c (suc n) h = (h.0, h.1, h.2, run_clean c n h)

padded_clean : (c : List ℕ) (w : ℕ) → IsClean c → IsClean (tables.padded_cell c w)
padded_clean c w h =
    let pads = replicate (w - width_of c) 32 in (
      refl,
      refl,
      refl,
      clean_append c (pads ++ (32 ∷ [])) h
          (clean_append pads (32 ∷ []) (run_clean 32 (w - width_of c) (refl, refl, refl, tt))
          (refl, refl, refl, tt)),
    )

barred_clean : (ts : List (List ℕ)) (ws : List ℕ) → AreClean ts → IsClean
    (tables.barred_cells (escaped_cells ts) ws)
barred_clean [] ws h = tt
barred_clean (t ∷ ts) [] h = tt
barred_clean (t ∷ ts) (w ∷ ws) h =
    let c = with_escaped_bars t in
    clean_append (tables.padded_cell c w) (124 ∷ tables.barred_cells (escaped_cells ts) ws)
    (padded_clean c w (escaped_clean t h.0)) (refl, refl, refl, barred_clean ts ws h.1)

colon_clean : (b : Bool) → IsClean (colon_if b)
colon_clean true = (refl, refl, refl, tt)
colon_clean false = (refl, refl, refl, tt)

dash_cells_clean : (al : List Alignment) (ws : List ℕ) → AreClean (dash_cells al ws)
dash_cells_clean [] ws = tt
dash_cells_clean (a ∷ al) [] = tt
dash_cells_clean (a ∷ al) (w ∷ ws) = (
  clean_append (colon_if (is_left a) ++ run (w - 2)) (colon_if (is_right a))
      (clean_append (colon_if (is_left a)) (run (w - 2)) (colon_clean (is_left a))
      (run_clean hyphen (w - 2) (refl, refl, refl, tt)))
      (colon_clean (is_right a)),
  dash_cells_clean al ws,
)

delimiters_clean : (al : List Alignment) (ws : List ℕ) → IsClean (delimiters al ws)
delimiters_clean al ws =
    subst IsClean (sym (delimiters_barred al ws)) (barred_clean (dash_cells al ws) (zeros ws) (dash_cells_clean al ws))

none_clean : (k : ℕ) → AreClean (replicate k [])
none_clean zero = tt
none_clean (suc k) = (tt, none_clean k)

both_clean : (xs ys : List (List ℕ)) → AreClean xs → AreClean ys → AreClean (xs ++ ys)
both_clean [] ys h k = k
both_clean (x ∷ xs) ys h k = (h.0, both_clean xs ys h.1 k)

shown_clean : (b : Bool) (n : ℕ) (ts : List (List ℕ)) → AreClean ts → AreClean (shown_texts b n ts)
shown_clean true n ts h = both_clean ts (replicate (n - length ts) []) h (none_clean (n - length ts))
shown_clean false n ts h = h

-- ---- rows

abbrev pub IsSomeCells : List (List ℕ) → Type 0
IsSomeCells [] = ⊥
IsSomeCells (c ∷ cs) = Unit {0}

-- rows of up to so many cells, which are clean and trimmed
abbrev pub AreRowsOf : ℕ → List (List (List ℕ)) → Type 0
AreRowsOf n [] = Unit {0}
AreRowsOf n (r ∷ rows) = (length r ≤ n) × IsSomeCells r × AreTrimmed r × AreClean r × AreRowsOf n rows

abbrev row_line : Bool → List ℕ → List (List ℕ) → List ℕ
row_line b ws r = tables.line (shown_cells b (length ws) (escaped_cells r)) ws

abbrev row_lines : Bool → List ℕ → List (List (List ℕ)) → List (List ℕ)
row_lines b ws [] = []
row_lines b ws (r ∷ rows) = row_line b ws r ∷ row_lines b ws rows

row_cells : (b : Bool) (ws : List ℕ) (r : List (List ℕ)) → length r ≤ length ws → AreTrimmed r
    → cells (row_line b ws r) ≡ shown_texts b (length ws) r
row_cells b ws r n a =
    let ts = shown_texts b (length ws) r in
    ap (λ (x : List (List ℕ)). cells (tables.line x ws)) (shown_escaped b (length ws) r)
    ∙ line_cells ts ws (shown_trimmed b (length ws) r a) (fit_by ts ws (shown_short b (length ws) r n))

row_clean : (b : Bool) (ws : List ℕ) (r : List (List ℕ)) → AreClean r → IsClean (row_line b ws r)
row_clean b ws r h =
    let ts = shown_texts b (length ws) r in
    subst (λ (x : List (List ℕ)). IsClean (tables.line x ws)) (sym (shown_escaped b (length ws) r))
    (refl, refl, refl, barred_clean ts ws (shown_clean b (length ws) r h))

rows_clean : (b : Bool) (ws : List ℕ) (n : ℕ) (rows : List (List (List ℕ))) → AreRowsOf n rows → AreClean
    (row_lines b ws rows)
rows_clean b ws n [] h = tt
rows_clean b ws n (r ∷ rows) h = (row_clean b ws r h.3, rows_clean b ws n rows h.4)

short_row : (n : ℕ) (ws : List ℕ) (r : List (List ℕ)) → n ≡ length ws → length r ≤ n
    → length r ≤ length ws
short_row n ws r e h = omega (arith, e, h)

rows_fitted : (b : Bool) (ws : List ℕ) (n : ℕ) (rows : List (List (List ℕ))) → n ≡ length ws → AreRowsOf n
    rows
    → fitted_rows n (row_lines b ws rows) ≡ map (fitted n) rows
rows_fitted b ws n [] e h = refl
rows_fitted b ws n (r ∷ rows) e h =
    ap (λ (x : List (List ℕ)). fitted n x ∷ fitted_rows n (row_lines b ws rows))
    (row_cells b ws r (short_row n ws r e h.0) h.2 ∙ ap (λ (m : ℕ). shown_texts b m r) (sym e))
    ∙ ap (λ (x : List (List ℕ)). x ∷ fitted_rows n (row_lines b ws rows)) (shown_back b n r)
    ∙ ap (◌∷◌ (fitted n r)) (rows_fitted b ws n rows e h.4)

rows_joined : (b : Bool) (ws : List ℕ) (rows : List (List (List ℕ)))
    → rows_text b ws (map escaped_cells rows) ≡ end_line (row_lines b ws rows) (joined_lines (row_lines b ws rows))
rows_joined b ws [] = refl
rows_joined b ws (r ∷ rows) = ap (λ (x : List ℕ). 10 ∷ (row_line b ws r ++ x)) (rows_joined b ws rows)

-- ---- all lines

all_joined : (b : Bool) (ws dashed : List ℕ) (al : List Alignment) (hs : List (List ℕ))
    (rows : List (List (List ℕ)))
    → tables.lines_of b ws dashed al (escaped_cells hs) (map escaped_cells rows)
    ≡ joined_lines (tables.line (escaped_cells hs) ws ∷ (124 ∷ delimiters al dashed) ∷ row_lines b ws rows)
all_joined b ws dashed al hs rows =
    let h = tables.line (escaped_cells hs) ws in
    let d = 124 ∷ delimiters al dashed in
    append_assoc h (10 ∷ d) (rows_text b ws (map escaped_cells rows))
    ∙ ap (λ (x : List ℕ). h ++ (10 ∷ (d ++ x))) (rows_joined b ws rows)

abbrev pub AreBarred : List (List ℕ) → Type 0
AreBarred [] = Unit {0}
AreBarred (r ∷ rs) = (first_is 124 r ≡ true) × IsSomeCells (cells r) × AreBarred rs

-- the lines of a table with what a reader makes of them
pub record TableLines (al : List Alignment) (hs : List (List ℕ)) (rows : List (List (List ℕ)))
    (s : List ℕ) : Type 0
  where
    pub header : List ℕ
    pub under : List ℕ
    pub below : List (List ℕ)
    pub is : lines_of s ≡ header ∷ under ∷ below
    pub clean : AreClean (header ∷ under ∷ below)
    pub bars : (first_is 124 header ≡ true) × (first_is 124 under ≡ true)
    pub delimiters_are : (k : ℕ) → delimiter_row_of (line k under) ≡ Some al
    pub header_cells : cells header ≡ hs
    pub below_cells : fitted_rows (length al) below ≡ map (fitted (length hs)) rows
    pub below_bars : AreBarred below

delimiter_at : (al : List Alignment) (ws : List ℕ) (k : ℕ) → Aligned al ws → AreWide ws
    → delimiter_row_of (line k (124 ∷ delimiters al ws)) ≡ Some al
delimiter_at al ws k a w =
    let d = 124 ∷ delimiters al ws in
    let e : stripped d ≡ d =
    ap (stripped_end is_space_or_tab) (sym (append-nil d)) ∙ ends_strip d 0 (delimiter_ends al ws) in
    ap delimiter_row e ∙ delimiter_line al ws a w

rows_barred : (b : Bool) (ws : List ℕ) (n : ℕ) (rows : List (List (List ℕ))) → suc n ≡ length ws
    → AreRowsOf (suc n) rows
    → AreBarred (row_lines b ws rows)
rows_barred b ws n [] e h = tt
rows_barred b ws n (r ∷ rows) e h = (
  refl,
  subst IsSomeCells (sym (row_cells b ws r (short_row (suc n) ws r e h.0) h.2)) (some b r h.1),
  rows_barred b ws n rows e h.4,
)
  where
    some : (b : Bool) (r : List (List ℕ)) → IsSomeCells r → IsSomeCells (shown_texts b (length ws) r)
    some b [] l = absurd l
    some true (c ∷ cs) l = tt
    some false (c ∷ cs) l = tt

lines_by : (b : Bool) (ws dashed : List ℕ) (al : List Alignment) (h : List ℕ) (hs : List (List ℕ))
    (rows : List (List (List ℕ))) → length (h ∷ hs) ≡ length ws → length ws ≡ length dashed → AreWide
    dashed
    → length al ≡ length (h ∷ hs) → AreTrimmed (h ∷ hs) → AreClean (h ∷ hs)
    → AreRowsOf (length (h ∷ hs)) rows
    → TableLines al (h ∷ hs) rows (tables.lines_of b ws dashed al (escaped_cells (h ∷ hs))
    (map escaped_cells rows))
lines_by b ws dashed al h hs rows n m w a t c r = record {
  header = tables.line (escaped_cells (h ∷ hs)) ws;
  under = 124 ∷ delimiters al dashed;
  below = row_lines b ws rows;
  is = ap lines_of (all_joined b ws dashed al (h ∷ hs) rows)
      ∙ written_lines (tables.line (escaped_cells (h ∷ hs)) ws)
      ((124 ∷ delimiters al dashed) ∷ row_lines b ws rows) clean_all;
  clean = clean_all;
  bars = (refl, refl);
  delimiters_are = λ k. delimiter_at al dashed k (aligned_by al dashed (a ∙ n ∙ m)) w;
  header_cells = line_cells (h ∷ hs) ws t (fit_by (h ∷ hs) ws (omega (arith, n)));
  below_cells = ap (λ (i : ℕ). fitted_rows i (row_lines b ws rows)) a ∙ rows_fitted b ws (length (h ∷ hs)) rows n
      r;
  below_bars = rows_barred b ws (length hs) rows n r;
}
  where
    clean_all : AreClean (tables.line (escaped_cells (h ∷ hs)) ws ∷ (124 ∷ delimiters al dashed)
        ∷ row_lines b ws rows)
    clean_all = (
      (refl, refl, refl, barred_clean (h ∷ hs) ws c),
      ((refl, refl, refl, delimiters_clean al dashed), rows_clean b ws (length (h ∷ hs)) rows r),
    )

pub table_lines : (al : List Alignment) (h : List ℕ) (hs : List (List ℕ)) (rows : List (List (List ℕ)))
    → length al ≡ length (h ∷ hs) → AreTrimmed (h ∷ hs) → AreClean (h ∷ hs)
    → AreRowsOf (length (h ∷ hs)) rows
    → TableLines al (h ∷ hs) rows (table_text al (escaped_cells (h ∷ hs)) (map escaped_cells rows))
table_lines al h hs rows a t c r = go (nat_le (line_width ws) longest_padded)
  where
    ws : List ℕ
    ws = column_widths (escaped_cells (h ∷ hs)) (map escaped_cells rows)

    w : AreWide ws × (length ws ≡ length (escaped_cells (h ∷ hs)))
    w = widths_are (escaped_cells (h ∷ hs)) (map escaped_cells rows)

    n : length (h ∷ hs) ≡ length ws
    n = sym (w.1 ∙ escaped_length (h ∷ hs))

    none : List ℕ
    none = replicate (length ws) 0

    least : List ℕ
    least = replicate (length ws) narrowest

    flat : length ws ≡ length none
    flat = sym (length-replicate (length ws) 0)

    narrow : length none ≡ length least
    narrow = length-replicate (length ws) 0 ∙ sym (length-replicate (length ws) narrowest)

    go : (b : Bool) → TableLines al (h ∷ hs) rows
        (if b then tables.lines_of true ws ws al (escaped_cells (h ∷ hs)) (map escaped_cells rows)
        else tables.lines_of false (replicate (length ws) 0) (replicate (length ws) narrowest) al
        (escaped_cells (h ∷ hs))
        (map escaped_cells rows))
    go true = lines_by true ws ws al h hs rows n refl w.0 a t c r
    go false =
        lines_by false (replicate (length ws) 0) (replicate (length ws) narrowest) al h hs rows (n ∙ flat) narrow
        (all_narrow (length ws)) a t c r
