-- The widths of a table's columns.
use Rattle.std.proofs.Common.{◌≡◌, ℕ, zero, suc, ◌+◌, ◌-◌, ◌<◌, ◌≤◌, List, [], ◌∷◌, ◌++◌, length, get_or, set, take}
use Rattle.std.proofs.Common.{drop, map, max, fold, refl, sym, ap, ◌∙◌, subst, arith, append_assoc, length-append}
use Rattle.std.specs.Prelude.{replicate}
use Rattle.std.specs.Str.{IsUtf8, chars}
use Rattle.std.proofs.lemmas.List.{take-append-drop, drop_more, drop_all, take_all, take_more_set, drop-set-lt}
use Rattle.std.proofs.lemmas.List.{length_push, length-map, length-set, length-replicate}
use Rattle.std.proofs.lemmas.Str.{length-le-encodes, encodes-chars, chars-nil}
use Rattle.htmd_lexical.specs.Characters.{space, vertical_bar}
use Rattle.htmd_markdown.specs.Tables as spec
use Rattle.htmd_markdown.specs.TableReading.{column_count}
use Rattle.htmd_markdown.specs.CellBytes.{held, held_widths}
use Rattle.htmd_markdown.proofs.TablesLemmas.{AreCells}
use Rattle.htmd_markdown.proofs.TableLinesLemmas.{Fit}

-- ---- one more line

wider_none : (ws : List ℕ) → spec.wider ws [] ≡ ws
wider_none [] = refl
wider_none (w ∷ ws) = refl

-- as far as i the widths are those of both
pub record Widening (old more ws : List ℕ) (i : ℕ) : Type 0 where
  pub within : i ≤ length ws
  pub whole : take i ws ++ spec.wider (drop i ws) (drop i more) ≡ spec.wider old more

pub widening_set : (old more ws : List ℕ) (i w : ℕ) → i < length ws → i < length more
    → w ≡ max (get_or ws i 0) (get_or more i 0) → Widening old more ws i
    → Widening old more (set ws i w) (i + 1)
widening_set old more ws i w lt within is was = record {
  within = omega (arith, length-set ws i w);
  whole =
      let front = take i ws in
      let rest = spec.wider (drop (i + 1) ws) (drop (i + 1) more) in
      let here : spec.wider (drop i ws) (drop i more) ≡ w ∷ rest =
      ap (λ l. spec.wider l (drop i more)) (drop_more ws i 0 lt)
      ∙ ap (λ l. spec.wider (get_or ws i 0 ∷ drop (i + 1) ws) l) (drop_more more i 0 within)
      ∙ ap (λ x. x ∷ rest) (sym is) in
      ap (λ l. l ++ spec.wider (drop (i + 1) (set ws i w)) (drop (i + 1) more)) (take_more_set ws i w lt)
      ∙ ap (λ l. (front ++ w ∷ []) ++ spec.wider l (drop (i + 1) more)) (drop-set-lt (i + 1) ws i w (omega arith))
      ∙ append_assoc front (w ∷ []) rest
      ∙ ap (λ l. front ++ l) (sym here)
      ∙ was.whole;
}

pub widening_push : (old more ws : List ℕ) (i w : ℕ) → length ws ≤ i → i < length more
    → w ≡ get_or more i 0
    → Widening old more ws i → Widening old more (ws ++ w ∷ []) (i + 1)
widening_push old more ws i w past within is was = record {
  within = omega (arith, length_push ws w, was.within);
  whole =
      let size = length_push ws w in
      let here : spec.wider (drop i ws) (drop i more) ≡ w ∷ drop (i + 1) more =
      ap (λ l. spec.wider l (drop i more)) (drop_all i ws past) ∙ drop_more more i 0 within
      ∙ ap (λ x. x ∷ drop (i + 1) more) (sym is) in
      ap (λ l. l ++ spec.wider (drop (i + 1) (ws ++ w ∷ [])) (drop (i + 1) more))
      (take_all (i + 1) (ws ++ w ∷ []) (omega (arith, size)))
      ∙ ap (λ l. (ws ++ w ∷ []) ++ spec.wider l (drop (i + 1) more))
      (drop_all (i + 1) (ws ++ w ∷ []) (omega (arith, size, was.within)))
      ∙ append_assoc ws (w ∷ []) (drop (i + 1) more)
      ∙ ap (λ l. l ++ w ∷ drop (i + 1) more) (sym (take_all i ws past))
      ∙ ap (λ l. take i ws ++ l) (sym here)
      ∙ was.whole;
}

pub widening_all : (old more ws : List ℕ) (i : ℕ) → length more ≤ i → Widening old more ws i
    → ws ≡ spec.wider old more
widening_all old more ws i past was =
    sym (take-append-drop i ws)
    ∙ ap (λ l. take i ws ++ l) (sym (wider_none (drop i ws)))
    ∙ ap (λ l. take i ws ++ spec.wider (drop i ws) l) (sym (drop_all i more past))
    ∙ was.whole

-- ---- widths as far as a `usize` goes

held_max : (a b : ℕ) → held (max a b) ≡ max (held a) (held b)
held_max a b = omega arith

held_wider : (ws vs : List ℕ) → map held (spec.wider ws vs) ≡ spec.wider (map held ws) (map held vs)
held_wider [] vs = refl
held_wider (w ∷ ws) [] = refl
held_wider (w ∷ ws) (v ∷ vs) =
    ap (λ x. x ∷ map held (spec.wider ws vs)) (held_max w v)
    ∙ ap (λ l. max (held w) (held v) ∷ l) (held_wider ws vs)

held_lines : (start : List ℕ) (lines : List (List (List ℕ)))
    → fold spec.wider (map held start) (map held_widths lines)
    ≡ map held (fold spec.wider start (map (map spec.cell_width) lines))
held_lines start [] = refl
held_lines start (cells ∷ lines) =
    ap (λ l. fold spec.wider l (map held_widths lines)) (sym (held_wider start (map spec.cell_width cells)))
    ∙ held_lines (spec.wider start (map spec.cell_width cells)) lines

-- the widths as the code has them
pub held_columns : (headers : List (List ℕ)) (rows : List (List (List ℕ)))
    → fold spec.wider (held_widths headers) (map held_widths rows)
    ≡ map held (spec.column_widths (headers ∷ rows))
held_columns headers rows = held_lines [] (headers ∷ rows)

small : (w : ℕ) → held w < 0xFFFF_FFFF_FFFF_FFFF → held w ≡ w
small w lt = omega arith

characters_fit : (cell : List ℕ) → IsUtf8 cell → length (chars cell) ≤ length cell
characters_fit cell text = omega (arith, length-le-encodes (chars cell), ap length (encodes-chars cell text))

padded_long : (cell : List ℕ) (w : ℕ) → IsUtf8 cell → w ≤ length (spec.padded_cell cell w)
padded_long cell w text =
    let n = w - length (chars cell) in
    let pad = replicate n space in
    let size = length-replicate n space in
    let fits = characters_fit cell text in
    let inner = length-append cell (pad ++ space ∷ []) in
    let outer = length-append pad (space ∷ []) in
    omega (arith, size, fits, inner, outer)

-- where a line of such widths was written, none of them was cut
pub held_same : (cells : List (List ℕ)) (ws : List ℕ) → AreCells cells → length ws ≤ length cells
    → length (spec.barred_cells cells (map held ws)) ≤ 0xFFFF_FFFF_FFFF_FFFF → map held ws ≡ ws
held_same cells [] are le fits = refl
held_same [] (w ∷ ws) are le fits = absurd (omega arith)
held_same (cell ∷ cells) (w ∷ ws) are le fits =
    let rest = spec.barred_cells cells (map held ws) in
    let size = length-append (spec.padded_cell cell (held w)) (vertical_bar ∷ rest) in
    let long = padded_long cell (held w) are.0.text in
    let one = small w (omega (arith, size, long, fits)) in
    ap (λ x. x ∷ map held ws) one
    ∙ ap (λ l. w ∷ l) (held_same cells ws are.1 (omega arith) (omega (arith, size, fits)))

-- ---- each cell fits its column

abbrev pub Covers : List ℕ → List ℕ → Type 0
Covers [] ws = Unit {0}
Covers (m ∷ ms) [] = ⊥
Covers (m ∷ ms) (w ∷ ws) = (m ≤ w) × Covers ms ws

covers_self : (ms : List ℕ) → Covers ms ms
covers_self [] = tt
covers_self (m ∷ ms) = (omega arith, covers_self ms)

covers_new : (ws ms : List ℕ) → Covers ms (spec.wider ws ms)
covers_new [] ms = covers_self ms
covers_new (w ∷ ws) [] = tt
covers_new (w ∷ ws) (m ∷ ms) = (omega arith, covers_new ws ms)

covers_old : (ms ws vs : List ℕ) → Covers ms ws → Covers ms (spec.wider ws vs)
covers_old [] ws vs covers = tt
covers_old (m ∷ ms) [] vs covers = absurd covers
covers_old (m ∷ ms) (w ∷ ws) [] covers = covers
covers_old (m ∷ ms) (w ∷ ws) (v ∷ vs) covers = (omega (arith, covers.0), covers_old ms ws vs covers.1)

-- the widths cover each line
abbrev pub CoversAll : List (List ℕ) → List ℕ → Type 0
CoversAll [] ws = Unit {0}
CoversAll (ms ∷ more) ws = Covers ms ws × CoversAll more ws

covers_on : (ms ws : List ℕ) (more : List (List ℕ)) → Covers ms ws → Covers ms (fold spec.wider ws more)
covers_on ms ws [] covers = covers
covers_on ms ws (vs ∷ more) covers = covers_on ms (spec.wider ws vs) more (covers_old ms ws vs covers)

pub covers_all : (ws : List ℕ) (more : List (List ℕ)) → CoversAll more (fold spec.wider ws more)
covers_all ws [] = tt
covers_all ws (ms ∷ more) =
    (covers_on ms (spec.wider ws ms) more (covers_new ws ms), covers_all (spec.wider ws ms) more)

pub covers_length : (ms ws : List ℕ) → Covers ms ws → length ms ≤ length ws
covers_length [] ws covers = omega arith
covers_length (m ∷ ms) [] covers = absurd covers
covers_length (m ∷ ms) (w ∷ ws) covers = omega (arith, covers_length ms ws covers.1)

empty_fit : (ws : List ℕ) (n : ℕ) → n ≡ length ws → Fit (replicate n []) ws
empty_fit [] zero same = tt
empty_fit [] (suc n) same = absurd (omega arith)
empty_fit (w ∷ ws) zero same = tt
empty_fit (w ∷ ws) (suc n) same = (omega (arith, ap length chars-nil), empty_fit ws n (omega arith))

pub line_fit : (cells : List (List ℕ)) (ws : List ℕ) → Covers (map spec.cell_width cells) ws
    → Fit (spec.line_cells (length ws) cells) ws
line_fit [] ws covers = empty_fit ws (length ws - 0) (omega arith)
line_fit (cell ∷ cells) [] covers = absurd covers
line_fit (cell ∷ cells) (w ∷ ws) covers =
    let count : suc (length ws) - suc (length cells) ≡ length ws - length cells = omega arith in (
      covers.0,
      subst (λ (n : ℕ). Fit (map spec.normalised_cell cells ++ replicate n []) ws) (sym count)
          (line_fit cells ws covers.1),
    )

-- as many columns as the longest line has cells
wider-length : (ws vs : List ℕ) → length (spec.wider ws vs) ≡ max (length ws) (length vs)
wider-length [] vs = omega arith
wider-length (w ∷ ws) [] = omega arith
wider-length (w ∷ ws) (v ∷ vs) = omega (arith, wider-length ws vs)

count_from : (ws : List ℕ) (lines : List (List (List ℕ)))
    → length (fold spec.wider ws (map (map spec.cell_width) lines))
    ≡ fold (λ count cells. max count (length cells))
    (length ws) lines
count_from ws [] = refl
count_from ws (cells ∷ lines) =
    let size : length (spec.wider ws (map spec.cell_width cells)) ≡ max (length ws) (length cells) =
    wider-length ws (map spec.cell_width cells) ∙ ap (max (length ws)) (length-map cells spec.cell_width) in
    count_from (spec.wider ws (map spec.cell_width cells)) lines
    ∙ ap (λ n. fold (λ count cs. max count (length cs)) n lines) size

pub columns_counted : (lines : List (List (List ℕ))) → length (spec.column_widths lines) ≡ column_count lines
columns_counted lines = count_from [] lines
