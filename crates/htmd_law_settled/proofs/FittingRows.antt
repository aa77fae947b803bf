-- No cell of a page's table takes rows past the end.
use Rattle.std.proofs.Common.{◌≡◌, ℕ, zero, suc, ◌+◌, ◌==◌, ◌≤◌, min, nat_lt, nat_le, Bool, true, false, ◌&&◌, cond}
use Rattle.std.proofs.Common.{List, [], ◌∷◌, Option, map, refl, sym, ap, ◌∙◌, subst, arith}
use Rattle.std.specs.List.{list_all}
use Rattle.std.proofs.lemmas.Bool.{and_from}
use Rattle.std.proofs.lemmas.Bool.Decides.{nat_tests}
use Rattle.htmd_flow.specs.Grids.{is_same_part}
use Rattle.htmd_flow.specs.TableElements.{Cell, Piece, Stretch, caption, row, stretched, stretch_of, rows_within}
use Rattle.htmd_flow.specs.TableElements.{cut_cell, cut_all}
use Rattle.htmd_law_returning.specs.SettledTables.{row_count, fits, have_fitting_cells}

-- from a row on there are one row or more, and one more at most than behind it
one-or-more : (part : Option ℕ) (s : Stretch) (k : ℕ) → s.left ≤ k
    → (1 ≤ (stretched part s).left) × ((stretched part s).left ≤ suc k)
one-or-more part s k h = either (nat_lt 0 s.left && is_same_part part s.part)
  where
    either : (b : Bool) → (1 ≤ cond b (s.left + 1) 1) × (cond b (s.left + 1) 1 ≤ suc k)
    either true = (omega arith, omega (arith, h))
    either false = (omega arith, omega arith)

left-low : (ps : List Piece) → (stretch_of ps).left ≤ row_count ps
left-low [] = omega arith
left-low (caption content ∷ ps) = left-low ps
left-low (row r ∷ ps) = (one-or-more r.part (stretch_of ps) (row_count ps) (left-low ps)).1

count-same : (ps : List Piece) → row_count (cut_all ps) ≡ row_count ps
count-same [] = refl
count-same (caption content ∷ ps) = count-same ps
count-same (row r ∷ ps) = ap (λ k. suc k) (count-same ps)

within : (left rows : ℕ) → 1 ≤ left → (1 ≤ rows_within left rows) × (rows_within left rows ≤ left)
within left zero h = (h, omega arith)
within left (suc k) h =
    let other : (suc k == 0) ≡ false = grind (arith, nat_tests) in (
      subst (λ b. 1 ≤ cond b left (min (suc k) left)) (sym other) (grind (arith, h)),
      subst (λ b. cond b left (min (suc k) left) ≤ left) (sym other) (grind (arith, h)),
    )

cells-fit : (left most : ℕ) (cells : List Cell) → 1 ≤ left → left ≤ most
    → list_all (fits most) (map (cut_cell left) cells) ≡ true
cells-fit left most [] h l = refl
cells-fit left most (c ∷ cells) h l =
    let k : ℕ = rows_within left c.rows in
    let own = within left c.rows h in
    let some = own.0 in
    let low = own.1 in
    and_from (nat_lt 0 k && nat_le k most) (list_all (fits most) (map (cut_cell left) cells))
    (and_from (nat_lt 0 k) (nat_le k most) (grind (arith, nat_tests, some)) (grind (arith, nat_tests, low, l)))
    (cells-fit left most cells h l)

pub cut-fits : (ps : List Piece) → have_fitting_cells (cut_all ps) ≡ true
cut-fits [] = refl
cut-fits (caption content ∷ ps) = cut-fits ps
cut-fits (row r ∷ ps) =
    let left : ℕ = (stretched r.part (stretch_of ps)).left in
    let cells : List Cell = map (cut_cell left) r.cells in
    let own = one-or-more r.part (stretch_of ps) (row_count ps) (left-low ps) in
    and_from (list_all (fits (suc (row_count (cut_all ps)))) cells) (have_fitting_cells (cut_all ps))
    (ap (λ k. list_all (fits (suc k)) cells) (count-same ps)
    ∙ cells-fit left (suc (row_count ps)) r.cells own.0 own.1) (cut-fits ps)
