-- What quotes and items put before lines, and how long a text is with it.
use Rattle.std.proofs.Common.{◌≡◌, refl, ap, ℕ, suc, ◌+◌, ◌*◌, Bool, true, false, List, [], ◌∷◌, ◌++◌, length, map}
use Rattle.std.proofs.Common.{mul-suc, arith}
use Rattle.std.specs.Prelude.{if◌then◌else◌, codes}
use Rattle.std.specs.List.{slice_split, onto_first, flat_map}
use Rattle.htmd_lexical.specs.Characters.{line_feed, space}
use Rattle.htmd_text.specs.Indents.{indented_line, next_line, indented_lines}
use Rattle.htmd_text.specs.Joins.{joined_texts}
use Rattle.htmd_text.specs.Trims.{is_line_feed}
use Rattle.htmd_commonmark.specs.Pages.{quoted_line, quoted, gap, indented}
use Rattle.htmd_law_sizes.proofs.CountsLemmas.{tally, Cost, empty, cost_append, within, fixed, cost_cons, repeated}
use Rattle.htmd_document_of_tree.proofs.TextLengths.{total}
use Rattle.htmd_law_sizes.proofs.TableBounds.{feeds, own}

-- ---- the lines of a text

-- the lines have the text's bytes but for its line feeds, of which there is one fewer than lines
record AreLines (s : List ℕ) (ls : List (List ℕ)) : Type 0 where
  long : total ls + tally is_line_feed s ≡ length s
  fed : feeds ls ≡ 0
  many : length ls ≡ suc (tally is_line_feed s)

lines_are : (s : List ℕ) → AreLines s (slice_split is_line_feed s)
lines_are [] = record { long = refl; fed = refl; many = refl }
lines_are (b ∷ s) = go (is_line_feed b) refl (slice_split is_line_feed s) (lines_are s)
  where
    go : (t : Bool) → is_line_feed b ≡ t → (ls : List (List ℕ)) → AreLines s ls
        → AreLines (b ∷ s) (if t then [] ∷ ls else onto_first b ls)
    go true e ls i = record {
      long = rw e (omega (arith, i.long));
      fed = omega (arith, i.fed);
      many = rw e (omega (arith, i.many));
    }
    go false e [] i = absurd (omega (arith, i.many))
    go false e (l ∷ ls) i = record {
      long = rw e (omega (arith, i.long));
      fed = rw e (i.fed);
      many = rw e (i.many);
    }

-- ---- quotes

quoted_cost : (l : List ℕ) → Cost is_line_feed (quoted_line l) (2 + length l) (tally is_line_feed l)
quoted_cost [] = within (fixed is_line_feed (codes ">") 1 refl refl) (omega arith) (omega arith)
quoted_cost (b ∷ l) =
    within (cost_append (fixed is_line_feed (codes "> ") 2 refl refl) (own (b ∷ l))) (omega arith) (omega arith)

after_feeds : (ls : List (List ℕ))
    → Cost is_line_feed (flat_map (λ next. (line_feed ∷ []) ++ next) (map quoted_line ls))
    (total ls + 3 * length ls)
    (feeds ls + length ls)
after_feeds [] = within (empty is_line_feed) (omega arith) (omega arith)
after_feeds (l ∷ ls) =
    within (cost_append (cost_cons line_feed (quoted_cost l)) (after_feeds ls)) (omega arith) (omega arith)

quoted_lines : (ls : List (List ℕ)) (n k : ℕ) → length ls ≡ suc n → feeds ls ≡ 0 → total ls + n ≡ k
    → Cost is_line_feed (joined_texts (line_feed ∷ []) (map quoted_line ls)) (k + 2 + 2 * n) n
quoted_lines [] n k h i j = within (empty is_line_feed) (omega arith) (omega arith)
quoted_lines (l ∷ ls) n k h i j =
    within (cost_append (quoted_cost l) (after_feeds ls)) (omega (arith, h, j)) (omega (arith, h, i))

-- a quote's marker before each line
pub quote_cost : (s : List ℕ)
    → Cost is_line_feed (quoted s) (length s + 2 + 2 * tally is_line_feed s) (tally is_line_feed s)
quote_cost s =
    let ls = slice_split is_line_feed s in
    let a = lines_are s in
    quoted_lines ls (tally is_line_feed s) (length s) a.many a.fed a.long

-- ---- items

indented_cost : (w : ℕ) (l : List ℕ) → Cost is_line_feed (indented_line w l) (w + length l) (tally is_line_feed l)
indented_cost w [] = within (empty is_line_feed) (omega arith) (omega arith)
indented_cost w (b ∷ l) =
    within (cost_append (repeated is_line_feed space refl w) (own (b ∷ l))) (omega arith) (omega arith)

next_lines : (w : ℕ) (ls : List (List ℕ))
    → Cost is_line_feed (flat_map (next_line w) ls) (total ls + length ls + w * length ls) (feeds ls + length ls)
next_lines w [] = within (empty is_line_feed) (omega arith) (omega arith)
next_lines w (l ∷ ls) =
    within (cost_append (cost_cons line_feed (indented_cost w l)) (next_lines w ls))
    (omega (arith, mul-suc w (length ls))) (omega arith)

further_lines : (w : ℕ) (ls : List (List ℕ)) (n k : ℕ) → length ls ≡ suc n → feeds ls ≡ 0
    → total ls + n ≡ k
    → Cost is_line_feed (indented_lines w ls) (k + w * n) n
further_lines w [] n k h i j = within (empty is_line_feed) (omega arith) (omega arith)
further_lines w (l ∷ ls) n k h i j =
    let e : length ls ≡ n = omega (arith, h) in
    let f : w * length ls ≡ w * n = ap (λ (x : ℕ). w * x) e in
    within (cost_append (own l) (next_lines w ls)) (omega (arith, e, f, j)) (omega (arith, e, i))

gap_cost : (spaces : ℕ) (s : List ℕ) → Cost is_line_feed (gap spaces s) spaces 0
gap_cost spaces [] = within (empty is_line_feed) (omega arith) (omega arith)
gap_cost spaces (b ∷ s) = repeated is_line_feed space refl spaces

-- a marker and spaces before the first line, and as many spaces before the others
pub item_cost : (marker : List ℕ) (spaces w : ℕ) (s : List ℕ) → tally is_line_feed marker ≡ 0
    → length marker + spaces ≡ w
    → Cost is_line_feed (indented marker spaces s) (length s + w + w * tally is_line_feed s) (tally is_line_feed s)
item_cost marker spaces w s h e =
    let ls = slice_split is_line_feed s in
    let a = lines_are s in
    let f : (length marker + spaces) * tally is_line_feed s ≡ w * tally is_line_feed s =
    ap (λ (x : ℕ). x * tally is_line_feed s) e in
    within
    (cost_append (cost_append (fixed is_line_feed marker (length marker) refl h) (gap_cost spaces s))
    (further_lines (length marker + spaces) ls (tally is_line_feed s) (length s) a.many a.fed a.long))
    (omega (arith, e, f)) (omega arith)
