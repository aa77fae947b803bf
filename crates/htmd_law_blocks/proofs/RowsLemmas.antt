-- The rows of a table, filled up where lines are padded, are read with as many cells as the header.
use Rattle.std.proofs.Common.{◌≡◌, ◌∙◌, refl, sym, ap, ℕ, zero, suc, ◌≤◌, Bool, true, false, List, [], ◌∷◌, ◌-◌}
use Rattle.std.proofs.Common.{◌++◌, length, arith}
use Rattle.std.proofs.lemmas.List.{length-append, length-replicate}
use Rattle.std.specs.Prelude.{replicate}
use Rattle.htmd_commonmark.specs.TableLines.{with_escaped_bars, shown_cells}
use Rattle.htmd_commonmark_reading.specs.Tables.{fitted}
use Rattle.htmd_law_blocks.proofs.CellsLemmas.{escaped_cells, AreTrimmed}

-- ---- rows filled up

fitted_more : (n : ℕ) (ts : List (List ℕ)) (k : ℕ) → fitted n (ts ++ replicate k []) ≡ fitted n ts
fitted_more zero ts k = refl
fitted_more (suc n) [] zero = refl
fitted_more (suc n) [] (suc k) = ap (◌∷◌ []) (fitted_more n [] k)
fitted_more (suc n) (t ∷ ts) k = ap (◌∷◌ t) (fitted_more n ts k)

-- the texts of a row that are written
abbrev pub shown_texts : Bool → ℕ → List (List ℕ) → List (List ℕ)
shown_texts true n ts = ts ++ replicate (n - length ts) []
shown_texts false n ts = ts

pub shown_back : (b : Bool) (n : ℕ) (ts : List (List ℕ)) → fitted n (shown_texts b n ts) ≡ fitted n ts
shown_back true n ts = fitted_more n ts (n - length ts)
shown_back false n ts = refl

pub shown_short : (b : Bool) (n : ℕ) (ts : List (List ℕ)) → length ts ≤ n → length (shown_texts b n ts) ≤ n
shown_short true n ts h =
    let k = n - length ts in
    let none : List (List ℕ) = replicate k [] in
    let e : length none ≡ k = length-replicate k [] in
    omega (arith, h, length-append ts none, e)
shown_short false n ts h = h

-- ---- the same of escaped texts

escaped_more : (xs ys : List (List ℕ)) → escaped_cells (xs ++ ys) ≡ escaped_cells xs ++ escaped_cells ys
escaped_more [] ys = refl
escaped_more (x ∷ xs) ys = ap (◌∷◌ (with_escaped_bars x)) (escaped_more xs ys)

escaped_none : (k : ℕ) → escaped_cells (replicate k []) ≡ replicate k []
escaped_none zero = refl
escaped_none (suc k) = ap (◌∷◌ []) (escaped_none k)

pub escaped_length : (ts : List (List ℕ)) → length (escaped_cells ts) ≡ length ts
escaped_length [] = refl
escaped_length (t ∷ ts) = ap suc (escaped_length ts)

pub shown_escaped : (b : Bool) (n : ℕ) (ts : List (List ℕ))
    → shown_cells b n (escaped_cells ts) ≡ escaped_cells (shown_texts b n ts)
shown_escaped true n ts =
    let k = n - length ts in
    ap (λ (m : ℕ). escaped_cells ts ++ replicate (n - m) []) (escaped_length ts)
    ∙ ap (λ (x : List (List ℕ)). escaped_cells ts ++ x) (sym (escaped_none k))
    ∙ sym (escaped_more ts (replicate k []))
shown_escaped false n ts = refl

none_trimmed : (k : ℕ) → AreTrimmed (replicate k [])
none_trimmed zero = tt
none_trimmed (suc k) = (tt, none_trimmed k)

both_trimmed : (xs ys : List (List ℕ)) → AreTrimmed xs → AreTrimmed ys → AreTrimmed (xs ++ ys)
both_trimmed [] ys h k = k
both_trimmed (x ∷ xs) ys h k = (h.0, both_trimmed xs ys h.1 k)

pub shown_trimmed : (b : Bool) (n : ℕ) (ts : List (List ℕ)) → AreTrimmed ts → AreTrimmed (shown_texts b n ts)
shown_trimmed true n ts h = both_trimmed ts (replicate (n - length ts) []) h (none_trimmed (n - length ts))
shown_trimmed false n ts h = h
