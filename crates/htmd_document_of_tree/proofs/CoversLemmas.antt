-- Bounds of what links cost.
use Rattle.std.proofs.Common.{◌≡◌, ℕ, zero, suc, ◌+◌, ◌-◌, ◌*◌, ◌≤◌, ◌<◌, true, cond, nat_le, nat_lt, List, length, map, take, get_or, Option, Some, None}
use Rattle.std.proofs.Common.{refl, sym, ◌∙◌, ap, subst, arith}
use Rattle.std.proofs.lemmas.Bool.Decides.{nat_tests}
use Rattle.htmd_shown.specs.Pieces.{greatest_count}
use Rattle.htmd_shown.specs.SimpleTrees.{Simple, Simples, simples_of}
use Rattle.htmd_document_of_tree.specs.Limits.{budget, left_after, left_after_all, limited, link_cost, paid}
use Rattle.htmd_document_of_tree.specs.WrittenViews.{Covers, HasLeft}
use Rattle.htmd_document_of_tree.proofs.LimitsLemmas.{enough, left_after_all-gone}
use Rattle.htmd_document_of_tree.proofs.WalksLemmas.{gone, take-item, take-end}

pub nothing_paid : (n : ℕ) → Covers n n (λ left. left)
nothing_paid n = (omega arith, λ most left le has. has)

pub paid_then : (a b c : ℕ) (f g : Option ℕ → Option ℕ) → Covers a b f → Covers b c g
    → Covers a c (λ left. g (f left))
paid_then a b c f g first then = (
  omega (arith, first.0, then.0),
  λ most left le has. then.1 most (f left) le (first.1 most left (omega (arith, then.0, le)) has),
)

pub paid_alike : (a b : ℕ) (f g : Option ℕ → Option ℕ) → ((left : Option ℕ) → f left ≡ g left)
    → Covers a b f → Covers a b g
paid_alike a b f g same covers =
    (covers.0, λ most left le has. subst (HasLeft (most - b)) (same left) (covers.1 most left le has))

-- a cost that is known, and a bound of it
pub cost_paid : (count bound k : ℕ) → k ≤ bound → Covers count (count + bound) (λ left. paid left (Some k))
cost_paid count bound k le = (omega arith, by)
  where
    by : (most : ℕ) (left : Option ℕ) → count + bound ≤ most → HasLeft (most - count) left
        → HasLeft (most - (count + bound)) (paid left (Some k))
    by most None enough has = has
    by most (Some n) enough has =
        let within : k ≤ n = omega (arith, le, enough, has) in
        let test : nat_le k n ≡ true = grind (arith, nat_tests, within) in
        subst (HasLeft (most - (count + bound))) (sym (ap (λ b. cond b (Some (n - k)) None) test))
        (omega (arith, le, enough, has))

-- the cost of a link around so many things that can be counted
pub link_paid : (count size most leaves : ℕ) → size ≤ most → nat_lt leaves greatest_count ≡ true
    → Covers count (count + most * leaves) (λ left. paid left (link_cost size leaves))
link_paid count size most leaves le counted =
    paid_alike count (count + most * leaves) _ _
    (λ left. ap (λ b. paid left (cond b (Some (size * leaves)) None)) (sym counted))
    (cost_paid count (most * leaves) (size * leaves) (times_le size most leaves le))
  where
    times_le : (m n k : ℕ) → m ≤ n → m * k ≤ n * k
    times_le m n zero le = omega (arith)
    times_le m n (suc k) le = omega (arith, le, times_le m n k le)

-- one more node
pub covers_more : {X : Type 0} (view : X → Simple) (xs : List X) (i : ℕ) (x : X) (start count now : ℕ)
    → i < length xs → x ≡ get_or xs i x → Covers count now (λ left. left_after left (view x))
    → Covers start count (λ left. gone left_after left (take i (map view xs)))
    → Covers start now (λ left. gone left_after left (take (i + 1) (map view xs)))
covers_more view xs i x start count now lt is one before =
    paid_alike start now _ _ (λ left. sym (take-item left_after view xs i left x lt is))
    (paid_then start count now (λ left. gone left_after left (take i (map view xs)))
    (λ left. left_after left (view x))
    before one)

pub covers_all : {X : Type 0} (view : X → Simple) (xs : List X) (i start count : ℕ) → length xs ≤ i
    → Covers start count (λ left. gone left_after left (take i (map view xs)))
    → Covers start count (λ left. left_after_all left (simples_of (map view xs)))
covers_all view xs i start count past covers =
    paid_alike start count _ _
    (λ left. ap (gone left_after left) (take-end view xs i past) ∙ sym (left_after_all-gone left (map view xs)))
    covers

-- where a part of the budget covers all links, they stay
pub covers_enough : (trees : Simples) (cost part : ℕ) → Covers 0 cost (λ left. left_after_all left trees)
    → cost ≤ part
    → part ≤ budget trees → trees ≡ limited trees
covers_enough trees cost part covers le within =
    by (left_after_all (Some part) trees) refl (covers.1 part (Some part) le (omega arith))
  where
    by : (left : Option ℕ) → left ≡ left_after_all (Some part) trees → HasLeft (part - cost) left
        → trees ≡ limited trees
    by None is has = absurd has
    by (Some n) is has = enough trees part (Some n) within is refl
