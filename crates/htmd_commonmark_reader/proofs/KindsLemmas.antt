-- Closing runs of one kind fit the same openers, so that what a search has passed needs no second one.
use Rattle.std.proofs.Common.{◌≡◌, ◌∙◌, ℕ, ◌+◌, ◌*◌, ◌%◌, ◌<◌, ◌≤◌, Bool, true, false, List, length, set}
use Rattle.std.proofs.Common.{get_or, refl, ap, sym, subst, arith, get_or-set_same, get_or-set_other}
use Rattle.std.specs.Prelude.{◌==◌, not, ◌&&◌, ◌||◌, slice_set}
use Rattle.std.specs.List.{AllWithin}
use Rattle.std.proofs.lemmas.Bool.{eqb-true, eqb-false}
use Rattle.std.proofs.lemmas.Bool.Decides.{nat_tests}
use Rattle.htmd_lexical.proofs.Cases.{test}
use Rattle.htmd_commonmark_reading.specs.DelimiterRuns.{Run, is_closed_by}
use Rattle.htmd_commonmark_reader.specs.Openers.{IsUnfit, IsSearched, AreSearched, is_sign, sign_number, bit, kind}
use Rattle.htmd_commonmark_reader.specs.Runs.{run_of}
use Rattle.htmd_commonmark_reader.specs.declared.emphasis.Delimiter.{Delimiter}
use Rattle.htmd_commonmark_reader.specs.declared.emphasis.Searched.{Searched}

by_number : (a b : ℕ) → is_sign a ≡ true → is_sign b ≡ true → sign_number a ≡ sign_number b → a ≡ b
by_number a b h k e = grind (arith, nat_tests)

small_number : (a : ℕ) → sign_number a < 3
small_number a = grind (arith, nat_tests)

small_bit : (b : Bool) → bit b < 2
small_bit true = omega arith
small_bit false = omega arith

by_bit : (a b : Bool) → bit a ≡ bit b → a ≡ b
by_bit true true e = refl
by_bit true false e = absurd (omega arith)
by_bit false true e = absurd (omega arith)
by_bit false false e = refl

record Digits (s t b d m n : ℕ) : Type 0 where
  signs : s ≡ t
  bits : b ≡ d
  rests : m ≡ n

digits : (s t b d m n : ℕ) → b < 2 → d < 2 → m < 3 → n < 3 → s * 6 + b * 3 + m ≡ t * 6 + d * 3 + n
    → Digits s t b d m n
digits s t b d m n h i j k e = record { signs = omega arith; bits = omega arith; rests = omega arith }

small_rest : (a : ℕ) → a % 3 < 3
small_rest a = omega arith

same_rest : (a b c : ℕ) → b % 3 ≡ c % 3 → (a + b) % 3 ≡ (a + c) % 3
same_rest a b c e = omega arith

pub same_kind : (r q opened : Run) → is_sign r.sign ≡ true → is_sign q.sign ≡ true → kind r ≡ kind q
    → is_closed_by opened r ≡ is_closed_by opened q
same_kind r q opened h k e =
    let g = digits (sign_number r.sign) (sign_number q.sign) (bit r.opens) (bit q.opens)
    (r.count % 3) (q.count % 3) (small_bit r.opens) (small_bit q.opens) (small_rest r.count) (small_rest q.count) e in
    ap (λ c. (opened.sign == c) && (not (opened.closes || r.opens) || (r.count % 3 == 0)
    || not ((opened.count + r.count) % 3 == 0)))
    (by_number r.sign q.sign h k g.signs)
    ∙ ap (λ b. (opened.sign == q.sign) && (not (opened.closes || b) || (r.count % 3 == 0)
    || not ((opened.count + r.count) % 3 == 0)))
    (by_bit r.opens q.opens g.bits)
    ∙ ap (λ n. (opened.sign == q.sign) && (not (opened.closes || q.opens) || (n == 0)
    || not ((opened.count + r.count) % 3 == 0)))
    g.rests
    ∙ ap (λ n. (opened.sign == q.sign) && (not (opened.closes || q.opens) || (q.count % 3 == 0) || not (n == 0)))
    (same_rest opened.count r.count q.count g.rests)

pub small_kind : (r : Run) → kind r < 18
small_kind r = omega (arith, small_number r.sign, small_bit r.opens, small_rest r.count)

-- what one more search has passed
pub searched_more : (q : Run) (ds : List Delimiter) (known : List Searched) (end : ℕ) (v : Searched)
    → kind q < length known → is_sign q.sign ≡ true → AreSearched ds known end
    → AllWithin (IsUnfit q) ds v.index (length ds) → v.place ≤ end
    → AreSearched ds (slice_set known (kind q) v) end
searched_more q ds known end v low s h u within r e t =
    test (kind r == kind q)
    (λ b.
    let same : kind r ≡ kind q = eqb-true (kind r) (kind q) b in
    let here : get_or (set known (kind q) v) (kind r) e ≡ v =
    ap (λ k. get_or (set known (kind q) v) k e) same ∙ get_or-set_same known (kind q) v e low in
    subst (λ (x : Searched). IsSearched r ds x.index x.place × (x.place ≤ end)) (sym here)
    (λ j d l high before. same_kind r q (run_of (get_or ds j d).run) t s same ∙ u j d l high, within))
    (λ b.
    let other : kind r ≡ kind q → ⊥ = eqb-false (kind r) (kind q) b in
    let here : get_or (set known (kind q) v) (kind r) e ≡ get_or known (kind r) e =
    get_or-set_other known (kind q) (kind r) v e other in
    subst (λ (x : Searched). IsSearched r ds x.index x.place × (x.place ≤ end)) (sym here) (h r e t))
