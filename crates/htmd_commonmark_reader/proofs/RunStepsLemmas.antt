-- What a run does to the stack, step by step.
use Rattle.std.proofs.Common.{◌≡◌, ◌≢◌, ◌∙◌, ℕ, zero, suc, ◌-◌, ◌<◌, ◌≤◌, true, false, min, Some, None, refl, ap}
use Rattle.std.proofs.Common.{arith}
use Rattle.std.specs.Prelude.{◌==◌, nat_lt}
use Rattle.std.proofs.lemmas.Bool.{eqb-true, eqb-false, ltb-true, ltb-false, le-ltb}
use Rattle.htmd_lexical.proofs.Cases.{test}
use Rattle.htmd_lexical.specs.Characters.{tilde}
use Rattle.htmd_commonmark_reading.specs.Markup.{no_inlines}
use Rattle.htmd_commonmark_reading.specs.DelimiterRuns.{Run, Stack, Match, partner, nearest, if_as_many, used, less}
use Rattle.htmd_commonmark_reading.specs.DelimiterRuns.{matched, with_run, left_open, one_or_two}
use Rattle.htmd_commonmark_reader.specs.Openers.{closes}

-- ---- which opener a run closes

as_many : (r : Run) (m : Match) → closes r m.opened ≡ true → if_as_many r (Some m) ≡ Some m
as_many r m h =
    test (r.sign == tilde) (λ e. let k : (m.opened.unused == r.unused) ≡ true = rw e at h in rw (e, k) refl)
    (λ e. rw e refl)

not_as_many : (r : Run) (m : Match) → closes r m.opened ≡ false → if_as_many r (Some m) ≡ None
not_as_many r m h =
    test (r.sign == tilde) (λ e. let k : (m.opened.unused == r.unused) ≡ false = rw e at h in rw (e, k) refl)
    (λ e. let k : true ≡ false = rw e at h in absurd (cc))

pub partner_found : (r : Run) (s : Stack) (m : Match) → r.closes ≡ true → nearest r no_inlines s ≡ Some m
    → closes r m.opened ≡ true → partner r s ≡ Some m
partner_found r s m h n c = rw h (ap (if_as_many r) n ∙ as_many r m c)

pub no_partner_fits : (r : Run) (s : Stack) → nearest r no_inlines s ≡ None → partner r s ≡ None
no_partner_fits r s n =
    test r.closes (λ h. rw h (ap (if_as_many r) n)) (λ h. rw h refl)

pub no_partner_equal : (r : Run) (s : Stack) (m : Match) → nearest r no_inlines s ≡ Some m
    → closes r m.opened ≡ false → partner r s ≡ None
no_partner_equal r s m n c =
    test r.closes (λ h. rw h (ap (if_as_many r) n ∙ not_as_many r m c)) (λ h. rw h refl)

pub no_partner_closes : (r : Run) (s : Stack) → r.closes ≡ false → partner r s ≡ None
no_partner_closes r s h = rw h refl

-- ---- how many signs a match uses

pub record Uses (r : Run) (m : Match) : Type 0 where
  pub some : 0 < used r m
  pub of_closing : used r m ≤ r.unused
  pub of_opener : used r m ≤ m.opened.unused

pub uses : (r : Run) (m : Match) → 0 < r.unused → 0 < m.opened.unused → closes r m.opened ≡ true → Uses r m
uses r m h k c =
    test (r.sign == tilde)
    (λ e.
    let same : (m.opened.unused == r.unused) ≡ true = rw e at c in
    let i = eqb-true m.opened.unused r.unused same in
    let n : used r m ≡ r.unused = rw e refl in
    record { some = omega (arith, n); of_closing = omega (arith, n); of_opener = omega (arith, n, i) })
    (λ e.
    let n : used r m ≡ min (min m.opened.unused r.unused) 2 = rw e refl in
    record { some = omega (arith, n); of_closing = omega (arith, n); of_opener = omega (arith, n) })

-- ---- a run's steps

none_from : (k : ℕ) (r : Run) (s : Stack) → 0 < k → partner r s ≡ None → with_run k r s ≡ left_open r s
none_from zero r s h e = absurd (omega arith)
none_from (suc zero) r s h e = rw e refl
none_from (suc (suc n)) r s h e = rw e refl

pub run_left : (r : Run) (s : Stack) → 0 < r.unused → partner r s ≡ None
    → with_run r.unused r s ≡ left_open r s
run_left r s h e = none_from r.unused r s h e

-- all signs, or one or two
all_or_few : (r : Run) (m : Match) → used r m ≢ r.unused → (used r m ≡ 1 → ⊥) → 0 < r.unused
    → 0 < m.opened.unused → used r m ≡ 2
all_or_few r m h k i j =
    test (r.sign == tilde) (λ e. let n : used r m ≡ r.unused = rw e refl in absurd (h n))
    (λ e. let n : used r m ≡ min (min m.opened.unused r.unused) 2 = rw e refl in omega (arith, n, h, k))

one_is : (one two : Run → Stack → Stack) (n : ℕ) (r : Run) (s : Stack) → (n == 1) ≡ true
    → one_or_two one two n r s ≡ one r s
one_is one two n r s h = rw (h, one_or_two) refl

two_is : (one two : Run → Stack → Stack) (n : ℕ) (r : Run) (s : Stack) → (n == 1) ≡ false
    → one_or_two one two n r s ≡ two r s
two_is one two n r s h = rw (h, one_or_two) refl

step_from : (k : ℕ) (r : Run) (s : Stack) (m : Match) → k ≡ r.unused → 0 < k → 0 < m.opened.unused
    → Uses r m → partner r s ≡ Some m
    → with_run k r s ≡ with_run (k - used r m) (less r (used r m)) (matched m (used r m))
step_from zero r s m q h i u e = absurd (omega arith)
step_from (suc zero) r s m q h i u e =
    let l = u.some in
    let k = u.of_closing in
    let no : nat_lt (used r m) r.unused ≡ false = le-ltb (used r m) r.unused (omega arith) in
    let z : suc zero - used r m ≡ zero = omega arith in
    rw (e, no, z) refl
step_from (suc (suc n)) r s m q h i u e =
    let l = u.some in
    let k = u.of_closing in
    test (nat_lt (used r m) r.unused)
    (λ b. test (used r m == 1)
    (λ d.
    let one = eqb-true (used r m) 1 d in
    let z : suc n ≡ suc (suc n) - used r m = omega arith in
    start b ∙ one_is (with_run (suc n)) (with_run n) (used r m) (less r (used r m)) (matched m (used r m)) d
    ∙ ap (λ j. with_run j (less r (used r m)) (matched m (used r m))) z)
    (λ d.
    let more = ltb-true (used r m) r.unused b in
    let two = all_or_few r m (λ x. absurd (omega arith)) (eqb-false (used r m) 1 d) (omega arith) i in
    let z : n ≡ suc (suc n) - used r m = omega arith in
    start b ∙ two_is (with_run (suc n)) (with_run n) (used r m) (less r (used r m)) (matched m (used r m)) d
    ∙ ap (λ j. with_run j (less r (used r m)) (matched m (used r m))) z))
    (λ b.
    let all = ltb-false (used r m) r.unused b in
    let z : suc (suc n) - used r m ≡ zero = omega arith in
    rw (e, b, z) refl)
  where
    start : nat_lt (used r m) r.unused ≡ true
        → with_run (suc (suc n)) r s
        ≡ one_or_two (with_run (suc n)) (with_run n) (used r m) (less r (used r m)) (matched m (used r m))
    start b = rw (e, b) refl

pub run_step : (r : Run) (s : Stack) (m : Match) → 0 < r.unused → 0 < m.opened.unused → Uses r m
    → partner r s ≡ Some m
    → with_run r.unused r s ≡ with_run (r.unused - used r m) (less r (used r m)) (matched m (used r m))
run_step r s m h i u e = step_from r.unused r s m refl h i u e
