-- The run that is begun, and the runs to come.
use Rattle.std.proofs.Common.{◌≡◌, ℕ, ◌+◌, ◌-◌, ◌*◌, ◌<◌, ◌≤◌, true, false, List, []}
use Rattle.std.proofs.Common.{◌∷◌, ◌++◌, length, drop}
use Rattle.std.proofs.Common.{get_or, refl, sym, ap, ◌∙◌, arith}
use Rattle.std.specs.Prelude.{◌||◌, nat_le}
use Rattle.std.specs.List.{sum_by}
use Rattle.std.proofs.lemmas.Bool.Decides.{nat_tests}
use Rattle.std.proofs.lemmas.List.{drop_more, length_push}
use Rattle.std.proofs.lemmas.List.Sums.{sum_by_push}
use Rattle.htmd_chunks.specs.Runs.{is_none, runs_from}
use Rattle.htmd_chunks.specs.declared.units.Unit.{Unit}
use Rattle.htmd_chunks.proofs.CountsLemmas.{run-joined, run-ended}

-- what a run of units takes
abbrev pub taken_by : ℕ → ℕ → List Unit → ℕ
taken_by always between run = always + sum_by (λ u. u.bytes) run + between * (length run - 1)

abbrev pub count_in : List Unit → ℕ
count_in = sum_by (λ u. u.count)

pub begun-none : (begun : List Unit) → is_none begun ≡ true → begun ≡ []
begun-none [] none = refl
begun-none (u ∷ us) none = absurd (cc)

pub taken-one : (always between : ℕ) (u : Unit) → taken_by always between (u ∷ []) ≡ always + u.bytes
taken-one always between u = omega arith

pub taken-more : (always between : ℕ) (begun : List Unit) (u : Unit) → is_none begun ≡ false
    → taken_by always between (begun ++ u ∷ []) ≡ taken_by always between begun + (u.bytes + between)
taken-more always between [] u some = absurd (cc)
taken-more always between (v ∷ begun) u some =
    let count : length ((v ∷ begun) ++ u ∷ []) - 1 ≡ length begun + 1 =
    omega (arith, length_push (v ∷ begun) u) in
    let gaps : between * (length ((v ∷ begun) ++ u ∷ []) - 1) ≡ between * length begun + between =
    ap (λ n. between * n) count ∙ omega arith in
    let before : between * (length (v ∷ begun) - 1) ≡ between * length begun =
    ap (λ n. between * n) (omega arith) in
    omega (arith, sum_by_push (λ (w : Unit). w.bytes) (v ∷ begun) u, gaps, before)

split : (units : List Unit) (i : ℕ) (u : Unit) → i < length units → u ≡ get_or units i u
    → drop i units ≡ u ∷ drop (i + 1) units
split units i u within is = drop_more units i u within ∙ ap (λ v. v ∷ drop (i + 1) units) (sym is)

pub rest-first : (taken : List Unit → ℕ) (most free : ℕ) (begun units : List Unit) (i : ℕ) (u : Unit)
    → i < length units → u ≡ get_or units i u → begun ≡ []
    → runs_from taken most free begun (drop i units) ≡ runs_from taken most free (u ∷ []) (drop (i + 1) units)
rest-first taken most free begun units i u within is none =
    ap (λ l. runs_from taken most free l (drop i units)) none
    ∙ ap (runs_from taken most free []) (split units i u within is)

pub rest-fits : (taken : List Unit → ℕ) (most free : ℕ) (begun units : List Unit) (i : ℕ) (u : Unit)
    → i < length units → u ≡ get_or units i u → is_none begun ≡ false → taken (begun ++ u ∷ []) ≤ free
    → runs_from taken most free begun (drop i units)
    ≡ runs_from taken most free (begun ++ u ∷ []) (drop (i + 1) units)
rest-fits taken most free begun units i u within is some fits =
    let test : nat_le (taken (begun ++ u ∷ [])) free ≡ true = grind (arith, nat_tests) in
    ap (runs_from taken most free begun) (split units i u within is)
    ∙ run-joined taken most free begun u (drop (i + 1) units)
    (ap (λ b. b || nat_le (taken (begun ++ u ∷ [])) free) some ∙ test)

pub rest-begins : (taken : List Unit → ℕ) (most free : ℕ) (begun units : List Unit) (i : ℕ) (u : Unit)
    → i < length units → u ≡ get_or units i u → is_none begun ≡ false → free < taken (begun ++ u ∷ [])
    → runs_from taken most free begun (drop i units)
    ≡ begun ∷ runs_from taken most most (u ∷ []) (drop (i + 1) units)
rest-begins taken most free begun units i u within is some full =
    let test : nat_le (taken (begun ++ u ∷ [])) free ≡ false = grind (arith, nat_tests) in
    ap (runs_from taken most free begun) (split units i u within is)
    ∙ run-ended taken most free begun u (drop (i + 1) units)
    (ap (λ b. b || nat_le (taken (begun ++ u ∷ [])) free) some ∙ test)

pub none-pushed : (begun : List Unit) (u : Unit) → is_none (begun ++ u ∷ []) ≡ false
none-pushed [] u = refl
none-pushed (v ∷ begun) u = refl
