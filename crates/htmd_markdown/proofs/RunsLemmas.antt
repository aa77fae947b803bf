-- How long runs are.
use Rattle.std.proofs.Common.{◌≡◌, ℕ, zero, suc, ◌+◌, ◌<◌, ◌≤◌, Bool, true, false, List, [], ◌∷◌, length, drop, map, max}
use Rattle.std.proofs.Common.{refl, ap, ◌∙◌, arith, add-one, get_or}
use Rattle.std.specs.Prelude.{not, ◌==◌, cond}
use Rattle.std.specs.List.{fold, list_any, onto_first, prefix_len}
use Rattle.std.proofs.lemmas.Bool.{or_parts}
use Rattle.std.proofs.lemmas.Bool.Decides.{nat_tests}
use Rattle.std.proofs.lemmas.List.Splits.{slice_split-cons_yes, slice_split-cons_no}
use Rattle.htmd_markdown.specs.Runs.{runs, longest_run, has_run}

-- ---- the first run, and the others

abbrev pub first_run : List (List ℕ) → List ℕ
first_run [] = []
first_run (run ∷ others) = run

abbrev pub other_runs : List (List ℕ) → List (List ℕ)
other_runs [] = []
other_runs (run ∷ others) = others

first_run-onto_first : (b : ℕ) (rs : List (List ℕ)) → first_run (onto_first b rs) ≡ b ∷ first_run rs
first_run-onto_first b [] = refl
first_run-onto_first b (run ∷ others) = refl

other_runs-onto_first : (b : ℕ) (rs : List (List ℕ)) → other_runs (onto_first b rs) ≡ other_runs rs
other_runs-onto_first b [] = refl
other_runs-onto_first b (run ∷ others) = refl

-- one more character in front
pub runs-cons_yes : (c b : ℕ) (s : List ℕ) → (b == c) ≡ true → runs c (b ∷ s) ≡ onto_first b (runs c s)
runs-cons_yes c b s same = slice_split-cons_no (λ b. not (b == c)) b s (ap not same)

pub runs-cons_no : (c b : ℕ) (s : List ℕ) → (b == c) ≡ false → runs c (b ∷ s) ≡ [] ∷ runs c s
runs-cons_no c b s other = slice_split-cons_yes (λ b. not (b == c)) b s (ap not other)

pub other_runs-cons_yes : (c b : ℕ) (s : List ℕ) → (b == c) ≡ true
    → other_runs (runs c (b ∷ s)) ≡ other_runs (runs c s)
other_runs-cons_yes c b s same = ap other_runs (runs-cons_yes c b s same) ∙ other_runs-onto_first b (runs c s)

first_run_len : (c b : ℕ) (s : List ℕ) (t : Bool) → (b == c) ≡ t
    → length (first_run (runs c s)) ≡ prefix_len (λ b. b == c) s
    → length (first_run (runs c (b ∷ s))) ≡ prefix_len (λ b. b == c) (b ∷ s)
first_run_len c b s true same rest =
    rw same (ap length (first_run-onto_first b (runs c s)) ∙ ap (λ n. suc n) rest ∙ omega arith)
first_run_len c b s false other rest = rw other refl

pub first_run-prefix_len : (c : ℕ) (s : List ℕ) → length (first_run (runs c s)) ≡ prefix_len (λ b. b == c) s
first_run-prefix_len c [] = refl
first_run-prefix_len c (b ∷ s) = first_run_len c b s (b == c) refl (first_run-prefix_len c s)

-- ---- the longest run

abbrev longest : List (List ℕ) → ℕ
longest rs = fold max 0 (map (λ run. length run) rs)

max_from : (a : ℕ) (ns : List ℕ) → fold max a ns ≡ max a (fold max 0 ns)
max_from a [] = omega arith
max_from a (n ∷ ns) = omega (arith, max_from (max a n) ns, max_from (max 0 n) ns)

longest_parts : (rs : List (List ℕ)) → longest rs ≡ max (length (first_run rs)) (longest (other_runs rs))
longest_parts [] = omega arith
longest_parts (run ∷ others) = omega (arith, max_from (max 0 (length run)) (map (λ run. length run) others))

longest-cons_yes : (c b : ℕ) (s : List ℕ) → (b == c) ≡ true
    → longest_run c (b ∷ s) ≡ max (suc (length (first_run (runs c s)))) (longest (other_runs (runs c s)))
longest-cons_yes c b s same =
    ap longest (runs-cons_yes c b s same) ∙ longest_parts (onto_first b (runs c s))
    ∙ ap (λ run. max (length run) (longest (other_runs (onto_first b (runs c s)))))
    (first_run-onto_first b (runs c s))
    ∙ ap (λ rs. max (suc (length (first_run (runs c s)))) (longest rs)) (other_runs-onto_first b (runs c s))

longest-cons_no : (c b : ℕ) (s : List ℕ) → (b == c) ≡ false → longest_run c (b ∷ s) ≡ longest_run c s
longest-cons_no c b s other = ap longest (runs-cons_no c b s other)

-- the longest run, where the first one began before the text and has n characters there
abbrev pub longest_with : ℕ → ℕ → List ℕ → ℕ
longest_with c n [] = n
longest_with c n (b ∷ s) = cond (b == c) (longest_with c (n + 1) s) (max n (longest_with c 0 s))

longest_with-le_by : (c n b : ℕ) (s : List ℕ) (t : Bool) → (b == c) ≡ t → n + 1 ≤ longest_with c (n + 1) s
    → n ≤ longest_with c n (b ∷ s)
longest_with-le_by c n b s true same more = rw same (omega (arith, more))
longest_with-le_by c n b s false other more = rw other (omega arith)

pub longest_with-le : (c n : ℕ) (s : List ℕ) → n ≤ longest_with c n s
longest_with-le c n [] = omega arith
longest_with-le c n (b ∷ s) = longest_with-le_by c n b s (b == c) refl (longest_with-le c (n + 1) s)

-- the same by all runs
abbrev longest_by : ℕ → List (List ℕ) → ℕ
longest_by n rs = max (n + length (first_run rs)) (longest (other_runs rs))

longest_with-by : (c n b : ℕ) (s : List ℕ) (t : Bool) → (b == c) ≡ t
    → longest_with c (n + 1) s ≡ longest_by (n + 1) (runs c s) → longest_with c 0 s ≡ longest_by 0 (runs c s)
    → longest_with c n (b ∷ s) ≡ longest_by n (runs c (b ∷ s))
longest_with-by c n b s true same more rest =
    let step : longest_with c n (b ∷ s) ≡ longest_with c (n + 1) s = rw same refl in
    let first : length (first_run (runs c (b ∷ s))) ≡ suc (length (first_run (runs c s))) =
    ap (λ rs. length (first_run rs)) (runs-cons_yes c b s same) ∙ ap length (first_run-onto_first b (runs c s)) in
    let others : longest (other_runs (runs c (b ∷ s))) ≡ longest (other_runs (runs c s)) =
    ap longest (other_runs-cons_yes c b s same) in
    omega (arith, step, more, first, others)
longest_with-by c n b s false other more rest =
    let step : longest_with c n (b ∷ s) ≡ max n (longest_with c 0 s) = rw other refl in
    let first : length (first_run (runs c (b ∷ s))) ≡ 0 =
    ap (λ rs. length (first_run rs)) (runs-cons_no c b s other) in
    let others : longest (other_runs (runs c (b ∷ s))) ≡ longest (runs c s) =
    ap (λ rs. longest (other_runs rs)) (runs-cons_no c b s other) in
    omega (arith, step, rest, first, others, longest_parts (runs c s))

longest_with-runs : (c n : ℕ) (s : List ℕ) → longest_with c n s ≡ longest_by n (runs c s)
longest_with-runs c n [] = omega arith
longest_with-runs c n (b ∷ s) =
    longest_with-by c n b s (b == c) refl (longest_with-runs c (n + 1) s) (longest_with-runs c 0 s)

from_here : (s : List ℕ) (i : ℕ) → i < length s → drop i s ≡ get_or s i 0 ∷ drop (i + 1) s
from_here [] i h = absurd (omega arith)
from_here (b ∷ s) zero h = refl
from_here (b ∷ s) (suc i) h = rw add-one (rw add-one at (from_here s i (omega arith)))

pub longest_with-step : (c n : ℕ) (s : List ℕ) (i : ℕ) → i < length s
    → longest_with c n (drop i s)
    ≡ cond (get_or s i 0 == c) (longest_with c (n + 1) (drop (i + 1) s)) (max n (longest_with c 0 (drop (i + 1) s)))
longest_with-step c n s i h = ap (longest_with c n) (from_here s i h)

pub longest_with-end : (c n : ℕ) (s : List ℕ) (i : ℕ) → length s ≤ i → longest_with c n (drop i s) ≡ n
longest_with-end c n [] zero h = refl
longest_with-end c n [] (suc i) h = refl
longest_with-end c n (b ∷ s) zero h = absurd (omega arith)
longest_with-end c n (b ∷ s) (suc i) h = longest_with-end c n s i (omega arith)

pub longest_with-none : (c : ℕ) (s : List ℕ) → longest_with c 0 s ≡ longest_run c s
longest_with-none c s = omega (arith, longest_with-runs c 0 s, longest_parts (runs c s))

-- a text without the character has no run of it
pub no_run_without : (c : ℕ) (s : List ℕ) → list_any (λ b. b == c) s ≡ false → longest_run c s ≡ 0
no_run_without c [] none = refl
no_run_without c (b ∷ s) none =
    let parts = or_parts (b == c) (list_any (λ b. b == c) s) none in
    longest-cons_no c b s parts.0 ∙ no_run_without c s parts.1

longest_grows : (c b : ℕ) (s : List ℕ) (t : Bool) → (b == c) ≡ t
    → (longest_run c s ≤ longest_run c (b ∷ s))
    × (longest_run c (b ∷ s) ≤ suc (longest_run c s))
longest_grows c b s true same = (
  omega (arith, longest-cons_yes c b s same, longest_parts (runs c s)),
  omega
      (arith, longest-cons_yes c b s same, longest_parts (runs c s)),
)
longest_grows c b s false other =
    (omega (arith, longest-cons_no c b s other), omega (arith, longest-cons_no c b s other))

pub longest_run-le-length : (c : ℕ) (s : List ℕ) → longest_run c s ≤ length s
longest_run-le-length c [] = omega arith
longest_run-le-length c (b ∷ s) = let more =
    longest_grows c b s (b == c) refl in omega (arith, more.1, longest_run-le-length c s)

-- no run that begins anywhere is longer
pub run_at-le-longest : (c : ℕ) (s : List ℕ) (k : ℕ) → prefix_len (λ b. b == c) (drop k s) ≤ longest_run c s
run_at-le-longest c [] zero = omega arith
run_at-le-longest c [] (suc k) = omega arith
run_at-le-longest c (b ∷ s) zero = omega (arith, longest_parts (runs c (b ∷ s)), first_run-prefix_len c (b ∷ s))
run_at-le-longest c (b ∷ s) (suc k) = let more =
    longest_grows c b s (b == c) refl in omega (arith, more.0, run_at-le-longest c s k)

-- no run has a length above the longest run's
none_so_long : (rs : List (List ℕ)) (n : ℕ) → longest rs < n → list_any (λ run. length run == n) rs ≡ false
none_so_long [] n lt = refl
none_so_long (run ∷ others) n lt =
    let parts = longest_parts (run ∷ others) in
    let here : (length run == n) ≡ false = grind (arith, nat_tests) in
    rw here (none_so_long others n (omega (arith, parts)))

pub no_run_so_long : (c n : ℕ) (s : List ℕ) → longest_run c s < n → has_run c n s ≡ false
no_run_so_long c n s lt = none_so_long (runs c s) n lt
