-- No line of code closes a fence that is longer than each run of its sign in the code.
use Rattle.std.proofs.Common.{◌≡◌, ◌∙◌, refl, sym, ap, subst, ℕ, suc, ◌≤◌, ◌<◌, Bool, true, false, not, List, [], ◌∷◌}
use Rattle.std.proofs.Common.{◌++◌, length, map, append_assoc, arith}
use Rattle.std.proofs.lemmas.Bool.Decides.{nat_tests}
use Rattle.std.proofs.lemmas.List.{reverse-append, reverse-reverse}
use Rattle.std.proofs.lemmas.List.Splits.{slice_split-cons_yes, slice_split-cons_no}
use Rattle.std.specs.Prelude.{◌==◌, ◌&&◌, nat_le, max, reverse}
use Rattle.std.specs.List.{list_all, onto_first, fold}
use Rattle.htmd_lexical.specs.CharacterClasses.{leading_run, behind_run}
use Rattle.htmd_markdown.specs.Runs.{runs, longest_run}
use Rattle.htmd_commonmark_reading.specs.Characters.{is_space_or_tab, past_blanks, stripped, stripped_end}
use Rattle.htmd_commonmark_reading.specs.Lines.{line, indent}
use Rattle.htmd_commonmark_reading.specs.Boxes.{joined_lines}
use Rattle.htmd_commonmark_reading.specs.BlockStarts.{is_same, closes_fence}
use Rattle.htmd_law_blocks.proofs.LeavesLemmas.{StaysOpen}

-- ---- the longest run

abbrev longest : List (List ℕ) → ℕ → ℕ
longest rs a = fold max a (map (λ run. length run) rs)

longest_grows : (rs : List (List ℕ)) (a b : ℕ) → a ≤ b → longest rs a ≤ longest rs b
longest_grows [] a b h = h
longest_grows (r ∷ rs) a b h = longest_grows rs (max a (length r)) (max b (length r)) (omega arith)

longest_most : (rs : List (List ℕ)) (a : ℕ) → a ≤ longest rs a
longest_most [] a = omega arith
longest_most (r ∷ rs) a = let h = longest_most rs (max a (length r)) in omega (arith, h)

onto_longest : (x : ℕ) (rs : List (List ℕ)) → longest rs 0 ≤ longest (onto_first x rs) 0
onto_longest x [] = omega arith
onto_longest x (r ∷ rs) = longest_grows rs (max 0 (length r)) (max 0 (length (x ∷ r))) (omega arith)

abbrev is_other : ℕ → ℕ → Bool
is_other c b = not (b == c)

more_runs : (c x : ℕ) (s : List ℕ) → longest_run c s ≤ longest_run c (x ∷ s)
more_runs c x s = go (x == c) refl
  where
    go : (b : Bool) → (x == c) ≡ b → longest_run c s ≤ longest_run c (x ∷ s)
    go true e =
        let o : is_other c x ≡ false = ap not e in
        subst (λ (rs : List (List ℕ)). longest_run c s ≤ longest rs 0)
        (sym (slice_split-cons_no (is_other c) x s o))
        (onto_longest x (runs c s))
    go false e =
        let o : is_other c x ≡ true = ap not e in
        subst (λ (rs : List (List ℕ)). longest_run c s ≤ longest rs 0)
        (sym (slice_split-cons_yes (is_other c) x s o))
        (longest_grows (runs c s) 0 (max 0 0) (omega arith))

later_runs : (c : ℕ) (a b : List ℕ) → longest_run c b ≤ longest_run c (a ++ b)
later_runs c [] b = omega arith
later_runs c (x ∷ a) b =
    let h = later_runs c a b in
    let i = more_runs c x (a ++ b) in
    omega (arith, h, i)

abbrev first_of : List (List ℕ) → List ℕ
first_of [] = []
first_of (r ∷ rs) = r

onto_first_of : (x : ℕ) (rs : List (List ℕ)) → first_of (onto_first x rs) ≡ x ∷ first_of rs
onto_first_of x [] = refl
onto_first_of x (r ∷ rs) = refl

first_run : (c : ℕ) (s : List ℕ) → first_of (runs c s) ≡ leading_run (is_same c) s
first_run c [] = refl
first_run c (x ∷ s) = go (x == c) refl (first_run c s)
  where
    go : (b : Bool) → (x == c) ≡ b → first_of (runs c s) ≡ leading_run (is_same c) s
        → first_of (runs c (x ∷ s)) ≡ leading_run (is_same c) (x ∷ s)
    go true e i =
        let o : is_other c x ≡ false = ap not e in
        let r : leading_run (is_same c) (x ∷ s) ≡ x ∷ leading_run (is_same c) s = rw e refl in
        ap first_of (slice_split-cons_no (is_other c) x s o) ∙ onto_first_of x (runs c s) ∙ ap (◌∷◌ x) i
        ∙ sym r
    go false e i =
        let o : is_other c x ≡ true = ap not e in
        let r : leading_run (is_same c) (x ∷ s) ≡ [] = rw e refl in
        ap first_of (slice_split-cons_yes (is_other c) x s o) ∙ sym r

first_longest : (rs : List (List ℕ)) → length (first_of rs) ≤ longest rs 0
first_longest [] = omega arith
first_longest (r ∷ rs) = let h = longest_most rs (max 0 (length r)) in omega (arith, h)

leading_longest : (c : ℕ) (s : List ℕ) → length (leading_run (is_same c) s) ≤ longest_run c s
leading_longest c s =
    let h = first_longest (runs c s) in
    let e : length (first_of (runs c s)) ≡ length (leading_run (is_same c) s) = ap length (first_run c s) in
    omega (arith, h, e)

-- ---- a line without white space at its ends

run_split : (p : ℕ → Bool) (s : List ℕ) → leading_run p s ++ behind_run p s ≡ s
run_split p [] = refl
run_split p (x ∷ s) = go (p x) refl (run_split p s)
  where
    go : (b : Bool) → p x ≡ b → leading_run p s ++ behind_run p s ≡ s
        → leading_run p (x ∷ s) ++ behind_run p (x ∷ s) ≡ x ∷ s
    go true e i = rw e (ap (◌∷◌ x) i)
    go false e i = rw e refl

end_split : (p : ℕ → Bool) (s : List ℕ) → stripped_end p s ++ reverse (leading_run p (reverse s)) ≡ s
end_split p s =
    sym (reverse-append (leading_run p (reverse s)) (behind_run p (reverse s)))
    ∙ ap reverse (run_split p (reverse s)) ∙ reverse-reverse s

all_leading : (c : ℕ) (t u : List ℕ) → list_all (is_same c) t ≡ true → length t ≤ length
    (leading_run (is_same c) (t ++ u))
all_leading c [] u h = omega arith
all_leading c (x ∷ t) u h = go (x == c) refl (all_leading c t u)
  where
    go : (b : Bool) → (x == c) ≡ b
        → (list_all (is_same c) t ≡ true → length t ≤ length (leading_run (is_same c) (t ++ u)))
        → length (x ∷ t) ≤ length (leading_run (is_same c) (x ∷ (t ++ u)))
    go true e i =
        let w : list_all (is_same c) t ≡ true = (let v = rw e at h in v) in
        let r : leading_run (is_same c) (x ∷ (t ++ u)) ≡ x ∷ leading_run (is_same c) (t ++ u) = rw e refl in
        let j = i w in
        let k : length (leading_run (is_same c) (x ∷ (t ++ u))) ≡ suc (length (leading_run (is_same c) (t ++ u))) =
        ap length r in
        omega (arith, j, k)
    go false e i = absurd (let v = rw e at h in cc)

stripped_run : (c : ℕ) (l rest : List ℕ) → list_all (is_same c) (stripped l) ≡ true
    → length (stripped l) ≤ longest_run c (l ++ rest)
stripped_run c l rest h =
    let t = stripped l in
    let u = reverse (leading_run is_space_or_tab (reverse (past_blanks l))) in
    let v = leading_run is_space_or_tab l in
    let e : l ++ rest ≡ v ++ (t ++ (u ++ rest)) =
    ap (λ (x : List ℕ). x ++ rest) (sym (run_split is_space_or_tab l))
    ∙ append_assoc v (past_blanks l) rest
    ∙ ap (λ (x : List ℕ). v ++ (x ++ rest)) (sym (end_split is_space_or_tab (past_blanks l)))
    ∙ ap (λ (x : List ℕ). v ++ x) (append_assoc t u rest) in
    let a = all_leading c t (u ++ rest) h in
    let b = leading_longest c (t ++ (u ++ rest)) in
    let d = later_runs c v (t ++ (u ++ rest)) in
    let f : longest_run c (l ++ rest) ≡ longest_run c (v ++ (t ++ (u ++ rest))) = ap (longest_run c) e in
    omega (arith, a, b, d, f)

-- ---- fences

no_close : (c count k : ℕ) (l rest : List ℕ) → longest_run c (l ++ rest) < count
    → closes_fence c count (line k l) ≡ false
no_close c count k l rest h = go (list_all (is_same c) (stripped l)) refl
  where
    neither : (a b d : Bool) → b ≡ false → (a && b && d) ≡ false
    neither true b d e = rw e refl
    neither false b d e = refl

    last : (a b d : Bool) → d ≡ false → (a && b && d) ≡ false
    last true true d e = e
    last true false d e = refl
    last false b d e = refl

    go : (b : Bool) → list_all (is_same c) (stripped l) ≡ b → closes_fence c count (line k l) ≡ false
    go true e =
        let m = stripped_run c l rest e in
        let f : nat_le count (length (stripped l)) ≡ false =
        (let i : length (stripped l) < count = omega (arith, m, h) in grind (arith, nat_tests)) in
        neither (nat_le (indent (line k l)) 3) (nat_le count (length (stripped l)))
        (list_all (is_same c) (stripped l)) f
    go false e = last (nat_le (indent (line k l)) 3) (nat_le count (length (stripped l)))
        (list_all (is_same c) (stripped l)) e

pub stays_open : (c count : ℕ) (ls : List (List ℕ)) → longest_run c (joined_lines ls) < count
    → StaysOpen c count ls
stays_open c count [] h = tt
stays_open c count (l ∷ []) h = ((λ k. no_close c count k l [] h), tt)
stays_open c count (l ∷ m ∷ ls) h =
    let i = later_runs c l (10 ∷ joined_lines (m ∷ ls)) in
    let j = more_runs c 10 (joined_lines (m ∷ ls)) in (
      (λ k. no_close c count k l (10 ∷ joined_lines (m ∷ ls)) h),
      stays_open c count (m ∷ ls) (omega (arith, h, i, j)),
    )
