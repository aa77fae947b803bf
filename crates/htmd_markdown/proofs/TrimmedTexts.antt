-- What is left of a text between what is cut from its ends.
use Rattle.std.proofs.Common.{◌≡◌, ℕ, zero, suc, ◌+◌, ◌-◌, Bool, true, false, List, [], ◌∷◌, ◌++◌, length, take, drop}
use Rattle.std.proofs.Common.{refl, sym, ap, ◌∙◌, subst, arith, length-drop, ⊎_elim}
use Rattle.std.specs.Prelude.{reverse, ◌&&◌}
use Rattle.std.specs.List.{prefix_len, suffix_len, list_all}
use Rattle.std.proofs.lemmas.Bool.{and_parts, cond-true, cond-false, cases_Bool}
use Rattle.std.proofs.lemmas.List.{append-nil, take-append-drop, take_at, drop_at, reverse-append, reverse-reverse}
use Rattle.std.proofs.lemmas.List.{length-reverse}
use Rattle.std.proofs.lemmas.List.Folds.{list_all-append}
use Rattle.htmd_text.specs.Trims.{trimmed_start, trimmed_end, trimmed_text}

-- the text is empty, or its first byte fails
abbrev pub Begins : (ℕ → Bool) → List ℕ → Type 0
Begins passes [] = Unit {0}
Begins passes (b ∷ s) = passes b ≡ false

-- neither end of the text passes
pub record IsBare (passes : ℕ → Bool) (s : List ℕ) : Type 0 where
  pub front : Begins passes s
  pub back : Begins passes (reverse s)

-- a text between what passes
pub record IsBetween (passes : ℕ → Bool) (s middle : List ℕ) : Type 0 where
  pub before : List ℕ
  pub after : List ℕ
  pub whole : s ≡ before ++ (middle ++ after)
  pub cut : list_all passes before ≡ true
  pub cut_behind : list_all passes after ≡ true
  pub bare : IsBare passes middle

stays_start : (passes : ℕ → Bool) (s : List ℕ) → Begins passes s → trimmed_start passes s ≡ s
stays_start passes [] begins = refl
stays_start passes (b ∷ s) begins = rw begins refl

one_more : (n : ℕ) → 1 + n ≡ suc n
one_more n = omega arith

passed_start : (passes : ℕ → Bool) (before s : List ℕ) → list_all passes before ≡ true
    → trimmed_start passes (before ++ s) ≡ trimmed_start passes s
passed_start passes [] s all = refl
passed_start passes (b ∷ before) s all =
    let parts = and_parts (passes b) (list_all passes before) all in
    let n = prefix_len passes (before ++ s) in
    let here : trimmed_start passes (b ∷ (before ++ s)) ≡ drop (suc n) (b ∷ (before ++ s)) =
    ap (λ k. drop k (b ∷ (before ++ s))) (cond-true (passes b) (1 + n) 0 parts.0 ∙ one_more n) in
    here ∙ passed_start passes before s parts.1

front_passes : (passes : ℕ → Bool) (s : List ℕ) → list_all passes (take (prefix_len passes s) s) ≡ true
front_passes passes [] = refl
front_passes passes (b ∷ s) =
    let n = prefix_len passes s in
    ⊎_elim
    (λ yes.
    let here : take (prefix_len passes (b ∷ s)) (b ∷ s) ≡ b ∷ take n s =
    ap (λ k. take k (b ∷ s)) (cond-true (passes b) (1 + n) 0 yes ∙ one_more n) in
    ap (list_all passes) here ∙ ap (λ first. first && list_all passes (take n s)) yes ∙ front_passes passes s)
    (λ no. ap (λ k. list_all passes (take k (b ∷ s))) (cond-false (passes b) (1 + n) 0 no))
    (cases_Bool (passes b))

rest_begins : (passes : ℕ → Bool) (s : List ℕ) → Begins passes (trimmed_start passes s)
rest_begins passes [] = tt
rest_begins passes (b ∷ s) =
    let n = prefix_len passes s in
    ⊎_elim
    (λ yes.
    let here : trimmed_start passes (b ∷ s) ≡ drop n s =
    ap (λ k. drop k (b ∷ s)) (cond-true (passes b) (1 + n) 0 yes ∙ one_more n) in
    subst (λ (l : List ℕ). Begins passes l) (sym here) (rest_begins passes s))
    (λ no.
    let here : trimmed_start passes (b ∷ s) ≡ b ∷ s =
    ap (λ k. drop k (b ∷ s)) (cond-false (passes b) (1 + n) 0 no) in
    subst (λ (l : List ℕ). Begins passes l) (sym here) no)
    (cases_Bool (passes b))

-- what is left of the end is what is left of the start of the reverse
end_reversed : (passes : ℕ → Bool) (s : List ℕ)
    → trimmed_end passes s ≡ reverse (trimmed_start passes (reverse s))
end_reversed passes s =
    let n = suffix_len passes s in
    let cut = take n (reverse s) in
    let rest = drop n (reverse s) in
    let turned : s ≡ reverse rest ++ reverse cut =
    sym (reverse-reverse s) ∙ ap reverse (sym (take-append-drop n (reverse s))) ∙ reverse-append cut rest in
    let size : length (reverse rest) ≡ length s - n =
    length-reverse rest ∙ length-drop n (reverse s) ∙ ap (λ k. k - n) (length-reverse s) in
    ap (λ l. take (length s - n) l) turned ∙ take_at (reverse rest) (reverse cut) (length s - n) size

-- what is cut from the end is what is cut from the start of the reverse
cut_reversed : (passes : ℕ → Bool) (s : List ℕ) → drop (length s - suffix_len passes s) s ≡ reverse
    (take (suffix_len passes s) (reverse s))
cut_reversed passes s =
    let n = suffix_len passes s in
    let cut = take n (reverse s) in
    let rest = drop n (reverse s) in
    let turned : s ≡ reverse rest ++ reverse cut =
    sym (reverse-reverse s) ∙ ap reverse (sym (take-append-drop n (reverse s))) ∙ reverse-append cut rest in
    let size : length (reverse rest) ≡ length s - n =
    length-reverse rest ∙ length-drop n (reverse s) ∙ ap (λ k. k - n) (length-reverse s) in
    ap (λ l. drop (length s - n) l) turned ∙ drop_at (reverse rest) (reverse cut) (length s - n) size

pub reversed_passes : (passes : ℕ → Bool) (s : List ℕ) → list_all passes s ≡ true
    → list_all passes (reverse s) ≡ true
reversed_passes passes [] all = refl
reversed_passes passes (b ∷ s) all =
    let parts = and_parts (passes b) (list_all passes s) all in
    ap (list_all passes) (reverse-append (b ∷ []) s)
    ∙ list_all-append passes (reverse s) (b ∷ [])
    ∙ ap (λ front. front && (passes b && true)) (reversed_passes passes s parts.1)
    ∙ ap (λ last. last && true) parts.0

begins_taken : (passes : ℕ → Bool) (s : List ℕ) (n : ℕ) → Begins passes s → Begins passes (take n s)
begins_taken passes s zero begins = tt
begins_taken passes [] (suc n) begins = tt
begins_taken passes (b ∷ s) (suc n) begins = begins

-- what passes at the ends is cut, and a bare text stays
pub trimmed_is : (passes : ℕ → Bool) (s middle : List ℕ) → IsBetween passes s middle
    → trimmed_text passes s ≡ middle
trimmed_is passes s [] here =
    let rest : trimmed_start passes s ≡ [] =
    ap (trimmed_start passes) (here.whole)
    ∙ passed_start passes here.before here.after here.cut
    ∙ ap (trimmed_start passes) (sym (append-nil here.after))
    ∙ passed_start passes here.after [] here.cut_behind in
    ap (trimmed_end passes) rest
trimmed_is passes s (b ∷ middle) here =
    let rest : trimmed_start passes s ≡ (b ∷ middle) ++ here.after =
    ap (trimmed_start passes) here.whole
    ∙ passed_start passes here.before ((b ∷ middle) ++ here.after) here.cut
    ∙ stays_start passes ((b ∷ middle) ++ here.after) here.bare.front in
    ap (trimmed_end passes) rest
    ∙ end_reversed passes ((b ∷ middle) ++ here.after)
    ∙ ap (λ l. reverse (trimmed_start passes l)) (reverse-append (b ∷ middle) here.after)
    ∙ ap reverse (passed_start passes (reverse here.after) (reverse (b ∷ middle))
    (reversed_passes passes here.after here.cut_behind))
    ∙ ap reverse (stays_start passes (reverse (b ∷ middle)) here.bare.back)
    ∙ reverse-reverse (b ∷ middle)

-- what was trimmed stands between what passes
pub trimmed_between : (passes : ℕ → Bool) (s : List ℕ) → IsBetween passes s (trimmed_text passes s)
trimmed_between passes s =
    let rest = trimmed_start passes s in
    let kept = length rest - suffix_len passes rest in
    let back : reverse (trimmed_text passes s) ≡ trimmed_start passes (reverse rest) =
    ap reverse (end_reversed passes rest) ∙ reverse-reverse (trimmed_start passes (reverse rest)) in
    record {
      before = take (prefix_len passes s) s;
      after = drop kept rest;
      whole = sym (take-append-drop (prefix_len passes s) s) ∙ ap (λ l. take (prefix_len passes s) s ++ l)
          (sym (take-append-drop kept rest));
      cut = front_passes passes s;
      cut_behind = ap (list_all passes) (cut_reversed passes rest)
          ∙ reversed_passes passes (take (suffix_len passes rest) (reverse rest))
          (front_passes passes (reverse rest));
      bare = record {
        front = begins_taken passes rest kept (rest_begins passes s);
        back = subst (λ (l : List ℕ). Begins passes l) (sym back) (rest_begins passes (reverse rest));
      };
    }
