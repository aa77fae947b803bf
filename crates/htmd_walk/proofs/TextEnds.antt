-- What is cut from the ends of a text that is put together.
use Rattle.std.proofs.Common.{◌≡◌, ℕ, suc, ◌+◌, ◌-◌, ◌<◌, Bool, true, false, List, [], ◌∷◌, ◌++◌}
use Rattle.std.proofs.Common.{length, get_or, take, drop, reverse, refl, sym, ap, ◌∙◌, arith, All, ⊎_elim}
use Rattle.std.specs.List.{prefix_len, suffix_len}
use Rattle.std.proofs.lemmas.Bool.{cond-true, cases_lt}
use Rattle.std.proofs.lemmas.List.{append-nil, take_at, length-append, get_or_append_left}
use Rattle.std.proofs.lemmas.List.{get_or-append_right, get_or-append-add, get_or-reverse, get_or-take, get_or-drop}
use Rattle.std.proofs.lemmas.List.{length-drop, length-take-le, length-reverse, take-append-drop}
use Rattle.std.proofs.lemmas.List.Sums.{suffix_len_is, suffix_len-le-length, prefix_len_stops, prefix_len_passes}
use Rattle.std.proofs.lemmas.List.Sums.{prefix_len-drop_no, prefix_len-drop_all}
use Rattle.std.proofs.lemmas.List.Elements.{All-head, All-tail, All-from_get_or}
use Rattle.htmd_text.specs.Trims.{trimmed_start, trimmed_end}

one_more : (n : ℕ) → 1 + n ≡ suc n
one_more n = omega arith

-- the last byte, if there is one, fails
abbrev pub EndsBare : (ℕ → Bool) → List ℕ → Type 0
EndsBare passes s = 0 < length s → passes (get_or s (length s - 1) 0) ≡ false

abbrev pub Passes : (ℕ → Bool) → List ℕ → Type 0
Passes passes s = All (λ b. passes b ≡ true) s

-- after a text that ends bare, what passes is cut
pub end_cut : (passes : ℕ → Bool) (s behind : List ℕ) → EndsBare passes s → Passes passes behind
    → trimmed_end passes (s ++ behind) ≡ s
end_cut passes s behind bare cut =
    let whole = s ++ behind in
    let size : length whole ≡ length s + length behind = length-append s behind in
    let last : suffix_len passes whole ≡ length whole - length s =
    suffix_len_is passes whole (length s) 0 (omega arith)
    (λ k from below. ap passes (get_or-append_right s behind (length s) k 0 refl from)
    ∙ cut (k - length s) 0 (omega arith))
    (λ some. ap passes (get_or_append_left s behind 0 (length s - 1) (omega arith)) ∙ bare some) in
    let kept : length whole - suffix_len passes whole ≡ length s = omega (arith, last) in
    ap (λ n. take n whole) kept ∙ take_at s behind (length s) refl

pub end_stays : (passes : ℕ → Bool) (s : List ℕ) → EndsBare passes s → trimmed_end passes s ≡ s
end_stays passes s bare =
    ap (trimmed_end passes) (sym (append-nil s)) ∙ end_cut passes s [] bare (λ k d below. absurd (omega arith))

-- what follows decides how a text ends
pub ends_behind : (passes : ℕ → Bool) (s behind : List ℕ) → 0 < length behind → EndsBare passes behind
    → EndsBare passes (s ++ behind)
ends_behind passes s behind some bare whole =
    let place : length (s ++ behind) - 1 ≡ length s + (length behind - 1) =
    omega (arith, length-append s behind) in
    ap (λ n. passes (get_or (s ++ behind) n 0)) place
    ∙ ap passes (get_or-append-add s behind (length behind - 1) 0) ∙ bare some

pub end_is_bare : (passes : ℕ → Bool) (s : List ℕ) → EndsBare passes (trimmed_end passes s)
end_is_bare passes s some =
    let n = suffix_len passes s in
    let within = suffix_len-le-length passes s in
    let size : length (trimmed_end passes s) ≡ length s - n = length-take-le (length s - n) s (omega arith) in
    let short : n < length (reverse s) = omega (arith, size, some, length-reverse s) in
    let place : length s - n - 1 ≡ length s - 1 - n = omega arith in
    ap (λ k. passes (get_or (trimmed_end passes s) (k - 1) 0)) size
    ∙ ap passes (get_or-take (length s - n) s (length s - n - 1) 0 (omega (arith, size, some))
    ∙ ap (λ k. get_or s k 0) place
    ∙ sym (get_or-reverse s n 0 (omega (arith, short, length-reverse s))))
    ∙ prefix_len_stops passes (reverse s) 0 short

pub end_passes : (passes : ℕ → Bool) (s : List ℕ) → Passes passes (drop (length s - suffix_len passes s) s)
end_passes passes s =
    let n = suffix_len passes s in
    let within = suffix_len-le-length passes s in
    All-from_get_or (λ b. passes b ≡ true) (drop (length s - n) s) 0 (λ k below.
    let short : k < n = omega (arith, below, length-drop (length s - n) s) in
    let place : length s - n + k ≡ length s - 1 - (n - 1 - k) = omega arith in
    ap passes (get_or-drop (length s - n) s k 0 ∙ ap (λ i. get_or s i 0) place
    ∙ sym (get_or-reverse s (n - 1 - k) 0 (omega arith)))
    ∙ prefix_len_passes passes (reverse s) (n - 1 - k) 0 (omega arith))

-- the text is what is left, and what was cut
pub end_parts : (passes : ℕ → Bool) (s : List ℕ)
    → trimmed_end passes s ++ drop (length s - suffix_len passes s) s ≡ s
end_parts passes s = take-append-drop (length s - suffix_len passes s) s

-- ---- at the start

pub first_cut : (passes : ℕ → Bool) (b : ℕ) (s : List ℕ) → passes b ≡ true
    → trimmed_start passes (b ∷ s) ≡ trimmed_start passes s
first_cut passes b s first =
    let n = prefix_len passes s in
    ap (λ k. drop k (b ∷ s)) (cond-true (passes b) (1 + n) 0 first ∙ one_more n)

pub start_stays : (passes : ℕ → Bool) (s : List ℕ) → prefix_len passes s ≡ 0 → trimmed_start passes s ≡ s
start_stays passes s none = ap (λ n. drop n s) none

pub start_cut : (passes : ℕ → Bool) (before s : List ℕ) → Passes passes before → prefix_len passes s ≡ 0
    → trimmed_start passes (before ++ s) ≡ s
start_cut passes [] s cut none = start_stays passes s none
start_cut passes (b ∷ before) s cut none =
    first_cut passes b (before ++ s) (All-head (λ b. passes b ≡ true) b before cut)
    ∙ start_cut passes before s (All-tail (λ b. passes b ≡ true) b before cut) none

pub start_is_bare : (passes : ℕ → Bool) (s : List ℕ) → prefix_len passes (trimmed_start passes s) ≡ 0
start_is_bare passes s =
    let n = prefix_len passes s in
    ⊎_elim
    (λ below. prefix_len-drop_no passes s n 0 below (prefix_len_stops passes s 0 below))
    (λ past. prefix_len-drop_all passes s n past)
    (cases_lt n (length s))
