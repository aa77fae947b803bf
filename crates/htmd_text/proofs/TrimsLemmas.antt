-- Where ASCII characters are cut from the ends of a text.
use Rattle.std.proofs.Common.{◌≡◌, ℕ, zero, suc, ◌+◌, ◌-◌, ◌<◌, ◌≤◌, Bool, true, false, List, length, get_or, take}
use Rattle.std.proofs.Common.{drop, min, refl, sym, ap, ◌∙◌, arith, subst}
use Rattle.std.specs.Prelude.{reverse}
use Rattle.std.specs.List.{prefix_len, suffix_len}
use Rattle.std.specs.Str.{IsCharBoundary, IsUtf8}
use Rattle.std.specs.String.Boundary.{IsSplitPoint}
use Rattle.std.proofs.lemmas.Bool.Decides.{nat_tests}
use Rattle.std.proofs.lemmas.List.{get_or-reverse, length-drop, drop_min}
use Rattle.std.proofs.lemmas.List.Sums.{prefix_len_passes, prefix_len-le-length, suffix_len-le-length}
use Rattle.std.proofs.lemmas.List.Sums.{suffix_len-take_no}
use Rattle.std.proofs.lemmas.Str.{IsCharBoundary-start, IsCharBoundary-end, IsCharBoundary-before_ascii}
use Rattle.std.proofs.lemmas.Str.{IsCharBoundary-after_ascii, IsCharBoundary-from_drop, IsCharBoundary-from_take}
use Rattle.htmd_text.specs.Trims.{is_line_feed, is_space}
use Rattle.htmd_lexical.specs.WhiteSpace.{is_document_white_space}

-- what passes is ASCII
abbrev pub OfAscii : (ℕ → Bool) → Type 0
OfAscii passes = (b : ℕ) → passes b ≡ true → b < 128

pub document_of_ascii : OfAscii is_document_white_space
document_of_ascii b e = grind (arith, nat_tests)

start_at : (passes : ℕ → Bool) (s : List ℕ) (n : ℕ) → IsUtf8 s → OfAscii passes
    → n ≡ prefix_len passes s
    → IsCharBoundary s n
start_at passes s zero text ascii e = IsCharBoundary-start s text
start_at passes s (suc n) text ascii e =
    let passed = prefix_len_passes passes s n 0 (omega arith) in
    let step : n + 1 ≡ suc n = omega arith in
    subst (λ (k : ℕ). IsCharBoundary s k) step
    (IsCharBoundary-after_ascii s n text (omega (arith, prefix_len-le-length passes s))
    (ascii (get_or s n 0) passed))

pub start_boundary : (passes : ℕ → Bool) (s : List ℕ) → IsUtf8 s → OfAscii passes
    → IsCharBoundary s (prefix_len passes s)
start_boundary passes s text ascii = start_at passes s (prefix_len passes s) text ascii refl

end_at : (passes : ℕ → Bool) (s : List ℕ) (n : ℕ) → OfAscii passes → n ≡ suffix_len passes s
    → IsCharBoundary s (length s - n)
end_at passes s zero ascii e =
    let all : length s ≡ length s - 0 = omega arith in
    subst (λ (k : ℕ). IsCharBoundary s k) all (IsCharBoundary-end s)
end_at passes s (suc n) ascii e =
    let within = suffix_len-le-length passes s in
    let passed = prefix_len_passes passes (reverse s) n 0 (omega arith) in
    let same : get_or (reverse s) n 0 ≡ get_or s (length s - suc n) 0 = get_or-reverse s n 0 (omega arith)
    ∙ ap (λ k. get_or s k 0) (omega arith) in
    IsCharBoundary-before_ascii s (length s - suc n) (omega arith)
    (ascii (get_or s (length s - suc n) 0) (ap passes (sym same) ∙ passed))

pub end_boundary : (passes : ℕ → Bool) (s : List ℕ) → OfAscii passes
    → IsCharBoundary s (length s - suffix_len passes s)
end_boundary passes s ascii = end_at passes s (suffix_len passes s) ascii refl

-- a loop that goes down from the end stops where the last byte does not pass, or at the start
pub end_stops : (passes : ℕ → Bool) (s : List ℕ) (n : ℕ) → n ≤ length s
    → (0 < n → passes (get_or s (n - 1) 0) ≡ false)
    → n + suffix_len passes s ≡ length s + suffix_len passes (take n s) → n ≡ length s - suffix_len passes s
end_stops passes s zero le stops e =
    let within = suffix_len-le-length passes s in
    omega (arith, e)
end_stops passes s (suc n) le stops e =
    let fails = stops (omega arith) in
    let none = suffix_len-take_no passes s (suc n) 0 (omega arith) le fails in
    omega (arith, e, none)

-- what comes before the rest of a text may be cut
pub rest_boundary : (s r : List ℕ) (n : ℕ) → IsUtf8 r → length r ≤ length s → r ≡ drop n s
    → IsCharBoundary s (length s - length r)
rest_boundary s r n text le e =
    let size : length r ≡ length s - n = ap length e ∙ length-drop n s in
    let place : length s - length r ≡ min n (length s) = omega arith in
    let same : r ≡ drop (length s - length r) s = e ∙ sym (drop_min n s) ∙ ap (λ k. drop k s) (sym place) in
    IsCharBoundary-from_drop s (length s - length r) (omega arith) (subst (λ (l : List ℕ). IsUtf8 l) same text)

pub front_boundary : (s r : List ℕ) (n : ℕ) → IsUtf8 s → IsUtf8 r → n ≤ length s → length r ≡ n
    → r ≡ take n s
    → IsCharBoundary s (length r)
front_boundary s r n whole text le size e =
    subst (λ (k : ℕ). IsCharBoundary s k) (sym size)
    (IsCharBoundary-from_take s n whole le (subst (λ (l : List ℕ). IsUtf8 l) e text))

-- a `String` may be cut where a character begins
may_cut : (s : List ℕ) (n : ℕ) → IsCharBoundary s n → IsSplitPoint s n
may_cut s n here = (here.0, λ _. here.1)

pub line_feed_of_ascii : OfAscii is_line_feed
line_feed_of_ascii b e = grind (arith, nat_tests)

pub space_of_ascii : OfAscii is_space
space_of_ascii b e = grind (arith, nat_tests)

-- after the line feeds at the start
pub start_may_cut : (s : List ℕ) (n : ℕ) → IsUtf8 s → n ≡ prefix_len is_line_feed s → IsSplitPoint s n
start_may_cut s n text e =
    let here = start_boundary is_line_feed s text line_feed_of_ascii in
    may_cut s n (subst (λ (k : ℕ). IsCharBoundary s k) (sym e) here)

-- in front of what passes at the end
pub end_may_cut : (passes : ℕ → Bool) (s : List ℕ) (n : ℕ) → OfAscii passes
    → n ≡ length s - suffix_len passes s
    → IsSplitPoint s n
end_may_cut passes s n ascii e =
    may_cut s n (subst (λ (k : ℕ). IsCharBoundary s k) (sym e) (end_boundary passes s ascii))

-- the same, as the code counts what passes in the bytes of a `String`
pub counted_may_cut : (passes : ℕ → Bool) (s bytes : List ℕ) (len count : ℕ) → OfAscii passes → bytes ≡ s
    → len ≡ length bytes → count ≡ suffix_len passes bytes → IsSplitPoint s (len - count)
counted_may_cut passes s bytes len count ascii same size counted =
    end_may_cut passes s (len - count) ascii
    (omega (arith, size ∙ ap length same, counted ∙ ap (suffix_len passes) same))
