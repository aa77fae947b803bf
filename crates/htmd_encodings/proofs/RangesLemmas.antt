-- What a pointer of gb18030 stands for by its range is a character.
use Rattle.std.proofs.Common.{◌≡◌, refl, ℕ, ◌+◌, ◌-◌, ◌≤◌, ◌<◌, ◌^◌, ◌⊎◌, inl, inr, ⊎_elim, sym, Bool, true, false, ◌&&◌, ◌||◌, ◌==◌}
use Rattle.std.proofs.Common.{List, [], ◌∷◌, nat_le, nat_lt, arith}
use Rattle.std.proofs.lemmas.Bool.{and_parts, or_cases, leb-true, ltb-true, ltb-false, eqb-true, true≢false}
use Rattle.std.specs.Char.{InScalarRange}
use Rattle.htmd_lexical.proofs.Cases.{test}
use Rattle.htmd_encodings.specs.declared.indexes.gb18030_ranges.TheConstants.{GB18030_RANGES}
use Rattle.htmd_encodings.specs.Gb18030.{in_range, range_of}

-- what comes before this pointer in a range are characters
abbrev fits : ℕ × ℕ → ℕ → Bool
fits range limit =
    nat_le (range.1 + (limit - range.0)) 0xD800
    || (nat_le 0xE000 range.1 && nat_le (range.1 + (limit - range.0)) 0x10000)

-- all ranges have characters alone; the last one is what comes after U+FFFF
abbrev are_characters : ℕ × ℕ → List (ℕ × ℕ) → Bool
are_characters range [] = false
are_characters range (next ∷ []) = fits range 39420 && ((next.0 == 189000) && (next.1 == 0x10000))
are_characters range (next ∷ other ∷ ranges) = fits range next.0 && are_characters next (other ∷ ranges)

fits-scalar : (range : ℕ × ℕ) (limit pointer : ℕ) → fits range limit ≡ true → range.0 ≤ pointer
    → pointer < limit → InScalarRange (in_range range pointer)
fits-scalar range limit pointer f s l =
    ⊎_elim
    (λ e. let low : range.1 + (limit - range.0) ≤ 0xD800 = leb-true _ _ e in inl (omega arith))
    (λ e. let high = and_parts (nat_le 0xE000 range.1) (nat_le (range.1 + (limit - range.0)) 0x10000) e in
    let first : 0xE000 ≤ range.1 = leb-true _ _ high.0 in
    let last : range.1 + (limit - range.0) ≤ 0x10000 = leb-true _ _ high.1 in
    inr (omega arith, omega arith))
    (or_cases (nat_le (range.1 + (limit - range.0)) 0xD800)
    (nat_le 0xE000 range.1 && nat_le (range.1 + (limit - range.0)) 0x10000) f)

-- a pointer that stands for a character
abbrev IsUsed : ℕ → Type 0
IsUsed pointer = (pointer ≤ 39419) ⊎ ((189000 ≤ pointer) × (pointer ≤ 1237575))

abbrev IsInScalars : ℕ × ℕ → ℕ → Type 0
IsInScalars range pointer = (range.0 ≤ pointer) × InScalarRange (in_range range pointer)

last-scalar : (next : ℕ × ℕ) (pointer : ℕ) → ((next.0 == 189000) && (next.1 == 0x10000)) ≡ true
    → next.0 ≤ pointer → IsUsed pointer → IsInScalars next pointer
last-scalar next pointer f s u =
    let both = and_parts (next.0 == 189000) (next.1 == 0x10000) f in
    let first : next.0 ≡ 189000 = eqb-true _ _ both.0 in
    let character : next.1 ≡ 0x10000 = eqb-true _ _ both.1 in
    let high : pointer ≤ 1237575 = ⊎_elim (λ low. omega arith) (λ used. used.1) u in
    (s, inr (omega arith, omega arith))

ranges-scalar : (range : ℕ × ℕ) (ranges : List (ℕ × ℕ)) (pointer : ℕ)
    → are_characters range ranges ≡ true
    → range.0 ≤ pointer → IsUsed pointer → IsInScalars (range_of range ranges pointer) pointer
ranges-scalar range [] pointer a s u = absurd (true≢false (sym a))
ranges-scalar range (next ∷ []) pointer a s u =
    let both = and_parts (fits range 39420) ((next.0 == 189000) && (next.1 == 0x10000)) a in
    let first : next.0 ≡ 189000 = eqb-true _ _ (and_parts (next.0 == 189000) (next.1 == 0x10000) both.1).0 in
    test (nat_lt pointer next.0)
    (λ e. rw e (let below : pointer < next.0 = ltb-true _ _ e in
    let low : pointer < 39420 = ⊎_elim (λ low. omega arith) (λ used. let after = used.0 in omega arith) u in
    (s, fits-scalar range 39420 pointer both.0 s low)))
    (λ e. rw e (let after : next.0 ≤ pointer = ltb-false _ _ e in last-scalar next pointer both.1 after u))
ranges-scalar range (next ∷ other ∷ ranges) pointer a s u =
    let both = and_parts (fits range next.0) (are_characters next (other ∷ ranges)) a in
    test (nat_lt pointer next.0)
    (λ e. rw e (s, fits-scalar range next.0 pointer both.0 s (ltb-true _ _ e)))
    (λ e. rw e (let after : next.0 ≤ pointer = ltb-false _ _ e in
    ranges-scalar next (other ∷ ranges) pointer both.1 after u))

-- a pointer that is used stands for a character by the table
pub pointer-scalar : (pointer : ℕ) → IsUsed pointer
    → IsInScalars (range_of (0, 0x80) GB18030_RANGES pointer) pointer
pointer-scalar pointer u = ranges-scalar (0, 0x80) GB18030_RANGES pointer refl (omega arith) u

-- a character has 32 bits
pub scalar-below : (number : ℕ) → InScalarRange number → number < 2 ^ 32
scalar-below number (inl low) = omega arith
scalar-below number (inr high) = let last = high.1 in omega arith
