-- Part after part.
use Rattle.std.proofs.Common.{◌≡◌, ℕ, zero, suc, ◌+◌, ◌<◌, ◌≤◌, Bool, List, [], ◌∷◌, ◌++◌, length, drop, get_or, map, refl}
use Rattle.std.proofs.Common.{sym, ap, ◌∙◌, ◌⊎◌, inl, inr, arith, String, Global, string_bytes}
use Rattle.std.proofs.lemmas.List.{append_assoc, append-nil, drop_more, drop_all}
use Rattle.htmd_commonmark_reading.specs.Rendering.{escaped_byte, escaped}
use Rattle.htmd_parts.specs.Parts.{Part, letter}
use Rattle.htmd_parts.specs.declared.parts.Part as declared_part
use Rattle.htmd_parts.specs.declared.parts.Part.TheVariants.{Text, Code, Html}
use Rattle.htmd_parts.specs.PartViews.{part_of, all_parts_of}
use Rattle.htmd_parts.specs.Machine.{Page, page, with_part, with_parts}

pub with-more : (p : Page) (xs ys : List Part) → with_parts p (xs ++ ys) ≡ with_parts (with_parts p xs) ys
with-more p [] ys = refl
with-more p (x ∷ xs) ys = with-more (with_part p x) xs ys

-- a text is written by itself, in an image too
pub with-text : (n : ℕ) (s out : List ℕ) (l : Bool)
    → with_parts (page out l n) (map letter s) ≡ page (out ++ escaped s) l n
with-text n [] out l = ap (λ t. page t l n) (sym (append-nil out))
with-text zero (c ∷ s) out l =
    with-text zero s (out ++ escaped_byte c) l
    ∙ ap (λ t. page t l zero) (append_assoc out (escaped_byte c) (escaped s))
with-text (suc n) (c ∷ s) out l =
    with-text (suc n) s (out ++ escaped_byte c) l
    ∙ ap (λ t. page t l (suc n)) (append_assoc out (escaped_byte c) (escaped s))

-- one more part of the source
pub parts-turn : (xs : List declared_part.Part) (i : ℕ) (x : declared_part.Part) (p q total : Page) → i < length xs
    → x ≡ get_or xs i x → q ≡ with_parts p (part_of x) → with_parts p (all_parts_of (drop i xs)) ≡ total
    → with_parts q (all_parts_of (drop (i + 1) xs)) ≡ total
parts-turn xs i x p q total within is e h =
    let rest = drop (i + 1) xs in
    let split : drop i xs ≡ x ∷ rest = drop_more xs i x within ∙ ap (λ y. y ∷ rest) (sym is) in
    ap (λ r. with_parts r (all_parts_of rest)) e
    ∙ (sym (with-more p (part_of x) (all_parts_of rest))
    ∙ (ap (λ ys. with_parts p (all_parts_of ys)) (sym split) ∙ h))

pub parts-end : (xs : List declared_part.Part) (i : ℕ) (p total : Page) → length xs ≤ i
    → with_parts p (all_parts_of (drop i xs)) ≡ total → p ≡ total
parts-end xs i p total past h = ap (λ ys. with_parts p (all_parts_of ys)) (sym (drop_all i xs past)) ∙ h

-- what is text in an image too
pub with-string : (x : declared_part.Part) (s : String Global)
    → (x ≡ Text s) ⊎ ((x ≡ Code s) ⊎ (x ≡ Html s)) → (out : List ℕ) (l : Bool) (n : ℕ) → 0 < n
    → with_parts (page out l n) (part_of x) ≡ page (out ++ escaped (string_bytes s)) l n
with-string x s e out l zero some = absurd (omega arith)
with-string x s (inl e) out l (suc n) some =
    ap (λ y. with_parts (page out l (suc n)) (part_of y)) e ∙ with-text (suc n) (string_bytes s) out l
with-string x s (inr (inl e)) out l (suc n) some = ap (λ y. with_parts (page out l (suc n)) (part_of y)) e
with-string x s (inr (inr e)) out l (suc n) some = ap (λ y. with_parts (page out l (suc n)) (part_of y)) e
