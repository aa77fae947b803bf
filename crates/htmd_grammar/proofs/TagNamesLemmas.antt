-- Names in small letters.
use Rattle.std.proofs.Common.{Bool, List, [], arith, false, map, not, refl, sym, true, ℕ, ◌&&◌, ◌+◌, ◌∙◌, ◌∷◌, ◌≡◌}
use Rattle.std.proofs.lemmas.Bool.Decides.{nat_tests}
use Rattle.std.specs.Char.{is_ascii_alphabetic, is_ascii_uppercase, to_ascii_lowercase}
use Rattle.std.specs.List.{list_all}
use Rattle.std.specs.Prelude.{nat_lt, ◌==◌}
use Rattle.std.proofs.lemmas.Bool.{and_parts}
use Rattle.htmd_lexical.specs.CharacterClasses.{holds_control, is_attribute_name, is_attribute_name_byte, is_empty}
use Rattle.htmd_lexical.specs.CharacterClasses.{is_tag_name, is_tag_name_byte, lacks}
use Rattle.htmd_lexical.proofs.BooleanLemmas.{all_pass}
use Rattle.htmd_lexical.proofs.Cases.{test}

-- what is said of a byte in small letters is said for capital letters and for the others
pub by_lower : (P : ℕ → ℕ → Type 0) (b : ℕ) → (is_ascii_uppercase b ≡ true → P b (b + 32))
    → (is_ascii_uppercase b ≡ false → P b b) → P b (to_ascii_lowercase b)
by_lower P b f g =
    test (nat_lt b 65) (λ e. rw e (g (grind (arith, nat_tests))))
    (λ e. test (nat_lt b 91) (λ h. rw (e, h) (f (grind (arith, nat_tests))))
    (λ h. rw (e, h) (g (grind (arith, nat_tests)))))

lower_lower : (b : ℕ) → to_ascii_lowercase (to_ascii_lowercase b) ≡ to_ascii_lowercase b
lower_lower b = by_lower (λ x y. to_ascii_lowercase y ≡ y) b
    (λ e. by_lower (λ x y. y ≡ x) (b + 32) (λ h. absurd (grind (arith, nat_tests))) (λ h. refl))
    (λ e. by_lower (λ x y. y ≡ x) b (λ h. absurd (grind (arith, nat_tests))) (λ h. refl))

pub lower_name : (w : List ℕ) → map to_ascii_lowercase (map to_ascii_lowercase w) ≡ map to_ascii_lowercase w
lower_name [] = refl
lower_name (b ∷ w) = rw (lower_lower b, lower_name w) refl

letter_lower : (b : ℕ) → is_ascii_alphabetic b ≡ true → is_ascii_alphabetic (to_ascii_lowercase b) ≡ true
letter_lower b h = by_lower (λ x y. is_ascii_alphabetic y ≡ true) b (λ e. grind (arith, nat_tests)) (λ e. h)

name_byte_lower : (b : ℕ) → is_tag_name_byte b ≡ true → is_tag_name_byte (to_ascii_lowercase b) ≡ true
name_byte_lower b h = by_lower (λ x y. is_tag_name_byte y ≡ true) b (λ e. grind (arith, nat_tests)) (λ e. h)

all_lower : (p : ℕ → Bool) (w : List ℕ) → ((b : ℕ) → p b ≡ true → p (to_ascii_lowercase b) ≡ true)
    → list_all p w ≡ true
    → list_all p (map to_ascii_lowercase w) ≡ true
all_lower p [] h e = refl
all_lower p (b ∷ w) h e = let k = and_parts (p b) (list_all p w) e in rw (h b k.0, all_lower p w h k.1) refl

-- a name in small letters is a name
pub is_name-lower : (w : List ℕ) → is_tag_name w ≡ true → is_tag_name (map to_ascii_lowercase w) ≡ true
is_name-lower [] e = absurd (cc)
is_name-lower (b ∷ w) e = let k = and_parts (is_ascii_alphabetic b) (list_all is_tag_name_byte w) e in
    rw (letter_lower b k.0, all_lower is_tag_name_byte w name_byte_lower k.1) refl

key_byte_lower : (b : ℕ) → is_attribute_name_byte b ≡ true
    → is_attribute_name_byte (to_ascii_lowercase b) ≡ true
key_byte_lower b h = by_lower (λ x y. is_attribute_name_byte y ≡ true) b (λ e. grind (arith, nat_tests)) (λ e. h)

lead_lower : (b : ℕ) → (to_ascii_lowercase b == 0xC2) ≡ (b == 0xC2)
lead_lower b = by_lower (λ x y. (y == 0xC2) ≡ (x == 0xC2)) b
    (λ e.
    let f : (b + 32 == 0xC2) ≡ false = grind (arith, nat_tests) in
    let g : (b == 0xC2) ≡ false = grind (arith, nat_tests) in f ∙ sym g)
    (λ e. refl)

below_lower : (b : ℕ) → nat_lt (to_ascii_lowercase b) 0xA0 ≡ nat_lt b 0xA0
below_lower b = by_lower (λ x y. nat_lt y 0xA0 ≡ nat_lt x 0xA0) b
    (λ e.
    let f : nat_lt (b + 32) 0xA0 ≡ true = grind (arith, nat_tests) in
    let g : nat_lt b 0xA0 ≡ true = grind (arith, nat_tests) in f ∙ sym g)
    (λ e. refl)

control_lower : (w : List ℕ) → holds_control (map to_ascii_lowercase w) ≡ holds_control w
control_lower [] = refl
control_lower (b ∷ []) = refl
control_lower (b ∷ c ∷ w) = rw (lead_lower b, below_lower c, control_lower (c ∷ w)) refl

is_empty-lower : (w : List ℕ) → is_empty (map to_ascii_lowercase w) ≡ is_empty w
is_empty-lower [] = refl
is_empty-lower (b ∷ w) = refl

-- the same for the name of an attribute
pub is_key-lower : (w : List ℕ) → is_attribute_name w ≡ true
    → is_attribute_name (map to_ascii_lowercase w) ≡ true
is_key-lower w e =
    let p = and_parts (not (is_empty w) && list_all is_attribute_name_byte w) (not (holds_control w)) e in
    let q = and_parts (not (is_empty w)) (list_all is_attribute_name_byte w) p.0 in
    rw (is_empty-lower w, control_lower w, q.0, all_lower is_attribute_name_byte w key_byte_lower q.1, p.1) refl

-- no line feed in a name
pub name_lacks : (w : List ℕ) → is_tag_name w ≡ true → lacks 10 w ≡ true
name_lacks [] e = absurd (cc)
name_lacks (b ∷ w) e =
    let k = and_parts (is_ascii_alphabetic b) (list_all is_tag_name_byte w) e in
    rw (letter_no b k.0) (all_pass is_tag_name_byte (λ c. not (c == 10)) w byte_no k.1)
  where
    letter_no : (b : ℕ) → is_ascii_alphabetic b ≡ true → (b == 10) ≡ false
    letter_no b e = grind (arith, nat_tests)

    byte_no : (b : ℕ) → is_tag_name_byte b ≡ true → not (b == 10) ≡ true
    byte_no b e = grind (arith, nat_tests)

pub key_lacks : (w : List ℕ) → is_attribute_name w ≡ true → lacks 10 w ≡ true
key_lacks w e =
    let p = and_parts (not (is_empty w) && list_all is_attribute_name_byte w) (not (holds_control w)) e in
    all_pass is_attribute_name_byte (λ c. not (c == 10)) w byte_no
    (and_parts (not (is_empty w)) (list_all is_attribute_name_byte w) p.0).1
  where
    byte_no : (b : ℕ) → is_attribute_name_byte b ≡ true → not (b == 10) ≡ true
    byte_no b e = grind (arith, nat_tests)
