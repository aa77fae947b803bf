-- Texts and addresses, character by character and byte by byte.
use Rattle.std.proofs.Common.{◌≡◌, ℕ, zero, suc, ◌≤◌, ◌<◌, eqb, ltb, true, false, List, [], ◌∷◌, ◌++◌}
use Rattle.std.proofs.Common.{length, get_or, refl, sym, ap, ◌∙◌, arith, inl, inr}
use Rattle.std.proofs.lemmas.Bool.Decides.{nat_tests}
use Rattle.std.proofs.lemmas.Bool.{cases_lt}
use Rattle.std.proofs.lemmas.Grind.{flat_map-append}
use Rattle.std.proofs.lemmas.List.{append_assoc, append-nil}
use Rattle.std.proofs.lemmas.Str.{encode_ascii, inside_one}
use Rattle.htmd_commonmark_reading.specs.Rendering.{escaped_byte, escaped}
use Rattle.htmd_parts.specs.EscapedCharacters.{escaped_char}
use lib.Utf8.{encode}

-- bytes past ASCII stay
high-stays : (b : ℕ) → 0x80 ≤ b → escaped_byte b ≡ b ∷ []
high-stays b l =
    let e1 : eqb b 0x26 ≡ false = grind (arith, nat_tests) in
    let e2 : eqb b 0x3C ≡ false = grind (arith, nat_tests) in
    let e3 : eqb b 0x3E ≡ false = grind (arith, nat_tests) in
    let e4 : eqb b 0x22 ≡ false = grind (arith, nat_tests) in
    rw (e1, e2, e3, e4) refl

all-stay : (s : List ℕ) → ((k : ℕ) → k < length s → 0x80 ≤ get_or s k 0) → escaped s ≡ s
all-stay [] h = refl
all-stay (b ∷ s) h =
    ap (λ t. t ++ escaped s) (high-stays b (h zero (omega arith)))
    ∙ ap (λ t. b ∷ t) (all-stay s (λ k l. h (suc k) (omega arith)))

high-byte : (c k : ℕ) → 0x80 ≤ c → k < length (encode c) → 0x80 ≤ get_or (encode c) k 0
high-byte c k l within = elim (cases_lt (get_or (encode c) k 0) 0x80) [
  | inl low ↦
      let e : c ≡ get_or (encode c) k 0 =
      inside_one c [] (encode c) k (sym (append-nil (encode c))) within low in
      absurd (omega arith)
  | inr high ↦ high
]

encoded : (c : ℕ) → escaped (encode c) ≡ escaped_char c
encoded c = elim (cases_lt c 0x80) [
  | inl l ↦
      let y : ltb c 0x80 ≡ true = grind (arith, nat_tests) in
      rw y (ap escaped (encode_ascii c l) ∙ append-nil (escaped_byte c))
  | inr l ↦
      let n : ltb c 0x80 ≡ false = grind (arith, nat_tests) in
      rw n (all-stay (encode c) (λ k within. high-byte c k l within))
]

-- one more character
pub text-turn : (out new rest after total : List ℕ) (c : ℕ) → new ≡ out ++ escaped_char c
    → rest ≡ encode c ++ after → out ++ escaped rest ≡ total → new ++ escaped after ≡ total
text-turn out new rest after total c e g h =
    let split : escaped rest ≡ escaped_char c ++ escaped after =
    ap escaped g ∙ flat_map-append escaped_byte (encode c) after ∙ ap (λ x. x ++ escaped after) (encoded c) in
    ap (λ x. x ++ escaped after) e
    ∙ (append_assoc out (escaped_char c) (escaped after) ∙ (ap (λ x. out ++ x) (sym split) ∙ h))
