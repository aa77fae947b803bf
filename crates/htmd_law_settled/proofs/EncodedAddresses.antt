-- An address of UTF-8 stays as it is once it is encoded.
use Rattle.std.proofs.Common.{◌≡◌, ℕ, ◌/◌, ◌%◌, ◌<◌, Bool, true, List, [], ◌∷◌, ◌++◌, refl, ◌∙◌}
use Rattle.std.proofs.Common.{arith, subst, encode_utf8, encode_utf8_all}
use Rattle.std.specs.Prelude.{nat_lt}
use Rattle.std.specs.List.{list_all}
use Rattle.std.specs.Str.{IsUtf8}
use Rattle.std.proofs.Math.Utf8.{scalars, scalar}
use Rattle.std.proofs.lemmas.Bool.{and_parts, and_from}
use Rattle.std.proofs.lemmas.Bool.Decides.{nat_tests}
use Rattle.std.proofs.lemmas.List.Folds.{list_all-append}
use Rattle.htmd_lexical.proofs.Cases.{test}
use Rattle.htmd_commonmark_reading.specs.Rendering.{stays_in_address, hexadecimal_digit}
use Rattle.htmd_law_rendering.specs.RenderedTrees.{encoded_byte, encoded_address}
use Rattle.htmd_law_returning.specs.SettledDocuments.{is_settled_address}
use lib.Utf8.{encode}

-- ---- the bytes of UTF-8

abbrev is_byte : ℕ → Bool
is_byte b = nat_lt b 256

both : (s t : List ℕ) → list_all is_byte s ≡ true → list_all is_byte t ≡ true
    → list_all is_byte (s ++ t) ≡ true
both s t g h = list_all-append is_byte s t ∙ and_from (list_all is_byte s) (list_all is_byte t) g h

character-bytes : (c : ℕ) → scalar c ≡ true → list_all is_byte (encode_utf8 c) ≡ true
unfolding encode
character-bytes c e = grind (arith, nat_tests, e)

all-bytes : (cs : List ℕ) → scalars cs ≡ true → list_all is_byte (encode_utf8_all cs) ≡ true
all-bytes [] e = refl
all-bytes (c ∷ cs) e =
    let p = and_parts (scalar c) (scalars cs) e in
    both (encode_utf8 c) (encode_utf8_all cs) (character-bytes c p.0) (all-bytes cs p.1)

utf8-bytes : (s : List ℕ) → IsUtf8 s → list_all is_byte s ≡ true
utf8-bytes s h = subst (λ t. list_all is_byte t ≡ true) h.1.1 (all-bytes h.0 h.1.0)

-- ---- what stands for them

digit-stays : (n : ℕ) → n < 16 → stays_in_address (hexadecimal_digit n) ≡ true
digit-stays n h = grind (arith, nat_tests, h)

byte-stays : (b : ℕ) → is_byte b ≡ true → list_all stays_in_address (encoded_byte b) ≡ true
byte-stays b h =
    let low : b < 256 = grind (arith, nat_tests, h) in
    test (stays_in_address b) (λ e. rw (e, e) refl)
    (λ e. rw (e, digit-stays (b / 16) (omega (arith, low)), digit-stays (b % 16) (omega arith)) refl)

bytes-stay : (s : List ℕ) → list_all is_byte s ≡ true → is_settled_address (encoded_address s) ≡ true
bytes-stay [] h = refl
bytes-stay (b ∷ s) h =
    let p = and_parts (is_byte b) (list_all is_byte s) h in
    list_all-append stays_in_address (encoded_byte b) (encoded_address s)
    ∙ and_from (list_all stays_in_address (encoded_byte b)) (is_settled_address (encoded_address s))
    (byte-stays b p.0) (bytes-stay s p.1)

pub encoded-settled : (s : List ℕ) → IsUtf8 s → is_settled_address (encoded_address s) ≡ true
encoded-settled s h = bytes-stay s (utf8-bytes s h)
