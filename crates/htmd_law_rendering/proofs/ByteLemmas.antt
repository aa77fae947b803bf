-- What is written of a text, an address and a number.
use Rattle.std.proofs.Common.{◌≡◌, ℕ, zero, suc, ◌+◌, eqb, true, false, List, [], ◌∷◌, ◌++◌}
use Rattle.std.proofs.Common.{refl, ap, ◌∙◌, arith}
use Rattle.std.specs.Prelude.{◌==◌, ◌/◌, ◌%◌, nat_le, nat_lt}
use Rattle.std.specs.Char.{is_ascii_digit}
use Rattle.std.specs.Fmt.{decimal, digits, digits_onto, digit_glyph}
use Rattle.std.specs.List.{list_all}
use Rattle.std.proofs.lemmas.Bool.{and_parts, and_from, eqb-true, le-leb, lt-ltb}
use Rattle.std.proofs.lemmas.Bool.Decides.{nat_tests}
use Rattle.std.proofs.lemmas.Grind.{flat_map-append}
use Rattle.std.proofs.lemmas.List.{append-nil}
use Rattle.htmd_lexical.proofs.Cases.{test}
use Rattle.htmd_commonmark_reading.specs.Rendering.{escaped_byte, escaped, stays_in_address, hexadecimal_digit}
use Rattle.htmd_commonmark_reading.specs.Rendering.{address_byte, escaped_address}
use Rattle.htmd_law_rendering.specs.RenderedTrees.{encoded_byte, encoded_address}

-- what isn't one of the four signs
pub stays : (b : ℕ) → eqb b 0x26 ≡ false → eqb b 0x3C ≡ false → eqb b 0x3E ≡ false
    → eqb b 0x22 ≡ false → escaped_byte b ≡ b ∷ []
stays b e f g h = rw (e, f, g, h) refl

-- ---- addresses

digit-stays : (n : ℕ) → escaped_byte (hexadecimal_digit n) ≡ hexadecimal_digit n ∷ []
digit-stays n =
    test (nat_lt n 10)
    (λ l. let e1 : eqb (48 + n) 0x26 ≡ false = grind (arith, nat_tests) in
    let e2 : eqb (48 + n) 0x3C ≡ false = grind (arith, nat_tests) in
    let e3 : eqb (48 + n) 0x3E ≡ false = grind (arith, nat_tests) in
    let e4 : eqb (48 + n) 0x22 ≡ false = grind (arith, nat_tests) in
    rw l (stays (48 + n) e1 e2 e3 e4))
    (λ l. let e1 : eqb (55 + n) 0x26 ≡ false = grind (arith, nat_tests) in
    let e2 : eqb (55 + n) 0x3C ≡ false = grind (arith, nat_tests) in
    let e3 : eqb (55 + n) 0x3E ≡ false = grind (arith, nat_tests) in
    let e4 : eqb (55 + n) 0x22 ≡ false = grind (arith, nat_tests) in
    rw l (stays (55 + n) e1 e2 e3 e4))

one-encoded : (b : ℕ) → escaped (encoded_byte b) ≡ address_byte b
one-encoded b =
    test (stays_in_address b) (λ t. rw t (append-nil (escaped_byte b)))
    (λ t. rw (t, digit-stays (b / 16), digit-stays (b % 16)) refl)

pub escaped-encoded : (s : List ℕ) → escaped (encoded_address s) ≡ escaped_address s
escaped-encoded [] = refl
escaped-encoded (b ∷ s) =
    flat_map-append escaped_byte (encoded_byte b) (encoded_address s)
    ∙ (ap (λ t. t ++ escaped (encoded_address s)) (one-encoded b)
    ∙ ap (λ t. address_byte b ++ t) (escaped-encoded s))

-- ---- numbers

glyph : (n : ℕ) → is_ascii_digit (digit_glyph false (n % 10)) ≡ true
glyph n =
    let m = n % 10 in
    let e : digit_glyph false m ≡ 48 + m = rw (lt-ltb m 10 (omega arith)) refl in
    ap is_ascii_digit e
    ∙ and_from (nat_le 48 (48 + m)) (nat_le (48 + m) 57) (le-leb 48 (48 + m) (omega arith))
    (le-leb (48 + m) 57 (omega arith))

digits-are : (k n : ℕ) (acc : List ℕ) → list_all is_ascii_digit acc ≡ true
    → list_all is_ascii_digit (digits_onto k 10 false n acc) ≡ true
digits-are zero n acc h = h
digits-are (suc k) n acc h =
    let next : list_all is_ascii_digit (digit_glyph false (n % 10) ∷ acc) ≡ true =
    and_from (is_ascii_digit (digit_glyph false (n % 10))) (list_all is_ascii_digit acc) (glyph n) h in
    test (n / 10 == 0) (λ e. rw e next) (λ e. rw e (digits-are k (n / 10) (digit_glyph false (n % 10) ∷ acc) next))

pub decimal-digits : (n : ℕ) → list_all is_ascii_digit (decimal n) ≡ true
unfolding digits
decimal-digits n = digits-are 64 n [] refl

-- a digit is no other byte
pub no-digit : (b d : ℕ) → is_ascii_digit d ≡ true → is_ascii_digit b ≡ false → eqb d b ≡ false
no-digit b d h n = test (eqb d b) (λ e. let v = ap is_ascii_digit (eqb-true d b e) in absurd (cc))
    (λ e. e)

digits-stay : (s : List ℕ) → list_all is_ascii_digit s ≡ true → escaped s ≡ s
digits-stay [] h = refl
digits-stay (d ∷ s) h =
    let p = and_parts (is_ascii_digit d) (list_all is_ascii_digit s) h in
    ap (λ t. t ++ escaped s)
    (stays d (no-digit 0x26 d p.0 refl) (no-digit 0x3C d p.0 refl) (no-digit 0x3E d p.0 refl)
    (no-digit 0x22 d p.0 refl))
    ∙ ap (λ t. d ∷ t) (digits-stay s p.1)

pub decimal-stays : (n : ℕ) → escaped (decimal n) ≡ decimal n
decimal-stays n = digits-stay (decimal n) (decimal-digits n)
