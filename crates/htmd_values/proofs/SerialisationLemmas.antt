-- The serialisation, character by character.
use Rattle.std.proofs.Common.{◌≡◌, ◌≢◌, ℕ, ◌+◌, ◌/◌, ◌%◌, ◌<◌, ◌≤◌, true, false, eqb, ltb, ◌&&◌, List, [], ◌∷◌, ◌++◌}
use Rattle.std.proofs.Common.{refl, sym, ap, ◌∙◌, subst, arith, inl, inr}
use Rattle.std.proofs.Math.Bool.{and-false}
use Rattle.std.proofs.lemmas.Bool.Decides.{nat_tests}
use Rattle.std.proofs.lemmas.List.{append_assoc, append-nil}
use Rattle.std.proofs.lemmas.Bool.{cases_eq, cases_lt}
use Rattle.std.proofs.lemmas.Str.{encode_ascii}
use Rattle.htmd_values.specs.Serialisation.{is_no_break_space, text_byte, value_byte, escaped_html}
use Rattle.htmd_values.specs.SerialiserSteps.{escaped_html_char}
use Rattle.htmd_lexical.proofs.Cases.{test}
use lib.Utf8.{encode}

-- one more piece of a text is after what was written
pub turn : (out new piece rest total : List ℕ) → new ≡ out ++ piece → out ++ (piece ++ rest) ≡ total
    → new ++ rest ≡ total
turn out new piece rest total e h = ap (λ x. x ++ rest) e ∙ (append_assoc out piece rest ∙ h)

-- ---- characters

encode-two : (c : ℕ) → ltb c 0x80 ≡ false → ltb c 0x800 ≡ true
    → encode c ≡ (192 + c / 64) ∷ (128 + c % 64) ∷ []
unfolding encode
encode-two c n y = rw (n, y) refl

encode-three : (c : ℕ) → ltb c 0x80 ≡ false → ltb c 0x800 ≡ false → ltb c 0x1_0000 ≡ true
    → encode c ≡ (224 + c / 4096) ∷ (128 + c / 64 % 64) ∷ (128 + c % 64) ∷ []
unfolding encode
encode-three c n m y = rw (n, m, y) refl

encode-four : (c : ℕ) → ltb c 0x80 ≡ false → ltb c 0x800 ≡ false → ltb c 0x1_0000 ≡ false
    → encode c ≡ (240 + c / 262144) ∷ (128 + c / 4096 % 64) ∷ (128 + c / 64 % 64) ∷ (128 + c % 64) ∷ []
unfolding encode
encode-four c n m o = rw (n, m, o) refl

encode-no_break_space : encode 0xA0 ≡ 0xC2 ∷ 0xA0 ∷ []
unfolding encode
encode-no_break_space = refl

module _ (byte : ℕ → List ℕ) where
  -- a byte that begins no no-break space
  escaped_html-one : (b : ℕ) (s : List ℕ) → b ≢ 0xC2
      → escaped_html byte (b ∷ s) ≡ byte b ++ escaped_html byte s
  escaped_html-one b [] n = sym (append-nil (byte b))
  escaped_html-one b (c ∷ s) n = let e : eqb b 0xC2 ≡ false = grind (arith, nat_tests) in rw e refl

  escaped_html-pair : (b c : ℕ) (s : List ℕ) → c ≢ 0xA0
      → escaped_html byte (b ∷ c ∷ s) ≡ byte b ++ escaped_html byte (c ∷ s)
  escaped_html-pair b c s n =
      let e : eqb c 0xA0 ≡ false = grind (arith, nat_tests) in
      let f : is_no_break_space b c ≡ false = ap (λ y. eqb b 0xC2 && y) e ∙ and-false (eqb b 0xC2) in
      rw f refl

  module _ (high : (b : ℕ) → 0x80 ≤ b → byte b ≡ b ∷ []) where
    escaped_html-high : (b : ℕ) (s : List ℕ) → 0x80 ≤ b → b ≢ 0xC2
        → escaped_html byte (b ∷ s) ≡ b ∷ escaped_html byte s
    escaped_html-high b s l n = escaped_html-one b s n ∙ ap (λ x. x ++ escaped_html byte s) (high b l)

    two : (c : ℕ) (s : List ℕ) → 0x80 ≤ c → c < 0x800 → c ≢ 0xA0
        → escaped_html byte ((192 + c / 64) ∷ (128 + c % 64) ∷ s) ≡ (192 + c / 64) ∷
        (128 + c % 64) ∷ escaped_html byte s
    two c s l m n =
        let second : escaped_html byte ((128 + c % 64) ∷ s) ≡ (128 + c % 64) ∷ escaped_html byte s =
        escaped_html-high (128 + c % 64) s (omega arith) (omega arith) in
        elim (cases_eq (192 + c / 64) 0xC2) [
          | inl e ↦
              escaped_html-pair (192 + c / 64) (128 + c % 64) s (omega arith)
              ∙ (ap (λ x. x ++ escaped_html byte ((128 + c % 64) ∷ s)) (high (192 + c / 64) (omega arith))
              ∙ ap (λ x. (192 + c / 64) ∷ x) second)
          | inr o ↦ escaped_html-high (192 + c / 64) ((128 + c % 64) ∷ s) (omega arith) o
              ∙ ap (λ x. (192 + c / 64) ∷ x) second
        ]

    three : (c : ℕ) (s : List ℕ)
        → escaped_html byte ((224 + c / 4096) ∷ (128 + c / 64 % 64) ∷ (128 + c % 64) ∷ s) ≡ (224 + c / 4096)
        ∷
        (128 + c / 64 % 64) ∷ (128 + c % 64) ∷ escaped_html byte s
    three c s =
        escaped_html-high (224 + c / 4096) ((128 + c / 64 % 64) ∷ (128 + c % 64) ∷ s) (omega arith) (omega arith)
        ∙ ap (λ x. (224 + c / 4096) ∷ x)
        (escaped_html-high (128 + c / 64 % 64) ((128 + c % 64) ∷ s) (omega arith) (omega arith)
        ∙ ap (λ x. (128 + c / 64 % 64) ∷ x) (escaped_html-high (128 + c % 64) s (omega arith) (omega arith)))

    four : (c : ℕ) (s : List ℕ)
        → escaped_html byte ((240 + c / 262144) ∷ (128 + c / 4096 % 64) ∷ (128 + c / 64 % 64) ∷ (128 + c % 64)
        ∷ s) ≡
        (240 + c / 262144) ∷ (128 + c / 4096 % 64) ∷ (128 + c / 64 % 64) ∷ (128 + c % 64) ∷ escaped_html byte s
    four c s =
        escaped_html-high (240 + c / 262144) ((128 + c / 4096 % 64) ∷ (128 + c / 64 % 64) ∷ (128 + c % 64) ∷ s)
        (omega arith) (omega arith)
        ∙ ap (λ x. (240 + c / 262144) ∷ x)
        (escaped_html-high (128 + c / 4096 % 64) ((128 + c / 64 % 64) ∷ (128 + c % 64) ∷ s) (omega arith)
        (omega arith)
        ∙ ap (λ x. (128 + c / 4096 % 64) ∷ x)
        (escaped_html-high (128 + c / 64 % 64) ((128 + c % 64) ∷ s) (omega arith) (omega arith)
        ∙ ap (λ x. (128 + c / 64 % 64) ∷ x) (escaped_html-high (128 + c % 64) s (omega arith) (omega arith))))

    -- a character that isn't ASCII and no no-break space
    escaped_html-wide : (c : ℕ) (s : List ℕ) → 0x80 ≤ c → c ≢ 0xA0
        → escaped_html byte (encode c ++ s) ≡ encode c ++ escaped_html byte s
    escaped_html-wide c s l n =
        let low : ltb c 0x80 ≡ false = grind (arith, nat_tests) in
        test (ltb c 0x800)
        (λ y. rw (encode-two c low y) (two c s l (grind (arith, nat_tests)) n))
        (λ m. test (ltb c 0x1_0000) (λ y. rw (encode-three c low m y) (three c s))
        (λ o. rw (encode-four c low m o) (four c s)))

    -- a character is written by itself
    pub escaped_html-encode : (c : ℕ) (s : List ℕ)
        → escaped_html byte (encode c ++ s) ≡ escaped_html_char byte c ++ escaped_html byte s
    escaped_html-encode c s = elim (cases_eq c 0xA0) [
      | inl e ↦ subst (λ x. escaped_html byte (encode x ++ s) ≡ escaped_html_char byte x ++ escaped_html byte s)
          (sym e) (rw encode-no_break_space refl)
      | inr n ↦
          let other : eqb c 0xA0 ≡ false = grind (arith, nat_tests) in
          elim (cases_lt c 0x80) [
            | inl l ↦ let y : ltb c 0x80 ≡ true = grind (arith, nat_tests) in
                rw (other, y)
                (ap (λ x. escaped_html byte (x ++ s)) (encode_ascii c l) ∙ escaped_html-one c s (omega arith))
            | inr l ↦ let low : ltb c 0x80 ≡ false =
                grind (arith, nat_tests) in rw (other, low) (escaped_html-wide c s l n)
          ]
    ]

    -- a step over a character of a text
    pub escaped_html-turn : (out new rest after total : List ℕ) (c : ℕ) → new ≡ out ++ escaped_html_char byte c
        → rest ≡ encode c ++ after → out ++ escaped_html byte rest ≡ total
        → new ++ escaped_html byte after ≡ total
    escaped_html-turn out new rest after total c e f h =
        turn out new (escaped_html_char byte c) (escaped_html byte after) total e
        (ap (λ x. out ++ x) (sym (ap (escaped_html byte) f ∙ escaped_html-encode c after)) ∙ h)

pub text_byte-high : (b : ℕ) → 0x80 ≤ b → text_byte b ≡ b ∷ []
text_byte-high b l =
    let e1 : eqb b 0x26 ≡ false = grind (arith, nat_tests) in
    let e2 : eqb b 0x3C ≡ false = grind (arith, nat_tests) in
    let e3 : eqb b 0x3E ≡ false = grind (arith, nat_tests) in
    rw (e1, e2, e3) refl

pub value_byte-high : (b : ℕ) → 0x80 ≤ b → value_byte b ≡ b ∷ []
value_byte-high b l =
    let e1 : eqb b 0x26 ≡ false = grind (arith, nat_tests) in
    let e2 : eqb b 0x22 ≡ false = grind (arith, nat_tests) in
    rw (e1, e2) refl
