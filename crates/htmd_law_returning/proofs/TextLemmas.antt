-- Normal texts: what shows, with single spaces between.
use Rattle.std.proofs.Common.{◌≡◌, ℕ, Bool, true, false, not, ◌&&◌, ◌||◌, ◌==◌, cond, List, []}
use Rattle.std.proofs.Common.{◌∷◌, ◌++◌}
use Rattle.std.proofs.Common.{refl, sym, ap, ◌∙◌, filter, arith, encode_utf8_all}
use Rattle.std.proofs.Common.{◌+◌, ◌/◌, ◌%◌}
use Rattle.std.specs.Prelude.{encode_utf8}
use Rattle.std.specs.Prelude.{nat_lt}
use Rattle.std.specs.List.{list_all}
use Rattle.std.specs.Str.{chars, IsUtf8, is_utf8}
use Rattle.std.proofs.lemmas.Bool.{and_parts}
use Rattle.std.proofs.lemmas.Bool.Decides.{nat_tests}
use Rattle.std.proofs.lemmas.Str.{encodes-chars, IsUtf8-from_is_utf8}
use Rattle.std.proofs.lemmas.List.Folds.{list_all-append}
use Rattle.htmd_lexical.specs.Characters.{space}
use Rattle.htmd_lexical.specs.CharacterClasses.{first_is, is_empty}
use Rattle.htmd_lexical.proofs.Cases.{test}
use Rattle.htmd_lexical.specs.WhiteSpace.{is_ascii_white_space}
use Rattle.htmd_document.specs.NormalInlines.{is_line, is_line_byte, is_text, has_double_space}
use Rattle.htmd_shown.specs.ShownTexts.{is_shown, shown_text}
use Rattle.htmd_law_returning.specs.SettledDocuments.{is_plain_text}
use Rattle.htmd_law_returning.proofs.RunLemmas.{are_spaced}
use Rattle.htmd_law_returning.proofs.StartLemmas.{false-true, true-false, from-not, space-bytes}
use lib.Utf8.{encode}

-- ---- tests

neither : (a b : Bool) → (a || b) ≡ false → (a ≡ false) × (b ≡ false)
neither true b e = true-false e
neither false b e = (refl, e)

first-of : (a b : Bool) → (a || b) ≡ true → b ≡ false → a ≡ true
first-of true b h e = refl
first-of false b h e = true-false (sym h ∙ e)

-- ---- spaces in a part of a text

double-right : (s t : List ℕ) → has_double_space (s ++ t) ≡ false → has_double_space t ≡ false
double-right [] t h = h
double-right (b ∷ s) t h = double-right s t (neither ((b == space) && first_is space (s ++ t)) _ h).1

-- ---- characters

plain-shows : (cs : List ℕ) → list_all is_shown cs ≡ true → filter is_shown cs ≡ cs
plain-shows [] h = refl
plain-shows (c ∷ cs) h =
    let parts = and_parts (is_shown c) (list_all is_shown cs) h in
    ap (λ b. cond b (c ∷ filter is_shown cs) (filter is_shown cs)) parts.0
    ∙ ap (λ xs. c ∷ xs) (plain-shows cs parts.1)

-- of white space of ASCII a line has spaces alone
abbrev encode_past : ℕ → List ℕ
encode_past c =
    cond (nat_lt c 2048) ((192 + c / 64) ∷ (128 + c % 64) ∷ [])
    (cond (nat_lt c 65536) ((224 + c / 4096) ∷ (128 + (c / 64) % 64) ∷ (128 + c % 64) ∷ [])
    ((240 + c / 262144) ∷ (128 + (c / 4096) % 64) ∷ (128 + (c / 64) % 64) ∷ (128 + c % 64) ∷ []))

low-bytes : (c : ℕ) → is_ascii_white_space c ≡ true → encode_utf8 c ≡ c ∷ []
unfolding encode
low-bytes c h =
    let low : nat_lt c 128 ≡ true = grind (arith, nat_tests, h) in
    ap (λ b. cond b (c ∷ []) (encode_past c)) low

black-byte : (c : ℕ) → (c == space) ≡ false → is_ascii_white_space c ≡ true → is_line_byte c ≡ false
black-byte c e h = grind (arith, nat_tests, e, h)

plain-black : (c : ℕ) → list_all is_line_byte (encode_utf8 c) ≡ true → (c == space) ≡ false
    → not (is_ascii_white_space c) ≡ true
plain-black c h e = test (is_ascii_white_space c)
    (λ q.
    let one : is_line_byte c ≡ true =
    (and_parts (is_line_byte c) true (sym (ap (list_all is_line_byte) (low-bytes c q)) ∙ h)).0 in
    true-false (sym one ∙ black-byte c e q))
    (λ q. ap not q)

-- a space before characters
space-before : (c : ℕ) (cs : List ℕ) → (c == space) ≡ true
    → encode_utf8_all (c ∷ cs) ≡ space ∷ encode_utf8_all cs
space-before c cs e =
    let same : c ≡ space = grind (arith, nat_tests, e) in
    ap (λ x. encode_utf8 x ++ encode_utf8_all cs) same ∙ ap (λ x. x ++ encode_utf8_all cs) (sym space-bytes)

some-chars : (cs : List ℕ) → is_empty (encode_utf8_all cs) ≡ false → is_empty cs ≡ false
some-chars [] h = true-false h
some-chars (c ∷ cs) h = refl

-- ---- texts

spaced-chars : (cs : List ℕ) (p : Bool) → list_all is_line_byte (encode_utf8_all cs) ≡ true
    → has_double_space (encode_utf8_all cs) ≡ false
    → (p ≡ true → first_is space (encode_utf8_all cs) ≡ false) → are_spaced p cs ≡ true
spaced-chars [] p h d f = refl
spaced-chars (c ∷ cs) p h d f =
    let parts = and_parts (list_all is_line_byte (encode_utf8 c)) (list_all is_line_byte (encode_utf8_all cs))
    (sym (list_all-append is_line_byte (encode_utf8 c) (encode_utf8_all cs)) ∙ h) in
    test (c == space)
    (λ q.
    let is = space-before c cs q in
    let spaces = neither (first_is space (encode_utf8_all cs)) (has_double_space (encode_utf8_all cs))
    (sym (ap has_double_space is) ∙ d) in
    let free : p ≡ false = test p (λ e. true-false (sym (ap (first_is space) is) ∙ f e)) (λ e. e) in
    ap (λ b. cond b (not p && are_spaced true cs) (not (is_ascii_white_space c) && are_spaced false cs)) q
    ∙ (ap (λ b. not b && are_spaced true cs) free ∙ spaced-chars cs true parts.1 spaces.1 (λ e. spaces.0)))
    (λ q.
    ap (λ b. cond b (not p && are_spaced true cs) (not (is_ascii_white_space c) && are_spaced false cs)) q
    ∙ (ap (λ b. b && are_spaced false cs) (plain-black c parts.0 q)
    ∙ spaced-chars cs false parts.1 (double-right (encode_utf8 c) (encode_utf8_all cs) d) (λ e. false-true e)))

-- what a normal text is like
pub record IsLine (s : List ℕ) : Type 0 where
  pub utf8 : IsUtf8 s
  pub shown : shown_text s ≡ s
  pub bytes : encode_utf8_all (chars s) ≡ s
  pub some : is_empty (chars s) ≡ false
  pub spaced : are_spaced false (chars s) ≡ true

pub text-line : (s : List ℕ) → is_plain_text s ≡ true → is_text s ≡ true → IsLine s
text-line s p h =
    let parts = and_parts (is_line s && not (is_empty s)) (not (has_double_space s)) h in
    let some = and_parts (is_line s) (not (is_empty s)) parts.0 in
    let line = and_parts (is_utf8 s) (list_all is_line_byte s) some.0 in
    let u : IsUtf8 s = IsUtf8-from_is_utf8 s line.0 in
    let same : encode_utf8_all (chars s) ≡ s = encodes-chars s u in
    let single : has_double_space (encode_utf8_all (chars s)) ≡ false =
    ap has_double_space same ∙ from-not (has_double_space s) parts.1 in
    let filled : is_empty (chars s) ≡ false =
    some-chars (chars s) (ap is_empty same ∙ from-not (is_empty s) some.1) in
    record {
      utf8 = u;
      shown = ap encode_utf8_all (plain-shows (chars s) p) ∙ same;
      bytes = same;
      some = filled;
      spaced = spaced-chars (chars s) false (ap (list_all is_line_byte) same ∙ line.1) single (λ e. false-true e);
    }
