-- The kinds of a run of a text, and U+FFFD, which takes the place of U+0000.
use Rattle.std.proofs.Common.{◌≡◌, ◌∙◌, ℕ, Bool, true, false, List, [], ◌∷◌, refl, sym, ap, arith, ◌≢◌}
use Rattle.std.specs.Prelude.{IsUtf8, count_by, ◌==◌, if◌then◌else◌}
use Rattle.std.specs.Str.{chars}
use Rattle.std.specs.Char.{encode_utf8}
use Rattle.std.proofs.lemmas.Bool.{eqb-false, ne_eqb}
use Rattle.std.proofs.lemmas.Str.{IsUtf8-nil, IsUtf8-append, chars-nil, chars_past_char}
use Rattle.htmd_lexical.specs.WhiteSpace.{is_ascii_white_space}
use Rattle.htmd_html5_tokens.specs.References.{replacement_character}
use Rattle.htmd_html5.specs.Runs.{kind_of_byte, first_kind, is_null}
use Rattle.htmd_html5.specs.ForeignContent.{replacements}
use Rattle.htmd_law_html5.proofs.Utf8Contents.{replacement_utf8}
use Rattle.htmd_law_html5.specs.PageLetters.{occurrences, is_character}
use Rattle.htmd_law_html5.proofs.TextsPut.{occurs_append, occurs_nil}

one_none : (c : ℕ) → (c == replacement_character) ≡ false → occurrences c (encode_utf8 replacement_character)
    ≡ 0
unfolding occurrences encode_utf8
one_none c e =
    ap (count_by (is_character c)) (chars_past_char
    (encode_utf8 replacement_character) [] replacement_character replacement_utf8 refl)
    ∙ counted (eqb-false c replacement_character e)
  where
    counted : c ≢ replacement_character → count_by (is_character c) (replacement_character ∷ chars []) ≡ 0
    counted n = rw chars-nil (rw (ne_eqb replacement_character c (λ q. n (sym q))) refl)

-- the kinds are those of white space, of U+0000 and of a letter
by_kind : (P : _ → Type 0) → P (kind_of_byte 32) → P (kind_of_byte 0) → P (kind_of_byte 97) → (b : ℕ)
    → P (kind_of_byte b)
by_kind P white nulls characters b = either (is_ascii_white_space b) (is_null b)
  where
    either : (x y : Bool) → P (if x then kind_of_byte 32 else if y then kind_of_byte 0 else kind_of_byte 97)
    either true y = white
    either false true = nulls
    either false false = characters

pub by_first_kind : (P : _ → Type 0) → P (kind_of_byte 32) → P (kind_of_byte 0) → P (kind_of_byte 97)
    → (s : List ℕ) → P (first_kind s)
by_first_kind P white nulls characters [] = characters
by_first_kind P white nulls characters (b ∷ s) = by_kind P white nulls characters b

module _ (c : ℕ) where
  -- this is what U+FFFD isn't
  pub replaced_utf8 : (t : List ℕ) → IsUtf8 (replacements t)
  replaced_utf8 [] = IsUtf8-nil
  replaced_utf8 (b ∷ t) = IsUtf8-append (encode_utf8 replacement_character) (replacements t) replacement_utf8
      (replaced_utf8 t)

  pub replaced_none : (c == replacement_character) ≡ false → (t : List ℕ) → occurrences c (replacements t) ≡ 0
  replaced_none e [] = occurs_nil c
  replaced_none e (b ∷ t) =
      let a = occurs_append c (encode_utf8 replacement_character) (replacements t) replacement_utf8 in
      let d = replaced_none e t in
      let f = one_none c e in
      omega arith
