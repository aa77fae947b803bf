-- The last character of a text.
use Rattle.std.proofs.Common.{◌≡◌, ℕ, List, [], ◌∷◌, ◌++◌, length, take, subst, sym, ap, ◌∙◌, arith}
use Rattle.std.specs.Prelude.{reverse, encode_utf8, slice_get, Option, Some, None, IfSome, MatchOption}
use Rattle.std.specs.Char.{IsScalar}
use Rattle.std.specs.Str.{chars, IsUtf8}
use Rattle.std.proofs.lemmas.List.{reverse-append, append-nil}
use Rattle.std.proofs.Math.Seq.{take-append_seam}
use Rattle.std.proofs.lemmas.Str.{chars-append, chars_past_char, chars-nil, IsUtf8-encode}
use Rattle.std.proofs.lemmas.Str.{IsCharBoundary-at_seam, IsUtf8-take}
use Rattle.htmd_commonmark.specs.CharacterKinds.{last_character}

one_character : (c : ℕ) → IsScalar c → chars (encode_utf8 c) ≡ c ∷ []
one_character c scalar =
    chars_past_char (encode_utf8 c) [] c (IsUtf8-encode c scalar) (sym (append-nil (encode_utf8 c)))
    ∙ ap (λ l. c ∷ l) chars-nil

-- what comes before a character is a text
before_character : (whole rest : List ℕ) (c : ℕ) → IsUtf8 whole → IsScalar c → whole ≡ rest ++ encode_utf8 c
    → IsUtf8 rest
before_character whole rest c text scalar e =
    let cut = IsCharBoundary-at_seam whole rest (encode_utf8 c) e (IsUtf8-encode c scalar) in
    let same : take (length rest) whole ≡ rest = ap (take (length rest)) e
    ∙ take-append_seam rest (encode_utf8 c) in
    subst (λ (l : List ℕ). IsUtf8 l) same (IsUtf8-take whole (length rest) text cut)

pub characters_of : (whole rest : List ℕ) (c : ℕ) → IsUtf8 whole → IsScalar c
    → whole ≡ rest ++ encode_utf8 c
    → chars whole ≡ chars rest ++ c ∷ []
characters_of whole rest c text scalar e =
    ap chars e ∙ chars-append rest (encode_utf8 c) (before_character whole rest c text scalar e)
    ∙ ap (λ l. chars rest ++ l) (one_character c scalar)

none_in : (s : List ℕ) → length s ≡ 0 → None ≡ last_character s
none_in [] none = sym (ap (λ cs. slice_get (reverse cs) 0) chars-nil)
none_in (b ∷ s) none = absurd (omega arith)

-- what `next_back` gives
pub last_told : (X : Type 0) (s whole rest : List ℕ) (r : Option ℕ) → whole ≡ s → IsUtf8 s
    → IfSome r (λ c. IsScalar c) → MatchOption r ((length whole ≡ 0) × X)
    (λ c. whole ≡ rest ++ encode_utf8 c)
    → r ≡ last_character s
last_told X s whole rest None same text scalar told = none_in s (sym (ap length same) ∙ told.0)
last_told X s whole rest (Some c) same text scalar told =
    sym (ap (λ cs. slice_get (reverse cs) 0) (characters_of s rest c text scalar (sym same ∙ told))
    ∙ ap (λ cs. slice_get cs 0) (reverse-append (chars rest) (c ∷ [])))
