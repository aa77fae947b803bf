-- What the writer knows of what it wrote so far, and that it is UTF-8.
use Rattle.std.proofs.Common.{◌≡◌, ◌∙◌, refl, ap, sym, ℕ, ◌<◌, Bool, true, false, List, [], ◌∷◌, ◌++◌, Some, codes}
use Rattle.std.proofs.Common.{subst, arith}
use Rattle.std.specs.Prelude.{◌||◌, ◌==◌, slice_get, reverse, nat_lt}
use Rattle.std.specs.Str.{IsUtf8}
use Rattle.std.specs.Char.{is_ascii_punctuation}
use Rattle.std.proofs.lemmas.Bool.{and_parts, ltb-true, lt-ltb}
use Rattle.std.proofs.lemmas.List.{append-nil}
use Rattle.std.proofs.lemmas.Str.{chars-nil, encodes-append, encode_ascii, IsUtf8-append}
use Rattle.htmd_text.specs.EscapedPlaces.{with_backslashes}
use Rattle.htmd_commonmark.specs.CharacterKinds.{is_word}
use Rattle.htmd_commonmark.specs.CharacterKinds as writer
use Rattle.htmd_commonmark.specs.TextEscapes.{is_of_word, may_be_escaped, may_be_in_tag}
use Rattle.htmd_commonmark.specs.WrittenText.{character_before, in_line}
use Rattle.htmd_commonmark_reading.specs.Characters.{last_character}
use Rattle.htmd_commonmark_reading.specs.DelimiterRuns.{past_tildes}
use Rattle.htmd_law_inlines.proofs.Pieces.{pushed, pushed_append}
use Rattle.htmd_law_inlines.proofs.TextPieces.{test, is_word_beside, begins_no_tag}
use Rattle.htmd_law_inlines.proofs.TextRead.{Follows}
use Rattle.htmd_lexical.specs.Characters.{is_one_of}
use Rattle.htmd_law_inlines.proofs.ReferencePieces.{AreEscapes, is_small, one_of, ends_text}
use Rattle.htmd_law_inlines.proofs.CharacterPieces.{word_before, plain_encode}
use Rattle.htmd_law_inlines.proofs.RowsRead.{KnowsBefore, beyond, marks_append, snoc, scalars_last, last_of_encodes}
use Rattle.htmd_law_inlines.proofs.RowsRead.{escapes_front, escapes_rest, plain_written}
use lib.Utf8.{encode, encodes, scalar, scalars}

-- ---- the character before

-- what the writer takes to be before is so
pub before_known : (s : List ℕ) → IsUtf8 s → KnowsBefore (character_before s) (pushed s [])
before_known s ([], (sc, e)) h =
    let x : is_of_word (character_before s) ≡ false =
    ap (λ l. is_of_word (character_before l)) (sym e)
    ∙ ap (λ l. is_of_word (in_line (slice_get (reverse l) 0))) chars-nil in
    absurd (cc)
before_known s (d ∷ ds, (sc, e)) h =
    let v = snoc d ds in
    let c = v.last in
    let sc' : scalars (v.front ++ (c ∷ [])) ≡ true = ap scalars (sym v.is) ∙ sc in
    let is : s ≡ encodes v.front ++ encode c =
    sym e ∙ ap encodes v.is ∙ encodes-append v.front (c ∷ [])
    ∙ ap (λ l. encodes v.front ++ l) (append-nil (encode c)) in
    let last : writer.last_character s ≡ Some c =
    ap writer.last_character (sym e ∙ ap encodes v.is) ∙ last_of_encodes v.front c sc' in
    let h' : is_of_word (in_line (Some c)) ≡ true = ap (λ o. is_of_word (in_line o)) (sym last) ∙ h in
    let word : is_word c ≡ true =
    test (c == 10) (λ x. let y : false ≡ true = rw x at h' in absurd (cc)) (λ x. rw x at h') in
    ap (λ l. is_word_beside (last_character (past_tildes 95 l)))
    (ap (λ l. pushed l []) is ∙ pushed_append (encodes v.front) (encode c) [])
    ∙ word_before c (pushed (encodes v.front) []) (scalars_last v.front c sc') word

-- ---- UTF-8

pub ascii_utf8 : (c : ℕ) → c < 128 → scalar c ≡ true → IsUtf8 (c ∷ [])
ascii_utf8 c h s = (c ∷ [], (rw s refl, ap (λ l. l ++ []) (encode_ascii c h)))

character_utf8 : (marked : ℕ → Bool) (k c : ℕ) → scalar c ≡ true → AreEscapes marked k (encode c)
    → IsUtf8 (with_backslashes marked k (encode c))
character_utf8 marked k c h a =
    test (nat_lt c 128)
    (λ l. let e = encode_ascii c (ltb-true c 128 l) in
    subst (λ u. IsUtf8 (with_backslashes marked k u)) (sym e)
    (test (marked k)
    (λ m. rw m (IsUtf8-append (92 ∷ []) (c ∷ []) (ascii_utf8 92 (omega arith) refl)
    (ascii_utf8 c (ltb-true c 128 l) h)))
    (λ m. rw m (ascii_utf8 c (ltb-true c 128 l) h))))
    (λ l. let p : is_ascii_punctuation c ≡ false =
    test (is_ascii_punctuation c) (λ x. let y = lt-ltb c 128 (is_small c x) in absurd (cc)) (λ x. x) in
    subst IsUtf8 (sym (plain_written marked (encode c) k a (plain_encode c p)))
    (c ∷ [], (rw h refl, append-nil (encode c))))

-- a text with backslashes before punctuation is UTF-8
pub escaped_utf8 : (marked : ℕ → Bool) (k : ℕ) (cs : List ℕ) → scalars cs ≡ true
    → AreEscapes marked k (encodes cs)
    → IsUtf8 (with_backslashes marked k (encodes cs))
escaped_utf8 marked k [] h a = ([], (refl, refl))
escaped_utf8 marked k (c ∷ cs) h a =
    let p = and_parts (scalar c) (scalars cs) h in
    let k' = beyond (encode c) k in
    subst IsUtf8 (sym (marks_append marked (encode c) (encodes cs) k))
    (IsUtf8-append (with_backslashes marked k (encode c)) (with_backslashes marked k' (encodes cs))
    (character_utf8 marked k c p.0 (escapes_front marked (encode c) (encodes cs) k a))
    (escaped_utf8 marked k' cs p.1 (escapes_rest marked (encode c) (encodes cs) k a)))

-- ---- what follows a text, by the first character of what is written next

-- the first character of an inline that isn't a text, as the writer guesses it, and the first byte that is written
abbrev pub IsGuessed : ℕ → ℕ → Type 0
IsGuessed guess h =
    (is_one_of (codes "`*[]!<\n") guess ≡ true) × (is_one_of (codes "`*_~<[]!\\ ") h ≡ true)
    × ((guess == 10) ≡ true → is_one_of (codes "\\ ") h ≡ true) ×
    ((h == 91) ≡ true → (guess == 91) ≡ true)

pub guess_follows : (guess h : ℕ) (ks : List ℕ) → IsGuessed guess h → Follows (Some guess) (h ∷ ks)
guess_follows guess h ks g = record {
  ends = one_of ends_text (codes "`*_~<[]!\\ ") h g.1 refl;
  escapes = one_of (λ c. may_be_escaped (Some c)) (codes "`*[]!<\n") guess g.0 refl;
  in_tag = λ e.
      test (guess == 10)
      (λ x. one_of (λ c. begins_no_tag (c ∷ [])) (codes "\\ ") h (g.2 x) refl)
      (λ x. let y = one_of (λ c. may_be_in_tag (Some c) || (c == 10)) (codes "`*[]!<\n") guess g.0 refl in
      let z : false ≡ true = rw (e, x) at y in absurd (cc));
  bracket = λ e. test (h == 91) (λ x. let y = g.3 x in absurd (cc)) (λ x. x);
}
