-- What comes next in the text, as far as the pieces before it ask: the first character of inlines, or of what closes
-- them.
use Rattle.std.proofs.Common.{◌≡◌, ◌∙◌, refl, ap, sym, ℕ, zero, Bool, true, false, List, [], ◌∷◌, ◌++◌, Option, Some}
use Rattle.std.proofs.Common.{None, codes, subst, ◌⊎◌, inl, inr}
use Rattle.std.specs.Prelude.{not, ◌&&◌, ◌||◌, ◌==◌, slice_get, reverse}
use Rattle.std.specs.Str.{chars, IsUtf8, chars_after, continuation_len, lead_bits}
use Rattle.std.specs.Char.{is_ascii_punctuation}
use Rattle.std.proofs.lemmas.Bool.{eqb-true, and_parts, not-true}
use Rattle.std.proofs.lemmas.List.{append_assoc}
use Rattle.std.proofs.lemmas.Str.{encode_ascii, chars-nil, chars-encodes}
use Rattle.htmd_lexical.specs.Characters.{is_one_of}
use Rattle.htmd_lexical.specs.CharacterClasses.{first_is, leading_run}
use Rattle.htmd_text.specs.EscapedPlaces.{with_backslashes}
use Rattle.htmd_document.specs.Documents.{Inline, text, code, formatted, link, image, line_break, task}
use Rattle.htmd_document.specs.Documents.{anchor}
use Rattle.htmd_document.specs.Documents.{Inlines, no_inlines, inline}
use Rattle.htmd_commonmark.specs.declared.line.Line.{Line}
use Rattle.htmd_commonmark.specs.declared.line.LineKind.{LineKind}
use Rattle.htmd_commonmark.specs.declared.text_escape.Place.{Place}
use Rattle.htmd_commonmark.specs.CharacterKinds.{is_word}
use Rattle.htmd_commonmark.specs.CharacterKinds as writer
use Rattle.htmd_commonmark.specs.TextEscapes.{is_of_word, may_be_escaped, may_be_in_tag}
use Rattle.htmd_commonmark.specs.declared.inline_ends.Following.{Following}
use Rattle.htmd_commonmark.specs.TextEscapes.{character_before as before_text, character_after as after_text}
use Rattle.std.specs.Option.{option_or}
use Rattle.std.specs.List.{list_all}
use Rattle.htmd_commonmark.specs.WrittenText.{character_before, is_last_escaped}
use Rattle.htmd_commonmark.specs.Marks.{is_character}
use Rattle.htmd_commonmark.specs.InlineEnds.{first_of, escaped_first, follows}
use Rattle.htmd_commonmark.specs.InlineMarkdown.{place_of}
use Rattle.htmd_commonmark_reading.specs.Characters.{first_character, past_blanks, goes_on}
use Rattle.htmd_commonmark_reading.specs.DelimiterRuns.{is_white_beside, is_punctuation_beside}
use Rattle.htmd_commonmark_reading.specs.Brackets.{kind}
use Rattle.htmd_document.specs.NormalInlines.{is_line_byte, is_code, is_break, begins_with_space, ends_with_space}
use Rattle.htmd_document.specs.NormalInlines.{may_meet}
use Rattle.htmd_law_inlines.proofs.TextPieces.{in_some, test, differs}
use Rattle.htmd_law_inlines.proofs.ReferencePieces.{one_of, is_small, follows_text, ends_text, AreEscapes}
use Rattle.htmd_law_inlines.proofs.CharacterPieces.{no_punctuation, shape, no_tildes, first_is_character, plain_encode}
use Rattle.htmd_law_inlines.proofs.TagPieces.{begins_well}
use Rattle.htmd_law_inlines.proofs.Nested.{beside_after}
use Rattle.htmd_law_inlines.proofs.Flanking.{IsOuter, IsInner, inner_same, outer_same, outer_punctuation}
use Rattle.htmd_law_inlines.proofs.Flanking.{inner_punctuation, outer_end}
use Rattle.htmd_law_inlines.proofs.TextRead.{Follows, AreDue, escapes_of, needs_none}
use Rattle.htmd_law_inlines.proofs.TextMarks.{MarksAll, are_due}
use Rattle.htmd_law_inlines.proofs.RowsRead.{beyond, marks_append, plain_written, escapes_front, no_going}
use Rattle.htmd_law_inlines.proofs.WalkPieces.{IsGuessed, guess_follows}
use Rattle.htmd_law_inlines.proofs.WrittenPieces.{is_words, no_two_texts, IsTextual}
use lib.Utf8.{encode, encodes, scalar, scalars}

-- ---- the first character

abbrev is_its_own : ℕ → Bool
is_its_own c = (continuation_len c == 0) && (lead_bits c == c)

first_after : (c : ℕ) (s : List ℕ) → (cs : List ℕ) × (chars_after zero c s ≡ c ∷ cs)
first_after c [] = ([], refl)
first_after c (b ∷ s) = (chars_after (continuation_len b) (lead_bits b) s, refl)

-- a sign is a character
pub sign_chars : (h : ℕ) (t : List ℕ) → is_one_of (codes "`*_~<>[]!\\ ") h ≡ true
    → (cs : List ℕ) × (chars (h ∷ t) ≡ h ∷ cs)
unfolding chars
sign_chars h t i =
    let o = one_of is_its_own (codes "`*_~<>[]!\\ ") h i refl in
    let p = and_parts (continuation_len h == 0) (lead_bits h == h) o in
    let v = first_after h t in (
      v.0,
      ap (λ n. chars_after n (lead_bits h) t) (eqb-true (continuation_len h) 0 p.0)
          ∙ ap (λ c. chars_after zero c t) (eqb-true (lead_bits h) h p.1) ∙ v.1,
    )

pub sign_first : (h : ℕ) (t : List ℕ) → is_one_of (codes "`*_~<>[]!\\ ") h ≡ true
    → first_character (h ∷ t) ≡ Some h
sign_first h t i = ap (λ l. slice_get l 0) (sign_chars h (leading_run goes_on t) i).1

-- ---- what begins with an inline

-- What stands next in the text begins with what is written of this inline, as far as what is before it asks.
pub record Begins (line : Line) (so_far : List ℕ) (y : Inline) (ks : List ℕ) : Type 0 where
  pub follows : is_words y ≡ false → Follows (first_of line.kind y) ks
  pub no_end : is_words y ≡ false → is_break y ≡ false → first_is 10 (past_blanks ks) ≡ false
  pub no_grave : is_code y ≡ false → first_is 96 ks ≡ false
  pub well : is_break y ≡ false → begins_with_space y ≡ false → begins_well ks ≡ true
  pub no_sign : (sign : ℕ) → is_one_of (codes "*_~") sign ≡ true → character_before so_far ≡ Some sign
      → is_last_escaped so_far ≡ false → first_is sign ks ≡ false
  pub no_tilde : (sign : ℕ) → is_one_of (codes "*_~") sign ≡ true → character_before so_far ≡ Some sign
      → first_is 126 ks ≡ false
  pub outer : IsOuter (first_of line.kind y) (first_character ks)
  pub inner : (g : ℕ) → first_of line.kind y ≡ Some g → IsInner g (first_character ks)

-- the first byte of an inline that is no text, and what the writer takes to be the first character
pub record IsHead (line : Line) (so_far : List ℕ) (y : Inline) (g h : ℕ) : Type 0 where
  pub guess : first_of line.kind y ≡ Some g
  pub guessed : IsGuessed g h
  pub blank : (h == 32) ≡ true → (g == 10) ≡ true
  pub no_line : is_break y ≡ false → (g == 10) ≡ false
  pub no_grave : is_code y ≡ false → (h == 96) ≡ false
  pub no_sign : (sign : ℕ) → is_one_of (codes "*_~") sign ≡ true → character_before so_far ≡ Some sign
      → is_last_escaped so_far ≡ false → (h == sign) ≡ false
  pub no_tilde : (sign : ℕ) → is_one_of (codes "*_~") sign ≡ true → character_before so_far ≡ Some sign
      → (h == 126) ≡ false

blank_or_mark : (h : ℕ) → is_one_of (codes "`*_~<[]!\\ ") h ≡ true → (h == 32) ≡ false
    → is_ascii_punctuation h ≡ true
blank_or_mark h i n =
    let x = one_of (λ c. (c == 32) || is_ascii_punctuation c) (codes "`*_~<[]!\\ ") h i refl in
    rw n at x

head_outer : (g h : ℕ) → is_one_of (codes "`*_~<[]!\\ ") h ≡ true → IsOuter (Some g) (Some h)
head_outer g h i =
    test (h == 32)
    (λ e. subst (λ c. IsOuter (Some g) (Some c)) (sym (eqb-true h 32 e)) (record { apart = λ x. refl }))
    (λ e. outer_punctuation (Some g) h (blank_or_mark h i e))

head_inner : (g h : ℕ) → IsGuessed g h → ((h == 32) ≡ true → (g == 10) ≡ true) → IsInner g (Some h)
head_inner g h i b =
    test (g == 10)
    (λ e. subst (λ c. IsInner c (Some h)) (sym (eqb-true g 10 e))
    (record { no_space = λ x. absurd (cc); no_punctuation = λ x. absurd (cc) }))
    (λ e. let n : (h == 32) ≡ false = test (h == 32) (λ x. let y = b x in absurd (cc)) (λ x. x) in
    let x = one_of (λ c. (c == 10) || is_ascii_punctuation c) (codes "`*[]!<\n") g i.0 refl in
    inner_punctuation g h (rw e at x) (blank_or_mark h i.1 n))

no_blank_head : (line : Line) (so_far : List ℕ) (y : Inline) (g h : ℕ) → IsHead line so_far y g h → is_break y
    ≡ false
    → (h == 32) ≡ false
no_blank_head line so_far y g h i b =
    test (h == 32) (λ e. let x = i.blank e in let z = i.no_line b in absurd (cc)) (λ e. e)

no_tab : (h : ℕ) → is_one_of (codes "`*_~<[]!\\ ") h ≡ true → (h == 9) ≡ false
no_tab h i = differs (is_one_of (codes "`*_~<[]!\\ ")) h 9 i refl

pub head_begins : (line : Line) (so_far : List ℕ) (y : Inline) (g h : ℕ) (t : List ℕ) → is_words y ≡ false
    → IsHead line so_far y g h → Begins line so_far y (h ∷ t)
head_begins line so_far y g h t w i =
    let first = sign_first h t (one_of (is_one_of (codes "`*_~<>[]!\\ ")) (codes "`*_~<[]!\\ ") h i.guessed.1 refl) in
    record {
      follows = λ e. subst (λ o. Follows o (h ∷ t)) (sym i.guess) (guess_follows g h t i.guessed);
      no_end = λ e b.
          rw (no_blank_head line so_far y g h i b, no_tab h i.guessed.1)
          (differs (is_one_of (codes "`*_~<[]!\\ ")) h 10 i.guessed.1 refl);
      no_grave = i.no_grave;
      well = λ b e. rw (no_blank_head line so_far y g h i b, no_tab h i.guessed.1) refl;
      no_sign = i.no_sign;
      no_tilde = i.no_tilde;
      outer = subst (λ o. IsOuter (first_of line.kind y) o) (sym first)
          (subst (λ o. IsOuter o (Some h)) (sym i.guess) (head_outer g h i.guessed.1));
      inner = λ x e.
          subst (λ o. IsInner x o) (sym first)
          (subst (λ (o : Option ℕ). (n : ℕ) → o ≡ Some n → IsInner n (Some h)) (sym i.guess)
          (λ n q. subst (λ (o : Option ℕ). IsInner (in_some o) (Some h)) q (head_inner g h i.guessed i.blank)) x e);
    }

-- ---- what begins with a text

-- how a text begins: with a backslash before punctuation, or with its first character
pub record TextFirst (s ks : List ℕ) (c : ℕ) : Type 0 where
  pub first : writer.first_character s ≡ Some c
  pub either : ((is_ascii_punctuation c ≡ true) × (first_character ks ≡ Some 92))
      ⊎ ((is_one_of (codes "`*[~") c ≡ false) × (first_character ks ≡ Some c))

slash_head : (marked : ℕ → Bool) (x : ℕ) (r rest : List ℕ) → marked 0 ≡ true
    → with_backslashes marked 0 (x ∷ r) ++ rest ≡ 92 ∷ x ∷ (with_backslashes marked 1 r ++ rest)
slash_head marked x r rest m = rw m refl

bare_head : (marked : ℕ → Bool) (x : ℕ) (r rest : List ℕ) → marked 0 ≡ false
    → with_backslashes marked 0 (x ∷ r) ++ rest ≡ x ∷ (with_backslashes marked 1 r ++ rest)
bare_head marked x r rest m = rw m refl

-- what gets a backslash wherever it stands
pub always_marked : (place : Place) (marked : ℕ → Bool) (x d : ℕ) (r : List ℕ)
    → AreDue place marked 0 (x ∷ r)
    → (d == 95) ≡ false → needs_none (kind d) place r ≡ false → marked 0 ≡ false → (x == d) ≡ false
always_marked place marked x d r a n k m =
    test (x == d)
    (λ e. let q = eqb-true x d e in
    let z : needs_none (kind d) place r ≡ true =
    subst (λ c. needs_none (kind c) place r ≡ true) q (a.1 (ap (λ c. c == 95) q ∙ n) m) in absurd (cc))
    (λ e. e)

-- a character that has no backslash stands as it is
bare_character : (marked : ℕ → Bool) (c : ℕ) (u : List ℕ) → AreEscapes marked 0 (encode c ++ u) → marked 0
    ≡ false
    → with_backslashes marked 0 (encode c ++ u) ≡ encode c ++ with_backslashes marked (beyond (encode c) 0) u
bare_character marked c u a m =
    let f = escapes_front marked (encode c) u 0 a in
    marks_append marked (encode c) u 0
    ∙ ap (λ l. l ++ with_backslashes marked (beyond (encode c) 0) u)
    (test (is_ascii_punctuation c)
    (λ p. let e = encode_ascii c (is_small c p) in
    rw (e, m) refl)
    (λ p. plain_written marked (encode c) 0 f (plain_encode c p)))

abbrev first_or_zero : List ℕ → ℕ
first_or_zero [] = 0
first_or_zero (b ∷ l) = b

-- the first byte of punctuation is it
mark_byte : (c x : ℕ) (u r : List ℕ) → encode c ++ u ≡ x ∷ r → is_ascii_punctuation x ≡ true
    → is_ascii_punctuation c ≡ true
mark_byte c x u r e h =
    let s = shape c in
    let same : s.lead ≡ x = ap (λ l. first_or_zero l) (ap (λ l. l ++ u) (sym s.is) ∙ e) in
    test (is_ascii_punctuation c) (λ p. p)
    (λ p. let z : is_ascii_punctuation x ≡ false = ap is_ascii_punctuation (sym same) ∙ s.plain p in absurd (cc))

byte_is : (c x : ℕ) (u r : List ℕ) → encode c ++ u ≡ x ∷ r → is_ascii_punctuation c ≡ true → x ≡ c
byte_is c x u r e h =
    ap (λ l. first_or_zero l) (sym e ∙ ap (λ l. l ++ u)
    (encode_ascii c (is_small c h)))

in_escapes : (c : ℕ) → is_one_of (codes "`*[~") c ≡ true → is_ascii_punctuation c ≡ true
in_escapes c h = one_of is_ascii_punctuation (codes "`*[~") c h refl

text_first : (place : Place) (marked : ℕ → Bool) (x : ℕ) (r rest : List ℕ) (c : ℕ) (cs : List ℕ)
    → scalars (c ∷ cs) ≡ true → encodes (c ∷ cs) ≡ x ∷ r → AreDue place marked 0 (x ∷ r)
    → follows_text rest ≡ true → TextFirst (x ∷ r) (with_backslashes marked 0 (x ∷ r) ++ rest) c
text_first place marked x r rest c cs sc e a f = record {
  first = ap writer.first_character (sym e) ∙ ap (λ l. slice_get l 0) (chars-encodes (c ∷ cs) sc);
  either =
      test (marked 0)
      (λ m. inl (
        mark_byte c x (encodes cs) r e (a.0 m),
        ap first_character (slash_head marked x r rest m)
            ∙ sign_first 92 (x ∷ (with_backslashes marked 1 r ++ rest)) refl,
      ))
      (λ m. inr (
        bare_first m,
        ap (λ l. first_character (with_backslashes marked 0 l ++ rest)) (sym e)
            ∙ ap (λ l. first_character (l ++ rest))
            (bare_character marked c (encodes cs)
            (subst (AreEscapes marked 0) (sym e) (escapes_of place marked 0 (x ∷ r) a)) m)
            ∙ ap first_character (append_assoc (encode c)
            (with_backslashes marked (beyond (encode c) 0) (encodes cs)) rest)
            ∙ first_is_character c (with_backslashes marked (beyond (encode c) 0) (encodes cs) ++ rest)
            (and_parts (scalar c) (scalars cs) sc).0 (no_going marked (beyond (encode c) 0) cs rest f),
      ));
}
  where
    bare_first : marked 0 ≡ false → is_one_of (codes "`*[~") c ≡ false
    bare_first m =
        test (is_one_of (codes "`*[~") c)
        (λ h. let q = byte_is c x (encodes cs) r e (in_escapes c h) in
        let i : is_one_of (codes "`*[~") x ≡ true = ap (is_one_of (codes "`*[~")) q ∙ h in
        let n : needs_none (kind x) place r ≡ false =
        not-true _ (one_of (λ d. not (needs_none (kind d) place r)) (codes "`*[~") x i refl) in
        let u : (x == 95) ≡ false = differs (is_one_of (codes "`*[~")) x 95 i refl in
        let z = a.1 u m in absurd (cc))
        (λ h. h)

text_outer : (s ks : List ℕ) (c : ℕ) → TextFirst s ks c
    → IsOuter (escaped_first (writer.first_character s)) (first_character ks)
text_outer s ks c t =
    subst (λ o. IsOuter (escaped_first o) (first_character ks)) (sym t.first)
    (elim (t.either) as (λ x. IsOuter (escaped_first (Some c)) (first_character ks)) [
      | inl x ↦ subst (λ o. IsOuter (escaped_first (Some c)) o) (sym x.1)
          (outer_punctuation (escaped_first (Some c)) 92 refl)
      | inr x ↦ subst (λ o. IsOuter (escaped_first (Some c)) o) (sym x.1) (rw x.0 (outer_same c))
    ])

text_inner : (s ks : List ℕ) (c g : ℕ) → TextFirst s ks c → escaped_first (writer.first_character s) ≡ Some g
    → IsInner g (first_character ks)
text_inner s ks c g t h =
    let h' : escaped_first (Some c) ≡ Some g = ap escaped_first (sym t.first) ∙ h in
    elim (t.either) as (λ x. IsInner g (first_character ks)) [
      | inl x ↦ subst (λ o. IsInner g o) (sym x.1)
          (inner_punctuation g 92 (test (is_one_of (codes "`*[~") c)
          (λ i. let q : Some 92 ≡ Some g = rw i at h' in ap (λ o. is_ascii_punctuation (in_some o)) (sym q))
          (λ i. let q : Some c ≡ Some g = rw i at h' in ap (λ o. is_ascii_punctuation (in_some o)) (sym q)
          ∙ x.0)) refl)
      | inr x ↦ subst (λ o. IsInner g o) (sym x.1)
          (let q : Some c ≡ Some g = rw x.0 at h' in subst (λ o. IsInner (in_some o) (Some c)) q (inner_same c))
    ]

-- beside a sign a row of underscores is no row of a word
first_row : (line : Line) (so_far : List ℕ) (after : Option ℕ) (r : List ℕ) (marked : ℕ → Bool) (sign : ℕ)
    → MarksAll (place_of line so_far after) (95 ∷ r) marked → is_one_of (codes "*_~") sign ≡ true
    → character_before so_far ≡ Some sign → marked 0 ≡ true
first_row line so_far after r marked sign m i e =
    let place = place_of line so_far after in
    let p = one_of is_ascii_punctuation (codes "*_~") sign i refl in
    let n : is_word sign ≡ false =
    test (is_word sign) (λ w. let q = no_punctuation sign w in absurd (cc)) (λ w. w) in
    let b : is_of_word (before_text place []) ≡ false =
    ap (λ l. is_of_word (option_or (slice_get (reverse l) 0) place.before)) chars-nil ∙ ap is_of_word e ∙ n in
    m.rows [] r refl ∙ ap (λ q. not (q && is_of_word (after_text place (95 ∷ r)))) b

pub text_begins : (line : Line) (so_far : List ℕ) (after : Option ℕ) (s rest : List ℕ) (marked : ℕ → Bool)
    → MarksAll (place_of line so_far after) s marked → IsTextual s → follows_text rest ≡ true
    → Begins line so_far (text s) (with_backslashes marked 0 s ++ rest)
text_begins line so_far after [] rest marked m t f = let x = t.full in absurd (cc)
text_begins line so_far after (x ∷ r) rest marked m t f =
    let place = place_of line so_far after in
    let a = are_due place (x ∷ r) marked m [] (x ∷ r) 0 refl refl in
    let first = first_of_text place x r rest marked t.utf8 a f in
    let p = (and_parts (is_line_byte x) (list_all is_line_byte r) t.plain).0 in
    record {
      follows = λ e. absurd (cc);
      no_end = λ e b. absurd (cc);
      no_grave = λ e.
          test (marked 0) (λ k. ap (first_is 96) (slash_head marked x r rest k))
          (λ k. ap (first_is 96) (bare_head marked x r rest k) ∙ always_marked place marked x 96 r a refl refl k);
      well = λ b e.
          test (marked 0) (λ k. ap begins_well (slash_head marked x r rest k))
          (λ k. ap begins_well (bare_head marked x r rest k) ∙ rw (e, differs is_line_byte x 9 p refl) refl);
      no_sign = λ sign i e n.
          test (marked 0)
          (λ k. ap (first_is sign) (slash_head marked x r rest k) ∙ other_than sign i)
          (λ k. ap (first_is sign) (bare_head marked x r rest k) ∙ no_sign_first sign i e k);
      no_tilde = λ sign i e.
          test (marked 0) (λ k. ap (first_is 126) (slash_head marked x r rest k))
          (λ k. ap (first_is 126) (bare_head marked x r rest k) ∙ always_marked place marked x 126 r a refl refl k);
      outer = text_outer (x ∷ r) _ first.0 first.1;
      inner = λ g e. text_inner (x ∷ r) _ first.0 g first.1 e;
    }
  where
    first_of_text : (place : Place) (x : ℕ) (r rest : List ℕ) (marked : ℕ → Bool) → IsUtf8 (x ∷ r)
        → AreDue place marked 0 (x ∷ r) → follows_text rest ≡ true
        → (c : ℕ) × TextFirst (x ∷ r) (with_backslashes marked 0 (x ∷ r) ++ rest) c
    first_of_text place x r rest marked ([], (sc, e)) a f = absurd (cc)
    first_of_text place x r rest marked (c ∷ cs, (sc, e)) a f = (c, text_first place marked x r rest c cs sc e a f)

    other_than : (sign : ℕ) → is_one_of (codes "*_~") sign ≡ true → (92 == sign) ≡ false
    other_than sign i =
        test (92 == sign)
        (λ e. let q : is_one_of (codes "*_~") 92 ≡ true = ap (is_one_of (codes "*_~")) (eqb-true 92 sign e) ∙ i in
        absurd (cc))
        (λ e. e)

    no_sign_first : (sign : ℕ) → is_one_of (codes "*_~") sign ≡ true → character_before so_far ≡ Some sign
        → marked 0 ≡ false → (x == sign) ≡ false
    no_sign_first sign i e k =
        let a = are_due (place_of line so_far after) (x ∷ r) marked m [] (x ∷ r) 0 refl refl in
        test (x == 95)
        (λ q. let x95 = eqb-true x 95 q in
        let y = first_row line so_far after r marked sign
        (subst (λ c. MarksAll (place_of line so_far after) (c ∷ r) marked) x95 m) i e in absurd (cc))
        (λ q. test (sign == 95)
        (λ w. ap (λ c. x == c) (eqb-true sign 95 w) ∙ q)
        (λ w. let place = place_of line so_far after in
        let v : (sign == 95) || not (needs_none (kind sign) place r) ≡ true =
        one_of (λ d. (d == 95) || not (needs_none (kind d) place r)) (codes "*_~") sign i refl in
        let n : not (needs_none (kind sign) place r) ≡ true =
        subst (λ (b : Bool). (b || not (needs_none (kind sign) place r)) ≡ true) w v in
        always_marked place marked x sign r a w (not-true (needs_none (kind sign) place r) n) k))

-- ---- what closes inlines

-- What closes inlines stands next in the text. `ends_in_format`: a format is the last of them.
pub record Ends (closing : Option ℕ) (ends_in_format : Bool) (ks : List ℕ) : Type 0 where
  pub follows : Follows closing ks
  pub no_end : first_is 10 (past_blanks ks) ≡ false
  pub no_grave : first_is 96 ks ≡ false
  pub well : begins_well ks ≡ true
  pub no_sign : (sign : ℕ) → is_one_of (codes "*_~") sign ≡ true → is_character sign closing ≡ false
      → first_is sign ks ≡ false
  pub outer : (sign : ℕ) → ends_in_format ≡ true → is_one_of (codes "*_~") sign ≡ true
      → is_character sign closing ≡ false → IsOuter closing (beside_after sign ks)

pub nothing_ends : (b : Bool) → Ends None b []
nothing_ends b = record {
  follows = record { ends = refl; escapes = refl; in_tag = λ h. refl; bracket = λ h. refl };
  no_end = refl;
  no_grave = refl;
  well = refl;
  no_sign = λ sign i h. refl;
  outer = λ sign l i h. test (sign == 126) (λ e. rw e (outer_end None)) (λ e. rw e (outer_end None));
}

-- what begins with this sign
sign_follows : (h : ℕ) (t : List ℕ) → is_one_of (codes "*_~<]") h ≡ true → Follows (Some h) (h ∷ t)
sign_follows h t i = record {
  ends = one_of ends_text (codes "*_~<]") h i refl;
  escapes = one_of (λ c. may_be_escaped (Some c)) (codes "*_~<]") h i refl;
  in_tag = λ e. let x = one_of (λ c. may_be_in_tag (Some c)) (codes "*_~<]") h i refl in absurd (cc);
  bracket = λ e. e;
}

sign_no_end : (h : ℕ) (t : List ℕ) → is_one_of (codes "*_~<]") h ≡ true
    → first_is 10 (past_blanks (h ∷ t)) ≡ false
sign_no_end h t i =
    let p = is_one_of (codes "*_~<]") in
    rw (differs p h 32 i refl, differs p h 9 i refl) (differs p h 10 i refl)

pub sign_ends : (h : ℕ) (b : Bool) (t : List ℕ) → is_one_of (codes "*_~<]") h ≡ true → (h == 126) ≡ false
    → Ends (Some h) b (h ∷ t)
sign_ends h b t i n =
    let p = is_one_of (codes "*_~<]") in
    record {
      follows = sign_follows h t i;
      no_end = sign_no_end h t i;
      no_grave = differs p h 96 i refl;
      well = rw (differs p h 32 i refl, differs p h 9 i refl) refl;
      no_sign = λ sign j e. e;
      outer = λ sign l j e.
          let first = sign_first h t (one_of (is_one_of (codes "`*_~<>[]!\\ ")) (codes "*_~<]") h i refl) in
          subst (IsOuter (Some h))
          (sym (test (sign == 126) (λ x. rw x first) (λ x. rw (x, n) first)))
          (outer_punctuation (Some h) h (one_of is_ascii_punctuation (codes "*_~<]") h i refl));
    }

-- two tildes close inlines: what stands after them counts beside a row before them
pub tildes_end : (b : Bool) (t : List ℕ) → first_is 126 t ≡ false
    → (b ≡ true → (is_white_beside (first_character t) || is_punctuation_beside (first_character t)) ≡ true)
    → Ends (Some 126) b (126 ∷ 126 ∷ t)
tildes_end b t n a = record {
  follows = sign_follows 126 (126 ∷ t) refl;
  no_end = refl;
  no_grave = refl;
  well = refl;
  no_sign = λ sign j e. e;
  outer = λ sign l j e.
      let s : (sign == 126) ≡ false =
      test (sign == 126) (λ x. let y : (126 == 126) ≡ false = ap (λ c. 126 == c) (sym (eqb-true sign 126 x))
      ∙ e in
      absurd (cc)) (λ x. x) in
      record { apart = λ x. rw (s, no_tildes t n) (a l) };
}

-- ---- what a piece asks of what comes next

abbrev pub is_format : Inline → Bool
is_format (formatted f content) = true
is_format _ = false

-- what an inline asks of what comes next, after this text
pub record Needs (f : Following) (x : Inline) (so_far ks : List ℕ) : Type 0 where
  pub follows : is_words x ≡ true → Follows f.after ks
  pub no_end : ends_with_space x ≡ true → first_is 10 (past_blanks ks) ≡ false
  pub no_grave : is_code x ≡ true → first_is 96 ks ≡ false
  pub well : is_break x ≡ true → begins_well ks ≡ true
  pub beside : is_format x ≡ true → (sign : ℕ) → is_one_of (codes "*_~") sign ≡ true
      → character_before so_far ≡ Some sign → is_last_escaped so_far ≡ false
      → (f.is_last && is_character sign f.after) ≡ false
      → (first_is sign ks ≡ false) × IsOuter f.after (beside_after sign ks)

pub last_needs : (kind : LineKind) (closing : Option ℕ) (x : Inline) (so_far ks : List ℕ)
    → Ends closing (is_format x) ks → Needs (follows kind closing no_inlines) x so_far ks
last_needs kind closing x so_far ks e = record {
  follows = λ h. e.follows;
  no_end = λ h. e.no_end;
  no_grave = λ h. e.no_grave;
  well = λ h. e.well;
  beside = λ h sign i b n l. (e.no_sign sign i l, e.outer sign h i l);
}

pub no_break_after : (x y : Inline) → may_meet x y ≡ true → ends_with_space x ≡ true → is_break y ≡ false
no_break_after x y m h =
    let p = (and_parts _ (not (is_break x && begins_with_space y)) m).0 in
    let q = not-true (ends_with_space x && is_break y) (and_parts _ (not (ends_with_space x && is_break y)) p).1 in
    let r : true && is_break y ≡ false = ap (λ b. b && is_break y) (sym h) ∙ q in r

code_after : (x y : Inline) → may_meet x y ≡ true → is_code x ≡ true → is_code y ≡ false
code_after (text s) y m h = absurd (cc)
code_after (formatted f content) y m h = absurd (cc)
code_after (link a t content) y m h = absurd (cc)
code_after (image a t d) y m h = absurd (cc)
code_after (anchor i) y m h = absurd (cc)
code_after line_break y m h = absurd (cc)
code_after (task d) y m h = absurd (cc)
code_after (code s) (text t) m h = refl
code_after (code s) (code t) m h = absurd (cc)
code_after (code s) (formatted f content) m h = refl
code_after (code s) (link a t content) m h = refl
code_after (code s) (image a t d) m h = refl
code_after (code s) (anchor i) m h = refl
code_after (code s) line_break m h = refl
code_after (code s) (task d) m h = refl

break_after : (x y : Inline) → may_meet x y ≡ true → is_break x ≡ true
    → (is_break y ≡ false) × (begins_with_space y ≡ false)
break_after (text s) y m h = absurd (cc)
break_after (code s) y m h = absurd (cc)
break_after (formatted f content) y m h = absurd (cc)
break_after (link a t content) y m h = absurd (cc)
break_after (image a t d) y m h = absurd (cc)
break_after (anchor i) y m h = absurd (cc)
break_after (task d) y m h = absurd (cc)
break_after line_break (text s) m h = (refl, not-true (begins_with_space (text s)) m)
break_after line_break (code s) m h = (refl, refl)
break_after line_break (formatted f content) m h = (refl, refl)
break_after line_break (link a t content) m h = (refl, refl)
break_after line_break (image a t d) m h = (refl, refl)
break_after line_break (anchor i) m h = (refl, refl)
break_after line_break line_break m h = absurd (cc)
break_after line_break (task d) m h = (refl, refl)

text_after : (x y : Inline) → may_meet x y ≡ true → is_words x ≡ true → is_words y ≡ false
text_after (text s) y m h = no_two_texts s y m
text_after (code s) y m h = absurd (cc)
text_after (formatted f content) y m h = absurd (cc)
text_after (link a t content) y m h = absurd (cc)
text_after (image a t d) y m h = absurd (cc)
text_after (anchor i) y m h = absurd (cc)
text_after line_break y m h = absurd (cc)
text_after (task d) y m h = absurd (cc)

words_with_space : (x : Inline) → ends_with_space x ≡ true → is_words x ≡ true
words_with_space (text s) h = refl
words_with_space (code s) h = absurd (cc)
words_with_space (formatted f content) h = absurd (cc)
words_with_space (link a t content) h = absurd (cc)
words_with_space (image a t d) h = absurd (cc)
words_with_space (anchor i) h = absurd (cc)
words_with_space line_break h = absurd (cc)
words_with_space (task d) h = absurd (cc)

pub next_needs : (line : Line) (closing : Option ℕ) (x y : Inline) (rest : Inlines) (so_far ks : List ℕ)
    → may_meet x y ≡ true → Begins line so_far y ks
    → Needs (follows line.kind closing (inline y rest)) x so_far ks
next_needs line closing x y rest so_far ks m b = record {
  follows = λ h. b.follows (text_after x y m h);
  no_end = λ h. b.no_end (text_after x y m (words_with_space x h)) (no_break_after x y m h);
  no_grave = λ h. b.no_grave (code_after x y m h);
  well = λ h. let p = break_after x y m h in b.well p.0 p.1;
  beside = λ h sign i e n l. (
    b.no_sign sign i e n,
    subst (IsOuter (first_of line.kind y))
        (sym (test (sign == 126) (λ q. rw q refl) (λ q. rw q
        (ap first_character (no_tildes ks (b.no_tilde sign i e))))))
        b.outer,
  );
}
