-- The characters beside a place, as the reader and the writer see them.
use Rattle.std.proofs.Common.{◌≡◌, ◌∙◌, refl, ap, sym, ℕ, ◌+◌, ◌<◌, ◌≤◌, true, false, List, [], ◌∷◌, ◌++◌, Some, arith}
use Rattle.std.specs.Prelude.{not, ◌||◌, ◌==◌, nat_lt, nat_le, slice_get, reverse, ◌/◌}
use Rattle.std.specs.List.{list_all}
use Rattle.std.specs.Str.{chars}
use Rattle.std.specs.Char.{is_ascii_punctuation, is_ascii_whitespace}
use Rattle.std.proofs.lemmas.Bool.{eqb-true, and_parts, not-true, or_parts, ltb-true, le-leb, lt-leb}
use Rattle.std.proofs.lemmas.Bool.{and_from, leb-true}
use Rattle.std.proofs.lemmas.List.{append-nil, reverse-append, reverse-reverse}
use Rattle.std.proofs.lemmas.Str.{chars-encodes}
use Rattle.unicode.specs.GeneralCategory.{general_category}
use Rattle.unicode.specs.declared.properties.GeneralCategory.{GeneralCategory}
use Rattle.unicode.specs.declared.properties.GeneralCategory.TheVariants.{SpaceSeparator}
use Rattle.unicode.specs.declared.properties.GeneralCategoryGroup.TheVariants.{Punctuation, Symbol}
use Rattle.unicode.specs.GeneralCategoryGroup.{in_group}
use Rattle.htmd_lexical.specs.CharacterClasses.{first_is, leading_run, behind_run}
use Rattle.htmd_commonmark.specs.CharacterKinds.{is_word}
use Rattle.htmd_commonmark.specs.CharacterKinds as writer
use Rattle.htmd_commonmark_reading.specs.Characters.{goes_on, first_character, last_character, last_bytes}
use Rattle.htmd_commonmark_reading.specs.Characters.{is_unicode_white, is_unicode_punctuation, is_space_separator}
use Rattle.htmd_commonmark_reading.specs.DelimiterRuns.{past_tildes, is_tilde}
use Rattle.htmd_law_inlines.proofs.Pieces.{pushed}
use Rattle.htmd_law_inlines.proofs.ReferencePieces.{is_small}
use Rattle.htmd_law_inlines.proofs.TextPieces.{test, differs, is_word_beside}
use lib.Utf8.{encode, scalar, next}

-- ---- the bytes of a character

pub record Shape (c : ℕ) (bytes : List ℕ) : Type 0 where
  pub lead : ℕ
  pub rest : List ℕ
  pub is : bytes ≡ lead ∷ rest
  pub begins : goes_on lead ≡ false
  pub goes : list_all goes_on rest ≡ true
  pub no_tilde : (c == 126) ≡ false → (lead == 126) ≡ false
  pub plain : is_ascii_punctuation c ≡ false → is_ascii_punctuation lead ≡ false

next_goes : (n : ℕ) → goes_on (next n) ≡ true
next_goes n = and_from (nat_le 128 (next n)) (nat_le (next n) 191) (le-leb 128 (next n) (omega arith))
    (le-leb (next n) 191 (omega arith))

low_begins : (n : ℕ) → n < 128 → goes_on n ≡ false
low_begins n h = rw (lt-leb 128 n h) refl

high_begins : (n : ℕ) → 192 ≤ n → goes_on n ≡ false
high_begins n h = Rattle.std.proofs.lemmas.Bool.and_right (nat_le 128 n) (nat_le n 191) (lt-leb n 191 (omega arith))

no_high_tilde : (n : ℕ) → 192 ≤ n → (n == 126) ≡ false
no_high_tilde n h = Rattle.std.proofs.lemmas.Bool.ne_eqb n 126 (λ e. absurd (omega arith))

no_high_mark : (n : ℕ) → 128 ≤ n → is_ascii_punctuation n ≡ false
no_high_mark n h = test (is_ascii_punctuation n) (λ e. let x = is_small n e in absurd (omega arith)) (λ e. e)

pub shape : (c : ℕ) → Shape c (encode c)
unfolding encode
shape c =
    test (nat_lt c 128)
    (λ e. record {
      lead = c;
      rest = [];
      is = rw e refl;
      begins = low_begins c (ltb-true c 128 e);
      goes = refl;
      no_tilde = λ h. h;
      plain = λ h. h;
    })
    (λ e. test (nat_lt c 2048)
    (λ f. record {
      lead = 192 + c / 64;
      rest = next c ∷ [];
      is = rw (e, f) refl;
      begins = high_begins (192 + c / 64) (omega arith);
      goes = rw (next_goes c) refl;
      no_tilde = λ h. no_high_tilde (192 + c / 64) (omega arith);
      plain = λ h. no_high_mark (192 + c / 64) (omega arith);
    })
    (λ f. test (nat_lt c 65536)
    (λ g. record {
      lead = 224 + c / 4096;
      rest = next (c / 64) ∷ next c ∷ [];
      is = rw (e, f, g) refl;
      begins = high_begins (224 + c / 4096) (omega arith);
      goes = rw (next_goes (c / 64), next_goes c) refl;
      no_tilde = λ h. no_high_tilde (224 + c / 4096) (omega arith);
      plain = λ h. no_high_mark (224 + c / 4096) (omega arith);
    })
    (λ g. record {
      lead = 240 + c / 262144;
      rest = next (c / 4096) ∷ next (c / 64) ∷ next c ∷ [];
      is = rw (e, f, g) refl;
      begins = high_begins (240 + c / 262144) (omega arith);
      goes = rw (next_goes (c / 4096), next_goes (c / 64), next_goes c) refl;
      no_tilde = λ h. no_high_tilde (240 + c / 262144) (omega arith);
      plain = λ h. no_high_mark (240 + c / 262144) (omega arith);
    })))

-- ---- the character after a place

goes_run : (s r : List ℕ) → list_all goes_on s ≡ true → (leading_run goes_on r ≡ [])
    → leading_run goes_on (s ++ r) ≡ s
goes_run [] r h k = k
goes_run (b ∷ s) r h k =
    let p = and_parts (goes_on b) (list_all goes_on s) h in rw p.0 (ap (λ l. b ∷ l) (goes_run s r p.1 k))

chars_one : (c : ℕ) → scalar c ≡ true → chars (encode c) ≡ c ∷ []
chars_one c h =
    ap chars (sym (append-nil (encode c))) ∙ chars-encodes (c ∷ []) (rw h refl)

pub first_is_character : (c : ℕ) (r : List ℕ) → scalar c ≡ true → leading_run goes_on r ≡ []
    → first_character (encode c ++ r) ≡ Some c
first_is_character c r h k =
    let s = shape c in
    ap (λ l. first_character (l ++ r)) s.is
    ∙ ap (λ l. slice_get (chars (s.lead ∷ l)) 0) (goes_run s.rest r s.goes k)
    ∙ ap (λ l. slice_get (chars l) 0) (sym s.is) ∙ ap (λ l. slice_get l 0) (chars_one c h)

-- ---- the character before a place

pushed_onto : (s y x : List ℕ) → pushed s (y ++ x) ≡ pushed s y ++ x
pushed_onto [] y x = refl
pushed_onto (c ∷ s) y x = pushed_onto s (c ∷ y) x

pub pushed_reverse : (s x : List ℕ) → pushed s x ≡ reverse s ++ x
pushed_reverse s x = pushed_onto s [] x

bytes_pushed : (s x : List ℕ) → list_all goes_on s ≡ true → last_bytes (pushed s x) ≡ pushed s (last_bytes x)
bytes_pushed [] x h = refl
bytes_pushed (b ∷ s) x h =
    let p = and_parts (goes_on b) (list_all goes_on s) h in
    bytes_pushed s (b ∷ x) p.1 ∙ ap (pushed s) (rw p.0 refl)

pub last_is_character : (c : ℕ) (before : List ℕ) → scalar c ≡ true
    → last_character (pushed (encode c) before) ≡ Some c
last_is_character c before h =
    let s = shape c in
    ap (λ l. last_character (pushed l before)) s.is
    ∙ ap (λ l. first_character (reverse l))
    (bytes_pushed s.rest (s.lead ∷ before) s.goes ∙ ap (pushed s.rest) (rw s.begins refl)
    ∙ pushed_reverse s.rest (s.lead ∷ []))
    ∙ ap first_character (reverse-append (reverse s.rest) (s.lead ∷ [])
    ∙ ap (λ l. s.lead ∷ l) (reverse-reverse s.rest) ∙ sym s.is
    ∙ sym (append-nil (encode c)))
    ∙ first_is_character c [] h refl

-- ---- characters of words

pub same_separator : (g : GeneralCategory) → is_space_separator g ≡ writer.is_space_separator g
same_separator SpaceSeparator = refl
same_separator _ = refl

-- what is a word's character to the writer is neither white space nor punctuation to the reader
pub word_is : (c : ℕ) → is_word c ≡ true → is_word_beside (Some c) ≡ true
word_is c h =
    let a = or_parts (writer.is_space c || is_ascii_punctuation c || in_group Punctuation (general_category c))
    (in_group Symbol (general_category c)) (not-true _ h) in
    let b = or_parts (writer.is_space c || is_ascii_punctuation c) (in_group Punctuation (general_category c)) a.0 in
    let d = or_parts (writer.is_space c) (is_ascii_punctuation c) b.0 in
    let e = or_parts (is_ascii_whitespace c) (writer.is_space_separator (general_category c)) d.0 in
    let w : is_unicode_white c ≡ false =
    test (nat_lt c 128) (λ x. rw x e.0) (λ x. rw x (same_separator (general_category c) ∙ e.1)) in
    let p : is_unicode_punctuation c ≡ false =
    test (nat_lt c 128) (λ x. rw x d.1) (λ x. rw (x, b.1) a.1) in
    rw (w, p) refl

-- a word's character is no tilde
pub no_tilde : (c : ℕ) → is_word c ≡ true → (c == 126) ≡ false
no_tilde c h =
    let a = or_parts (writer.is_space c || is_ascii_punctuation c || in_group Punctuation (general_category c))
    (in_group Symbol (general_category c)) (not-true _ h) in
    let b = or_parts (writer.is_space c || is_ascii_punctuation c) (in_group Punctuation (general_category c)) a.0 in
    let d = or_parts (writer.is_space c) (is_ascii_punctuation c) b.0 in
    test (c == 126) (λ e. let x = ap is_ascii_punctuation (eqb-true c 126 e) in let y = d.1 in absurd (cc)) (λ e. e)

pub no_punctuation : (c : ℕ) → is_word c ≡ true → is_ascii_punctuation c ≡ false
no_punctuation c h =
    let a = or_parts (writer.is_space c || is_ascii_punctuation c || in_group Punctuation (general_category c))
    (in_group Symbol (general_category c)) (not-true _ h) in
    let b = or_parts (writer.is_space c || is_ascii_punctuation c) (in_group Punctuation (general_category c)) a.0 in
    (or_parts (writer.is_space c) (is_ascii_punctuation c) b.0).1

-- ---- past tildes

pub no_tildes : (u : List ℕ) → first_is 126 u ≡ false → behind_run is_tilde u ≡ u
no_tildes [] h = refl
no_tildes (c ∷ u) h = rw h refl

pub tilde_pushed : (s x : List ℕ) → list_all goes_on s ≡ true → first_is 126 x ≡ false
    → first_is 126 (pushed s x) ≡ false
tilde_pushed [] x h k = k
tilde_pushed (b ∷ s) x h k =
    let p = and_parts (goes_on b) (list_all goes_on s) h in
    tilde_pushed s (b ∷ x) p.1 (differs goes_on b 126 p.0 refl)

-- a word's character beside a row of underscores, on either side
pub word_before : (c : ℕ) (before : List ℕ) → scalar c ≡ true → is_word c ≡ true
    → is_word_beside (last_character (past_tildes 95 (pushed (encode c) before))) ≡ true
word_before c before h k =
    let s = shape c in
    ap (λ u. is_word_beside (last_character u))
    (no_tildes (pushed (encode c) before)
    (ap (λ l. first_is 126 (pushed l before)) s.is
    ∙ tilde_pushed s.rest (s.lead ∷ before) s.goes (s.no_tilde (no_tilde c k))))
    ∙ ap is_word_beside (last_is_character c before h) ∙ word_is c k

pub word_after : (c : ℕ) (r : List ℕ) → scalar c ≡ true → is_word c ≡ true → leading_run goes_on r ≡ []
    → is_word_beside (first_character (past_tildes 95 (encode c ++ r))) ≡ true
word_after c r h k l =
    let s = shape c in
    ap (λ u. is_word_beside (first_character u))
    (no_tildes (encode c ++ r) (ap (λ x. first_is 126 (x ++ r)) s.is ∙ s.no_tilde (no_tilde c k)))
    ∙ ap is_word_beside (first_is_character c r h l) ∙ word_is c k

-- no byte of a word's character is punctuation
goes_plain : (s : List ℕ) → list_all goes_on s ≡ true → list_all (λ b. not (is_ascii_punctuation b)) s ≡ true
goes_plain [] h = refl
goes_plain (b ∷ s) h =
    let p = and_parts (goes_on b) (list_all goes_on s) h in
    let q = (and_parts (nat_le 128 b) (nat_le b 191) p.0).0 in
    and_from (not (is_ascii_punctuation b)) (list_all (λ b. not (is_ascii_punctuation b)) s)
    (ap not (no_high_mark b (leb-true 128 b q))) (goes_plain s p.1)

pub plain_encode : (c : ℕ) → is_ascii_punctuation c ≡ false
    → list_all (λ b. not (is_ascii_punctuation b)) (encode c) ≡ true
plain_encode c h =
    let s = shape c in
    ap (list_all (λ b. not (is_ascii_punctuation b))) s.is
    ∙ and_from (not (is_ascii_punctuation s.lead)) (list_all (λ b. not (is_ascii_punctuation b)) s.rest)
    (ap not (s.plain h)) (goes_plain s.rest s.goes)

pub plain_bytes : (c : ℕ) → is_word c ≡ true → list_all (λ b. not (is_ascii_punctuation b)) (encode c) ≡ true
plain_bytes c h = plain_encode c (no_punctuation c h)
