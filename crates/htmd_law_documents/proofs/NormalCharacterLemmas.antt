-- Characters of normal documents: words of leaves, and white space between them.
use Rattle.std.proofs.Common.{◌≡◌, ℕ, ◌≤◌, Bool, true, false, not, ◌&&◌, ◌||◌, cond}
use Rattle.std.proofs.Common.{List, [], ◌∷◌, ◌++◌, refl, sym, ap, ◌∙◌, arith, subst}
use Rattle.std.specs.Prelude.{encode_utf8, ◌==◌}
use Rattle.std.specs.List.{list_all}
use Rattle.std.specs.Str.{IsUtf8, is_utf8, chars}
use Rattle.std.proofs.Math.Utf8.{scalar}
use Rattle.std.proofs.lemmas.Bool.Decides.{nat_tests}
use Rattle.std.proofs.lemmas.List.{append-nil}
use Rattle.std.proofs.lemmas.Str.{is_utf8-from_IsUtf8, chars-encodes, chars-nil}
use Rattle.htmd_lexical.specs.Characters.{space, null}
use Rattle.htmd_lexical.specs.CharacterClasses.{first_is, is_empty}
use Rattle.htmd_lexical.specs.WhiteSpace.{is_ascii_white_space}
use Rattle.htmd_lexical.proofs.Cases.{test}
use Rattle.htmd_flow.specs.Nesting.{text_or_code}
use Rattle.htmd_shown.specs.Spaces.{Gap, is_white, is_wide_space, shown_white, ends_with_space, spaced}
use Rattle.htmd_document.specs.NormalInlines.{is_line_byte, is_line, has_double_space, is_text}
use Rattle.htmd_law_documents.proofs.VisibleLemmas.{both-true}
use Rattle.htmd_law_documents.proofs.NormalTextLemmas.{and-true, and-false, or-false, from-not}
use Rattle.htmd_law_documents.proofs.NormalTextLemmas.{encode-passes, line-append, double-append}
use Rattle.htmd_law_documents.proofs.NormalTextLemmas.{to-text}
use Rattle.htmd_law_documents.proofs.NormalLeafLemmas.{IsWord, IsLeaf}
use lib.Utf8.{encode}

-- neither a space nor what a text can't hold
abbrev pub is_solid : ℕ → Bool
is_solid b = is_line_byte b && not (b == space)

solid-wide : (b : ℕ) → 128 ≤ b → is_solid b ≡ true
solid-wide b l = grind (arith, nat_tests)

wide-large : (c : ℕ) → is_wide_space c ≡ true → 128 ≤ c
wide-large c e = grind (arith, nat_tests)

solid-black : (c : ℕ) → is_white c ≡ false → (c == null) ≡ false → is_solid c ≡ true
solid-black c e n = grind (arith, nat_tests)

encode-filled : (c : ℕ) → scalar c ≡ true → is_empty (encode_utf8 c) ≡ false
encode-filled c h = some (encode_utf8 c) (ap (λ t. chars t) (sym (append-nil (encode_utf8 c)))
    ∙ chars-encodes (c ∷ []) (ap (λ b. b && true) h))
  where
    some : (s : List ℕ) → chars s ≡ c ∷ [] → is_empty s ≡ false
    some [] e = absurd (clash (sym chars-nil ∙ e))
      where
        clash : [] ≡ c ∷ [] → ⊥
        clash p = (cc)
    some (b ∷ s) e = refl

encode-utf8 : (c : ℕ) → scalar c ≡ true → IsUtf8 (encode_utf8 c)
encode-utf8 c h = (c ∷ [], (ap (λ b. b && true) h, append-nil (encode_utf8 c)))

-- ---- solid texts

solid-plain : (s : List ℕ) → list_all is_solid s ≡ true → list_all is_line_byte s ≡ true
solid-plain [] h = refl
solid-plain (b ∷ s) h =
    let parts = both-true (is_solid b) (list_all is_solid s) h in
    and-true (both-true (is_line_byte b) (not (b == space)) parts.0).0 (solid-plain s parts.1)

solid-no_space : (b : ℕ) → is_solid b ≡ true → (b == space) ≡ false
solid-no_space b h = from-not (b == space) (both-true (is_line_byte b) (not (b == space)) h).1

pub solid-single : (s : List ℕ) → list_all is_solid s ≡ true → has_double_space s ≡ false
solid-single [] h = refl
solid-single (b ∷ s) h =
    let parts = both-true (is_solid b) (list_all is_solid s) h in
    or-false (ap (λ c. c && first_is space s) (solid-no_space b parts.0)) (solid-single s parts.1)

pub solid-begins : (s : List ℕ) → list_all is_solid s ≡ true → first_is space s ≡ false
solid-begins [] h = refl
solid-begins (b ∷ s) h = solid-no_space b (both-true (is_solid b) (list_all is_solid s) h).0

pub solid-ends : (s : List ℕ) → list_all is_solid s ≡ true → ends_with_space s ≡ false
solid-ends [] h = refl
solid-ends (b ∷ []) h = solid-no_space b (both-true (is_solid b) true h).0
solid-ends (b ∷ c ∷ s) h = solid-ends (c ∷ s) (both-true (is_solid b) (list_all is_solid (c ∷ s)) h).1

solid-line : (s : List ℕ) → IsUtf8 s → list_all is_solid s ≡ true → is_line s ≡ true
solid-line s u h = and-true (is_utf8-from_IsUtf8 s u) (solid-plain s h)

character-solid : (c : ℕ) → is_solid c ≡ true → list_all is_solid (encode_utf8 c) ≡ true
character-solid c h = encode-passes is_solid solid-wide c h

-- a character that is no white space
pub character-word : (c : ℕ) → scalar c ≡ true → is_white c ≡ false → (c == null) ≡ false
    → IsWord (encode_utf8 c)
character-word c h w n =
    let s : List ℕ = encode_utf8 c in
    let all : list_all is_solid s ≡ true = character-solid c (solid-black c w n) in
    record {
      text = to-text s (record {
        line = solid-line s (encode-utf8 c h) all;
        some = encode-filled c h;
        single = solid-single s all;
      });
      begins = solid-begins s all;
      ends = solid-ends s all;
    }

pub word-leaf : (k : Bool) (s : List ℕ) → IsWord s → IsLeaf k (text_or_code k s)
word-leaf true s h = (refl, h)
word-leaf false s h = (refl, h)

-- ---- white space

-- white space between leaves: one line, with single spaces
pub record IsWhite (s : List ℕ) : Type 0 where
  pub line : is_line s ≡ true
  pub single : has_double_space s ≡ false

pub white-none : IsWhite []
unfolding chars is_utf8
white-none = record { line = refl; single = refl }

pub white-text : (b : ℕ) (s : List ℕ) → IsWhite (b ∷ s) → is_text (b ∷ s) ≡ true
white-text b s h = to-text (b ∷ s) (record { line = h.line; some = refl; single = h.single })

space-white : IsWhite (space ∷ [])
unfolding chars is_utf8 encode
space-white = record { line = refl; single = refl }

white-append : (s t : List ℕ) → IsWhite s → is_line t ≡ true → has_double_space t ≡ false
    → (ends_with_space s && first_is space t) ≡ false → IsWhite (s ++ t)
white-append s t h l d e = record {
  line = line-append s t h.line l;
  single = double-append s t h.single d e;
}

wide-append : (s : List ℕ) (c : ℕ) → IsWhite s → scalar c ≡ true → is_wide_space c ≡ true
    → IsWhite (s ++ encode_utf8 c)
wide-append s c h u w =
    let all : list_all is_solid (encode_utf8 c) ≡ true = character-solid c (solid-wide c (wide-large c w)) in
    white-append s (encode_utf8 c) h (solid-line (encode_utf8 c) (encode-utf8 c u) all)
    (solid-single (encode_utf8 c) all)
    (and-false (ends_with_space s) (solid-begins (encode_utf8 c) all))

space-append : (s : List ℕ) → IsWhite s → ends_with_space s ≡ false → IsWhite (s ++ encode_utf8 space)
unfolding encode chars is_utf8
space-append s h e = white-append s (space ∷ []) h refl refl (ap (λ b. b && true) e)

-- with one more white space
pub white-spaced : (g : Gap) (c : ℕ) (k : Bool) → IsWhite g.white → scalar c ≡ true → is_white c ≡ true
    → IsWhite (spaced g c k).white
white-spaced g c k h u w =
    let new : List ℕ = g.white ++ encode_utf8 (shown_white c) in
    let both : Gap = record g { white = new; is_code = g.is_code && k } in
    test (is_ascii_white_space c)
    (λ a. test (ends_with_space g.white)
    (λ e. subst (λ (b : Bool). IsWhite (cond b g both).white) (sym (and-true a e)) h)
    (λ e. subst (λ (b : Bool). IsWhite (cond b g both).white) (sym (and-false (is_ascii_white_space c) e))
    (subst (λ (b : Bool). IsWhite (g.white ++ encode_utf8 (cond b space c))) (sym a) (space-append g.white h e))))
    (λ a. subst (λ (b : Bool). IsWhite (cond b g both).white) (sym (ap (λ b. b && ends_with_space g.white) a))
    (subst (λ (b : Bool). IsWhite (g.white ++ encode_utf8 (cond b space c))) (sym a)
    (wide-append g.white c h u (sym (ap (λ b. b || is_wide_space c) a) ∙ w))))

-- a task is followed by one space
pub space-text : is_text (space ∷ []) ≡ true
space-text = white-text space [] space-white
