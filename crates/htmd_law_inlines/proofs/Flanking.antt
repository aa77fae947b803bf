-- Where the writer lets a mark stand, the reader lets it open and close.
use Rattle.std.proofs.Common.{◌≡◌, ◌∙◌, refl, sym, ℕ, Bool, true, false, Option, Some, None, ◌<◌, arith}
use Rattle.std.specs.Prelude.{not, ◌&&◌, ◌||◌, ◌==◌, nat_lt}
use Rattle.std.specs.Char.{is_ascii_punctuation, is_ascii_whitespace}
use Rattle.std.proofs.lemmas.Bool.{and_parts, not-true, or_parts, and_from, or_right, lt-ltb, agree_below}
use Rattle.std.proofs.lemmas.Bool.{agree_below_at, ltb-true}
use Rattle.ucd_category.specs.GeneralCategory.{general_category}
use Rattle.ucd_category.specs.GeneralCategoryRows.{general_category_rows}
use Rattle.ucd_table.specs.Rows.{value_in}
use Rattle.unicode.specs.GeneralCategoryGroup.{in_group}
use Rattle.unicode.specs.declared.properties.GeneralCategoryGroup.TheVariants.{Punctuation, Symbol}
use Rattle.htmd_commonmark.specs.CharacterKinds.{is_space, is_word, is_apart}
use Rattle.htmd_commonmark.specs.CharacterKinds as writer
use Rattle.htmd_commonmark.specs.Marks.{can_stand, is_apart_there}
use Rattle.htmd_commonmark_reading.specs.Characters.{is_unicode_white, is_unicode_punctuation, is_space_separator}
use Rattle.htmd_commonmark_reading.specs.DelimiterRuns.{is_white_beside, is_punctuation_beside, is_left_flanking}
use Rattle.htmd_commonmark_reading.specs.DelimiterRuns.{may_open}
use Rattle.htmd_law_inlines.proofs.TextPieces.{test}
use Rattle.htmd_law_inlines.proofs.ReferencePieces.{is_small, no_escape}
use Rattle.htmd_law_inlines.proofs.CharacterPieces.{same_separator, no_punctuation}

-- ---- what the writer takes to be beside a mark, and what is

-- outside of the mark: what the writer takes to be apart is so
pub record IsOuter (guess real : Option ℕ) : Type 0 where
  pub apart : is_apart_there guess ≡ true → (is_white_beside real || is_punctuation_beside real) ≡ true

-- inside of it: what isn't white space to the writer isn't, and what is a word's character isn't punctuation
pub record IsInner (guess : ℕ) (real : Option ℕ) : Type 0 where
  pub no_space : is_space guess ≡ false → is_white_beside real ≡ false
  pub no_punctuation : is_word guess ≡ true → is_punctuation_beside real ≡ false

flanks : (word : Bool) (inner outer : Option ℕ) → is_white_beside inner ≡ false
    → (word ≡ true → is_punctuation_beside inner ≡ false)
    → (word ≡ false → (is_white_beside outer || is_punctuation_beside outer) ≡ true)
    → is_left_flanking outer inner ≡ true
flanks true inner outer h k l = rw (h, k refl) refl
flanks false inner outer h k l =
    test (is_punctuation_beside inner)
    (λ e. rw (h, e) (l refl)) (λ e. rw (h, e) refl)

opens_apart : (sign : ℕ) (outer inner : Option ℕ) → is_left_flanking outer inner ≡ true
    → ((sign == 95) ≡ true → (is_white_beside outer || is_punctuation_beside outer) ≡ true)
    → may_open sign outer inner ≡ true
opens_apart sign outer inner h k =
    test (sign == 95)
    (λ e. test (is_white_beside outer)
    (λ w. rw (h, e, w) refl)
    (λ w. let p : is_punctuation_beside outer ≡ true = rw w at (k e) in
    and_from (is_left_flanking outer inner) (not (sign == 95) || not (is_left_flanking inner outer) ||
    is_punctuation_beside outer) h
    (or_right (not (sign == 95) || not (is_left_flanking inner outer)) (is_punctuation_beside outer) p)))
    (λ e. rw (h, e) refl)

-- A mark that can stand there opens. It closes from the other side.
pub mark_opens : (sign guess : ℕ) (before outer inner : Option ℕ) → IsOuter before outer → IsInner guess inner
    → can_stand (Some guess) before ≡ true → ((sign == 95) ≡ true → is_apart_there before ≡ true)
    → may_open sign outer inner ≡ true
mark_opens sign guess before outer inner o i h u =
    let p = and_parts (not (is_space guess)) (is_word guess || is_apart_there before) h in
    opens_apart sign outer inner
    (flanks (is_word guess) inner outer (i.no_space (not-true (is_space guess) p.0)) i.no_punctuation
    (λ e. o.apart (rw e at p.1)))
    (λ e. o.apart (u e))

-- ---- the same character, and others of one class

white_is : (c : ℕ) → is_space c ≡ false → is_unicode_white c ≡ false
white_is c h =
    let e = or_parts (is_ascii_whitespace c) (writer.is_space_separator (general_category c)) h in
    test (nat_lt c 128) (λ x. rw x e.0) (λ x. rw x (same_separator (general_category c) ∙ e.1))

mark_is : (c : ℕ) → is_word c ≡ true → is_unicode_punctuation c ≡ false
mark_is c h =
    let a = or_parts (writer.is_space c || is_ascii_punctuation c || in_group Punctuation (general_category c))
    (in_group Symbol (general_category c)) (not-true _ h) in
    let b = or_parts (writer.is_space c || is_ascii_punctuation c) (in_group Punctuation (general_category c)) a.0 in
    let d = or_parts (writer.is_space c) (is_ascii_punctuation c) b.0 in
    test (nat_lt c 128) (λ x. rw x d.1) (λ x. rw (x, b.1) a.1)

pub inner_same : (c : ℕ) → IsInner c (Some c)
inner_same c = record { no_space = white_is c; no_punctuation = mark_is c }

punctuation_is : (d : ℕ) → is_ascii_punctuation d ≡ true → is_unicode_punctuation d ≡ true
punctuation_is d h = rw (lt-ltb d 128 (is_small d h)) h

-- two characters of ASCII punctuation are alike to marks
pub outer_punctuation : (guess : Option ℕ) (d : ℕ) → is_ascii_punctuation d ≡ true → IsOuter guess (Some d)
outer_punctuation guess d h =
    record { apart = λ e. or_right (is_white_beside (Some d)) (is_punctuation_beside (Some d)) (punctuation_is d h) }

pub outer_end : (guess : Option ℕ) → IsOuter guess None
outer_end guess = record { apart = λ e. refl }

pub inner_punctuation : (guess d : ℕ) → is_ascii_punctuation guess ≡ true → is_ascii_punctuation d ≡ true
    → IsInner guess (Some d)
inner_punctuation guess d h k = record {
  no_space = λ e. rw (lt-ltb d 128 (is_small d k)) (no_escape is_ascii_whitespace refl d k);
  no_punctuation = λ e. let x = no_punctuation guess e in absurd (cc);
}

-- of ASCII, what is apart by its general category is white space or ASCII punctuation
apart_of_ascii :
    agree_below (λ c. (writer.is_space_separator (general_category c) || in_group Punctuation (general_category c))
    && not (is_ascii_whitespace c || is_ascii_punctuation c)) (λ c. false) 128
    ≡ true
unfolding value_in general_category general_category_rows
apart_of_ascii = refl

outer_ascii : (c : ℕ) → (c < 128) → is_apart c ≡ true → (is_ascii_whitespace c || is_ascii_punctuation c)
    ≡ true
outer_ascii c l h =
    let t = agree_below_at (λ c. (writer.is_space_separator (general_category c) || in_group Punctuation
    (general_category c))
    && not (is_ascii_whitespace c || is_ascii_punctuation c)) (λ c. false) 128 c apart_of_ascii l in
    test (is_ascii_whitespace c) (λ x. rw x refl)
    (λ x. test (is_ascii_punctuation c) (λ y. rw (x, y) refl)
    (λ y. test (writer.is_space_separator (general_category c))
    (λ z. let q : true ≡ false = rw (x, y, z) at t in absurd (cc))
    (λ z. test (in_group Punctuation (general_category c))
    (λ v. let q : true ≡ false = rw (x, y, z, v) at t in absurd (cc))
    (λ v. let q : false ≡ true = rw (x, y, z, v) at h in absurd (cc)))))

white_is_small : (c : ℕ) → is_ascii_whitespace c ≡ true → c < 128
white_is_small c h = grind arith

outer_other : (c : ℕ) → nat_lt c 128 ≡ false → is_apart c ≡ true
    → (is_space_separator (general_category c) ||
    (in_group Punctuation (general_category c) || in_group Symbol (general_category c)))
    ≡ true
outer_other c l h =
    let w : is_ascii_whitespace c ≡ false =
    test (is_ascii_whitespace c) (λ x. let y = lt-ltb c 128 (white_is_small c x) in absurd (cc)) (λ x. x) in
    let p : is_ascii_punctuation c ≡ false =
    test (is_ascii_punctuation c) (λ x. let y = lt-ltb c 128 (is_small c x) in absurd (cc)) (λ x. x) in
    test (is_space_separator (general_category c)) (λ z. rw z refl)
    (λ z. test (in_group Punctuation (general_category c)) (λ v. rw (z, v) refl)
    (λ v. let y = sym (same_separator (general_category c)) ∙ z in
    let q : false ≡ true = rw (w, y, p, v) at h in absurd (cc)))

-- what is apart to the writer is white space or punctuation to the reader
pub outer_same : (c : ℕ) → IsOuter (Some c) (Some c)
outer_same c = record {
  apart = λ h.
      test (nat_lt c 128) (λ l. rw l (outer_ascii c (ltb-true c 128 l) h)) (λ l. rw l (outer_other c l h));
}
