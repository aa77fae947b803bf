-- Which references count at a place of a text, and where what follows stands.
use Rattle.std.proofs.Common.{◌≡◌, ℕ, Bool, true, false, ◌&&◌, List, [], ◌∷◌, Option, Some, None, refl, sym, ◌∙◌, codes}
use Rattle.std.proofs.Common.{arith}
use Rattle.std.specs.Prelude.{◌==◌, ◌||◌, if◌then◌else◌}
use Rattle.std.specs.Char.{is_ascii_alphabetic}
use Rattle.std.proofs.lemmas.Bool.{or_parts, true≢false}
use Rattle.std.proofs.lemmas.Bool.Decides.{nat_tests}
use Rattle.std.proofs.Math.Bool.{and-false}
use Rattle.htmd_lexical.proofs.Cases.{test}
use Rattle.htmd_lexical.specs.CharacterClasses.{begins_in_any_case, up_to}
use Rattle.htmd_grammar.specs.RawContent.{begins_markup}
use Rattle.htmd_grammar.proofs.TextLemmas.{run_head}
use Rattle.htmd_html5_tokens.specs.NamedReferences.{NamedReference, longest_old}
use Rattle.htmd_law_html5.specs.StrictReferences.{Place, outside, in_tag, after_title, is_in_tag, begins_letter}
use Rattle.htmd_law_html5.specs.StrictReferences.{place_of_tag, place_moved, place_after, counts, is_bare_reference}
use Rattle.htmd_law_html5.specs.StrictReferences.{has_bare_reference}

-- what counts at the second place counts at the first
abbrev pub covers : Place → Place → Bool
covers after_title p = true
covers outside outside = true
covers outside in_tag = true
covers outside after_title = false
covers in_tag in_tag = true
covers in_tag outside = false
covers in_tag after_title = false

pub covers_tag : (here : Place) → covers here in_tag ≡ true
covers_tag outside = refl
covers_tag _ = refl

pub covers_itself : (here : Place) → covers here here ≡ true
covers_itself outside = refl
covers_itself _ = refl

-- ---- what comes next

abbrev pub begins_title : List ℕ → Bool
begins_title s = begins_in_any_case (codes "title") s

tag_covered : (s t : List ℕ) → (begins_title t ≡ true → begins_title s ≡ true)
    → covers (place_of_tag s) (place_of_tag t) ≡ true
tag_covered s t f =
    test (begins_title s) (λ x. rw x refl)
    (λ x. test (begins_title t) (λ y. absurd (true≢false (sym (f y) ∙ x))) (λ y. rw (x, y) refl))

moved_covered : (q p : Place) (b : ℕ) (s t : List ℕ) → covers q p ≡ true → begins_letter s ≡ begins_letter t
    → (begins_title t ≡ true → begins_title s ≡ true)
    → covers (place_moved q b s) (place_moved p b t) ≡ true
moved_covered q p b s t c l f =
    test (b == 60) (λ x. test (begins_letter t) (λ y. rw (x, l, y) (tag_covered s t f)) (λ y. rw (x, l, y) past))
    (λ x. rw x past)
  where
    past : covers (if b == 62 then outside else q) (if b == 62 then outside else p) ≡ true
    past = test (b == 62) (λ z. rw z refl) (λ z. rw z c)

-- after the same byte too
pub place_covered : (q p : Place) (b : ℕ) (s t : List ℕ) → covers q p ≡ true
    → begins_letter s ≡ begins_letter t → (begins_title t ≡ true → begins_title s ≡ true)
    → covers (place_after q b s) (place_after p b t) ≡ true
place_covered after_title p b s t c l f = refl
place_covered outside outside b s t c l f = moved_covered outside outside b s t c l f
place_covered outside in_tag b s t c l f = moved_covered outside in_tag b s t c l f
place_covered outside after_title b s t c l f = absurd (true≢false (sym c))
place_covered in_tag in_tag b s t c l f = moved_covered in_tag in_tag b s t c l f
place_covered in_tag outside b s t c l f = absurd (true≢false (sym c))
place_covered in_tag after_title b s t c l f = absurd (true≢false (sym c))

-- ---- what counts

counts_less : (z : Bool) (o : Option NamedReference) (s : List ℕ) → counts false o s ≡ false
    → counts z o s ≡ false
counts_less z None s e = refl
counts_less z (Some r) s e = absurd (true≢false e)

bare_less : (z : Bool) (s : List ℕ) → is_bare_reference false s ≡ false → is_bare_reference z s ≡ false
bare_less z s e =
    test (counts false (longest_old s) s)
    (λ t. let w = rw t at e in rw w (and-false (counts z (longest_old s) s)))
    (λ t. rw (counts_less z (longest_old s) s t) refl)

pub bare_covered : (q p : Place) (s : List ℕ) → covers q p ≡ true → is_bare_reference (is_in_tag q) s ≡ false
    → is_bare_reference (is_in_tag p) s ≡ false
bare_covered after_title p s c e = bare_less (is_in_tag p) s e
bare_covered outside p s c e = bare_less (is_in_tag p) s e
bare_covered in_tag in_tag s c e = e
bare_covered in_tag outside s c e = absurd (true≢false (sym c))
bare_covered in_tag after_title s c e = absurd (true≢false (sym c))

pub covered : (q p : Place) (s : List ℕ) → covers q p ≡ true → has_bare_reference q s ≡ false
    → has_bare_reference p s ≡ false
covered q p [] c e = refl
covered q p (b ∷ s) c e =
    let k = or_parts (b == 38 && is_bare_reference (is_in_tag q) s) (has_bare_reference (place_after q b s) s) e in
    let i = covered (place_after q b s) (place_after p b s) s (place_covered q p b s s c refl (λ x. x)) k.1 in
    test (b == 38) (λ x. let w = rw x at k.0 in rw (x, bare_covered q p s c w, i) refl) (λ x. rw (x, i) refl)

-- ---- texts of one kind

-- in a text or a title, or in a value
abbrev pub has_bare_in : Bool → List ℕ → Bool
has_bare_in z [] = false
has_bare_in z (b ∷ s) = (b == 38 && is_bare_reference z s) || has_bare_in z s

pub in_title : (s : List ℕ) → has_bare_reference after_title s ≡ false → has_bare_in false s ≡ false
in_title [] e = refl
in_title (b ∷ s) e =
    let k = or_parts (b == 38 && is_bare_reference false s) (has_bare_reference after_title s) e in
    rw (k.0, in_title s k.1) refl

pub in_any_value : (here : Place) (s : List ℕ) → has_bare_reference here s ≡ false
    → has_bare_in true s ≡ false
in_any_value here [] e = refl
in_any_value here (b ∷ s) e =
    let k = or_parts (b == 38 && is_bare_reference (is_in_tag here) s)
    (has_bare_reference (place_after here b s) s) e in
    let i = in_any_value (place_after here b s) s k.1 in
    test (b == 38)
    (λ x. let w = rw x at k.0 in rw (x, bare_covered here in_tag s (covers_tag here) w, i) refl)
    (λ x. rw (x, i) refl)

-- no markup, no tag
no_tag : (b : ℕ) (s : List ℕ) → begins_markup (b ∷ s) ≡ false → (b == 60 && begins_letter s) ≡ false
no_tag b [] e = and-false (b == 60)
no_tag b (c ∷ s) e =
    test (b == 60) (λ t. rw t (letter c (rw t at e))) (λ t. rw t refl)
  where
    letter : (c : ℕ) → (is_ascii_alphabetic c || (c == 47) || (c == 33) || (c == 63)) ≡ false
        → is_ascii_alphabetic c ≡ false
    letter c e = grind (arith, nat_tests)

pub stays_outside : (b : ℕ) (s : List ℕ) → begins_markup (b ∷ s) ≡ false
    → place_after outside b s ≡ outside
stays_outside b s e = rw (no_tag b s e) (test (b == 62) (λ x. rw x refl) (λ x. rw x refl))

pub in_text : (s : List ℕ) → up_to begins_markup s ≡ s → has_bare_reference outside s ≡ false
    → has_bare_in false s ≡ false
in_text [] l e = refl
in_text (b ∷ s) l e =
    let h = run_head begins_markup b s l in
    let k = or_parts (b == 38 && is_bare_reference false s) (has_bare_reference (place_after outside b s) s) e in
    let w = rw (stays_outside b s h.0) at k.1 in
    rw (k.0, in_text s h.1 w) refl
