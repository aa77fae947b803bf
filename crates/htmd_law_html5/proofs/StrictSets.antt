-- Which names a set has, and what plain names are none of.
use Rattle.std.proofs.Common.{◌≡◌, ℕ, Bool, true, false, not, ◌||◌, List, [], ◌∷◌, refl, sym, codes}
use Rattle.std.proofs.lemmas.Bool.{and_parts, not-true}
use Rattle.htmd_lexical.proofs.Cases.{test}
use Rattle.htmd_lexical.specs.CharacterClasses.{is_among}
use Rattle.htmd_lexical.proofs.BytesLemmas.{same_bytes, bytes_same}
use Rattle.htmd_grammar.proofs.NestingLemmas.{one_name, among_passes}
use Rattle.htmd_grammar.specs.RawContent.{drops_line_feed, holds_text_alone}
use Rattle.htmd_values.specs.Serialisation.{is_void, void_elements}
use Rattle.htmd_values.specs.ValueTrees.{ValueForest}
use Rattle.htmd_grammar.specs.Grammar.{begins_with_row}
use Rattle.htmd_grammar.specs.Nesting.{is_tbody}
use Rattle.htmd_lexical.specs.declared.content_model.ContentModel.TheVariants.{Normal}
use Rattle.htmd_html5_state.specs.Names.{known, html, spelling}
use Rattle.htmd_html5_state.specs.Sets.{is_of}
use Rattle.htmd_html5_state.specs.declared.names.TagName.{TagName}
use Rattle.htmd_html5_state.specs.declared.sets.NameSet.TheVariants.{Only, Headings, DescriptionParts}
use Rattle.htmd_law_html5.specs.StrictTrees.{heading_names, is_plain_name, is_plain_element, text_names}
use Rattle.htmd_law_html5.specs.StrictTrees.{table_names, is_plain_body}
use Rattle.htmd_law_html5.specs.StrictTokens.{content_in, is_set_aside, may_be_implied}
use Rattle.htmd_law_html5.proofs.StrictRawTexts.{is_name}
use Rattle.htmd_law_html5.proofs.StrictOpen.{HasNames, has_names}
use Rattle.htmd_html5_state.specs.declared.names.TagName.TheVariants as tags

-- ---- names of sets

-- that with one name has its spelling
pub one_spelled : (one : TagName) → HasNames (Only one) (spelling one ∷ [])
one_spelled one =
    has_names (Only one) (spelling one ∷ [])
    (λ tag e. rw (sym (same_bytes (spelling one) (spelling tag) e), bytes_same (spelling one)) refl)

pub part_names : HasNames DescriptionParts (codes "dd" ∷ codes "dt" ∷ [])
part_names = has_names DescriptionParts (codes "dd" ∷ codes "dt" ∷ []) by_tag
  where
    by_tag : (tag : TagName) → is_of DescriptionParts (html (known tag)) ≡ true
        → is_among (codes "dd" ∷ codes "dt" ∷ []) (spelling tag) ≡ true
    by_tag tags.Dd e = refl
    by_tag _ e = cc

pub heading_has : HasNames Headings heading_names
heading_has = has_names Headings heading_names by_tag
  where
    by_tag : (tag : TagName) → is_of Headings (html (known tag)) ≡ true → is_among heading_names
        (spelling tag) ≡ true
    by_tag tags.H1 e = refl
    by_tag _ e = cc

-- ---- no plain name is that of an element that holds only text

pub plain_content : (z : Bool) (n : List ℕ) → is_plain_name n ≡ true → content_in z n ≡ Normal
plain_content z n e =
    is_name n (codes "title") (λ t. absurd (let w = rw t at e in cc))
    (λ a. is_name n (codes "textarea") (λ t. absurd (let w = rw t at e in cc))
    (λ b. is_name n (codes "style") (λ t. absurd (let w = rw t at e in cc))
    (λ c. is_name n (codes "script") (λ t. absurd (let w = rw t at e in cc))
    (λ d. is_name n (codes "xmp") (λ t. absurd (let w = rw t at e in cc))
    (λ f. is_name n (codes "iframe") (λ t. absurd (let w = rw t at e in cc))
    (λ g. is_name n (codes "noembed") (λ t. absurd (let w = rw t at e in cc))
    (λ h. is_name n (codes "noframes") (λ t. absurd (let w = rw t at e in cc))
    (λ i. is_name n (codes "plaintext") (λ t. absurd (let w = rw t at e in cc))
    (λ j. is_name n (codes "noscript") (λ t. absurd (let w = rw t at e in cc))
    (λ k. rw (a, b, c, d, f, g, h, i, j, k) refl))))))))))

aside_name : (n : List ℕ) → is_plain_name n ≡ true → is_set_aside n ≡ false
aside_name n e =
    is_name n (codes "textarea") (λ t. absurd (let w = rw t at e in cc))
    (λ a. is_name n (codes "script") (λ t. absurd (let w = rw t at e in cc))
    (λ b. rw (a, b) refl))

void_aside : (n : List ℕ) → is_void n ≡ true → not (is_set_aside n) ≡ true
unfolding is_void
void_aside n v = among_passes (λ m. not (is_set_aside m)) void_elements n v refl

-- elements that hold only text
pub text_aside : (n : List ℕ) → is_among text_names n ≡ true → is_set_aside n ≡ false
text_aside n e = not-true (is_set_aside n) (among_passes (λ m. not (is_set_aside m)) text_names n e refl)

pub text_keeps : (n : List ℕ) → is_among text_names n ≡ true → drops_line_feed n ≡ false
text_keeps n e = not-true (drops_line_feed n) (among_passes (λ m. not (drops_line_feed m)) text_names n e refl)

pub text_alone : (z : Bool) (n : List ℕ) → is_among text_names n ≡ true → holds_text_alone z n ≡ true
text_alone z n e = among_passes (holds_text_alone z) text_names n e refl

aside_element : (n : List ℕ) → is_plain_element n ≡ true → is_set_aside n ≡ false
aside_element n e =
    test (is_void n) (λ v. not-true (is_set_aside n) (void_aside n v))
    (λ v. let w = rw v at e in
    test (is_plain_name n) (λ t. aside_name n t)
    (λ t. let x = rw t at w in
    test (is_among (codes "pre" ∷ []) n) (λ y. rw (one_name (codes "pre") n y) refl)
    (λ y. let u = rw y at x in
    test (is_among text_names n) (λ k. text_aside n k)
    (λ k. not-true (is_set_aside n) (among_passes (λ m. not (is_set_aside m)) table_names n (rw k at u) refl)))))

element_spelled : (n : List ℕ) (children : ValueForest) → is_plain_element n ≡ true
    → may_be_implied n children ≡ false
unfolding is_void
element_spelled n children e =
    test (is_tbody n) (λ t. absurd (let w = rw (one_name (codes "tbody") n t) at e in cc)) (λ t. rw t refl)

-- a plain element is simple by itself
pub plain_aside : (n : List ℕ) (children : ValueForest)
    → (is_plain_element n || is_plain_body n children) ≡ true
    → (is_set_aside n ≡ false) × (may_be_implied n children ≡ false)
plain_aside n children e =
    test (is_plain_element n) (λ t. (aside_element n t, element_spelled n children t))
    (λ t. let b = and_parts (is_tbody n) (not (begins_with_row children)) (rw t at e) in (
      rw (one_name (codes "tbody") n b.0) refl,
      rw (b.0, not-true (begins_with_row children) b.1) refl,
    ))

-- and none drops a line feed
pub keeps_name : (n : List ℕ) → is_plain_name n ≡ true → drops_line_feed n ≡ false
keeps_name n e =
    is_name n (codes "pre") (λ t. absurd (let w = rw t at e in cc))
    (λ a. is_name n (codes "textarea") (λ t. absurd (let w = rw t at e in cc)) (λ b. rw (a, b) refl))

no_void_drops : (n : List ℕ) → is_void n ≡ true → not (drops_line_feed n) ≡ true
unfolding is_void
no_void_drops n v = among_passes (λ m. not (drops_line_feed m)) void_elements n v refl

pub void_keeps : (n : List ℕ) → is_void n ≡ true → drops_line_feed n ≡ false
void_keeps n v = not-true (drops_line_feed n) (no_void_drops n v)
