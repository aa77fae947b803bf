-- The attributes of parts of tables: a page keeps them, and they say nothing else.
use Rattle.std.proofs.Common.{◌≡◌, ℕ, Bool, true, false, ◌&&◌, ◌||◌, List, [], ◌∷◌, Option}
use Rattle.std.proofs.Common.{Some, None, codes}
use Rattle.std.proofs.Common.{refl, sym, ap, ◌∙◌}
use Rattle.std.specs.List.{list_any}
use Rattle.std.specs.Option.{unwrap_or}
use Rattle.std.specs.Str.{bytes_eq}
use Rattle.std.proofs.lemmas.Bool.{and_parts}
use Rattle.htmd_lexical.specs.AttributePairs.{AttributePair}
use Rattle.htmd_lexical.proofs.BytesLemmas.{same_bytes}
use Rattle.htmd_document.specs.Documents.{BlockAttribute}
use Rattle.htmd_document.specs.declared.document.AttributeName.{AttributeName}
use Rattle.htmd_document.specs.declared.document.AttributeName.TheVariants as attribute
use Rattle.htmd_document.specs.Tags.{attribute_name}
use Rattle.htmd_flow.specs.Languages.{near_languages}
use Rattle.htmd_shown.specs.Attributes.{value_of, words}
use Rattle.htmd_shown.specs.ClassWords.{has_class, katex_words, wiki_words}
use Rattle.htmd_shown.specs.ClassWords.{katex_source_words, wiki_source_words}
use Rattle.htmd_shown.specs.Repeats.{is_copied}
use Rattle.htmd_shown.specs.Roles.{is_among}
use Rattle.htmd_shown.specs.Shown.{is_for_layout, begins_with_layout}
use Rattle.htmd_law_rendering.specs.RenderedTrees.{pairs_of_element}
use Rattle.htmd_law_returning.specs.SettledTables.{is_same_name, are_same}
use Rattle.htmd_law_returning.proofs.BareLemmas.{has_no_name}
use Rattle.htmd_law_returning.proofs.StartLemmas.{false-true}

-- ---- the same attributes

same-name : (a b : AttributeName) → is_same_name a b ≡ true → a ≡ b
same-name attribute.Open attribute.Open h = refl
same-name attribute.Border attribute.Border h = refl
same-name attribute.ColumnSpan attribute.ColumnSpan h = refl
same-name attribute.RowSpan attribute.RowSpan h = refl
same-name attribute.Align attribute.Align h = refl
same-name a b h = false-true h

same-one : (a b : BlockAttribute) → (is_same_name a.name b.name && bytes_eq a.value b.value) ≡ true → a ≡ b
same-one a b h =
    let parts = and_parts (is_same_name a.name b.name) (bytes_eq a.value b.value) h in
    let first : a.name ≡ b.name = same-name a.name b.name parts.0 in
    let second : a.value ≡ b.value = same_bytes a.value b.value parts.1 in
    ap (λ n. record { name = n; value = a.value }) first ∙ ap (λ v. record { name = b.name; value = v }) second

pub same-attributes : (xs ys : List BlockAttribute) → are_same xs ys ≡ true → xs ≡ ys
same-attributes [] [] h = refl
same-attributes [] (b ∷ ys) h = false-true h
same-attributes (a ∷ xs) [] h = false-true h
same-attributes (a ∷ xs) (b ∷ ys) h =
    let parts = and_parts (is_same_name a.name b.name && bytes_eq a.value b.value) (are_same xs ys) h in
    ap (λ c. c ∷ xs) (same-one a b parts.0) ∙ ap (λ zs. b ∷ zs) (same-attributes xs ys parts.1)

-- ---- what they don't say

-- none of the names that parts have
abbrev is_other : List ℕ → Bool
is_other key =
    ((bytes_eq (codes "open") key || bytes_eq (codes "border") key)
    || (bytes_eq (codes "colspan") key || bytes_eq (codes "rowspan") key))
    || bytes_eq (codes "align") key

either : (a b : Bool) → (a || b) ≡ false → (a ≡ false) × (b ≡ false)
either true b h = false-true (sym h)
either false b h = (refl, h)

other-name : (key : List ℕ) (a : AttributeName) → is_other key ≡ false
    → bytes_eq (attribute_name a) key ≡ false
other-name key a h =
    let opens : Bool = bytes_eq (codes "open") key in
    let border : Bool = bytes_eq (codes "border") key in
    let columns : Bool = bytes_eq (codes "colspan") key in
    let rows : Bool = bytes_eq (codes "rowspan") key in
    let all = either ((opens || border) || (columns || rows)) (bytes_eq (codes "align") key) h in
    let four = either (opens || border) (columns || rows) all.0 in
    let front = either opens border four.0 in
    let back = either columns rows four.1 in
    named a front.0 front.1 back.0 back.1 all.1
  where
    named : (n : AttributeName) → bytes_eq (codes "open") key ≡ false → bytes_eq (codes "border") key ≡ false
        → bytes_eq (codes "colspan") key ≡ false → bytes_eq (codes "rowspan") key ≡ false
        → bytes_eq (codes "align") key ≡ false → bytes_eq (attribute_name n) key ≡ false
    named attribute.Open o b c r e = o
    named attribute.Border o b c r e = b
    named attribute.ColumnSpan o b c r e = c
    named attribute.RowSpan o b c r e = r
    named attribute.Align o b c r e = e

other-value : (key : List ℕ) (attributes : List BlockAttribute) → is_other key ≡ false
    → value_of key (pairs_of_element attributes) ≡ None
other-value key [] h = refl
other-value key (a ∷ rest) h = rw (other-name key a.name h) (other-value key rest h)

pub classless : (names : List (List ℕ)) (attributes : List BlockAttribute)
    → has_class names (pairs_of_element attributes) ≡ false
classless names attributes =
    ap (λ o. list_any (is_among names) (words (unwrap_or o []))) (other-value (codes "class") attributes refl)

pub nameless : (attributes : List BlockAttribute) → has_no_name (pairs_of_element attributes) ≡ true
nameless attributes =
    rw (other-value (codes "id") attributes refl, other-value (codes "name") attributes refl) refl

-- so no language
pub silent : (attributes : List BlockAttribute) → near_languages (pairs_of_element attributes) ≡ []
silent attributes =
    rw (
      other-value (codes "class") attributes refl,
      other-value (codes "data-lang") attributes refl,
      other-value (codes "data-language") attributes refl,
      other-value (codes "data-code-language") attributes refl,
    ) refl

pub layoutless : (attributes : List BlockAttribute) → is_for_layout (pairs_of_element attributes) ≡ false
layoutless attributes =
    ap (λ o. begins_with_layout (words (unwrap_or o []))) (other-value (codes "role") attributes refl)

pub uncopied : (before : Option (List AttributePair)) (attributes : List BlockAttribute)
    → is_copied before (pairs_of_element attributes) ≡ false
uncopied None attributes = refl
uncopied (Some b) attributes =
    ap (λ x. (x && has_class katex_source_words b)
    || (has_class wiki_words (pairs_of_element attributes) && has_class wiki_source_words b))
    (classless katex_words attributes)
    ∙ ap (λ x. x && has_class wiki_source_words b) (classless wiki_words attributes)
