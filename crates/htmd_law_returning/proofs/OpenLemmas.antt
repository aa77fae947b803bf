-- The attributes of a `details`: it is open, or has none.
use Rattle.std.proofs.Common.{◌≡◌, ℕ, true, false, ◌&&◌, List, [], ◌∷◌, Option, Some, None, refl}
use Rattle.htmd_lexical.specs.AttributePairs.{AttributePair}
use Rattle.htmd_lexical.specs.CharacterClasses.{is_empty}
use Rattle.htmd_document.specs.Documents.{BlockAttribute}
use Rattle.htmd_document.specs.declared.document.AttributeName.{AttributeName}
use Rattle.htmd_document.specs.declared.document.AttributeName.TheVariants as attribute
use Rattle.htmd_flow.specs.RichNodes.{open_attribute}
use Rattle.htmd_shown.specs.ClassWords.{has_class, mathjax_words}
use Rattle.htmd_shown.specs.Repeats.{is_copied}
use Rattle.htmd_law_rendering.specs.RenderedTrees.{pairs_of_element}
use Rattle.htmd_law_returning.specs.SettledDocuments.{is_open, is_open_at_most}
use Rattle.htmd_law_returning.proofs.BareLemmas.{has_no_name}
use Rattle.htmd_law_returning.proofs.StartLemmas.{false-true}

-- a page keeps them, and they say nothing else
pub record IsOpenAtMost (attributes : List BlockAttribute) : Type 0 where
  pub kept : open_attribute (pairs_of_element attributes) ≡ attributes
  pub nameless : has_no_name (pairs_of_element attributes) ≡ true
  pub plain : has_class mathjax_words (pairs_of_element attributes) ≡ false
  pub fresh : (before : Option (List AttributePair)) → is_copied before (pairs_of_element attributes) ≡ false

none-fresh : (before : Option (List AttributePair)) → is_copied before [] ≡ false
none-fresh None = refl
none-fresh (Some b) = refl

one-open : (name : AttributeName) (value : List ℕ) → (is_open name && is_empty value) ≡ true
    → IsOpenAtMost (record { name = name; value = value } ∷ [])
one-open attribute.Open [] h =
    record { kept = refl; nameless = refl; plain = refl; fresh = fresh }
  where
    fresh : (before : Option (List AttributePair))
        → is_copied before (pairs_of_element (record { name = attribute.Open; value = [] } ∷ [])) ≡ false
    fresh None = refl
    fresh (Some b) = refl
one-open attribute.Open (c ∷ s) h = false-true h
one-open name value h = false-true h

pub open-kept : (attributes : List BlockAttribute) → is_open_at_most attributes ≡ true → IsOpenAtMost attributes
open-kept [] h = record { kept = refl; nameless = refl; plain = refl; fresh = none-fresh }
open-kept (a ∷ []) h = one-open a.name a.value h
open-kept (a ∷ b ∷ rest) h = false-true h
