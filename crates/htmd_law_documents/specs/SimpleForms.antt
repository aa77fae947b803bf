-- Simpler trees of texts, as they are made.
use Rattle.std.specs.Prelude.{◌≡◌, ℕ, true, List, codes}
use Rattle.std.specs.Str.{IsUtf8}
use Rattle.htmd_shown.specs.declared.facts.Facts.{Facts}
use Rattle.htmd_shown.specs.declared.role.Role.{Role}
use Rattle.htmd_shown.specs.Attributes.{text_of, address}
use Rattle.htmd_shown.specs.Kinds.{are_blank}
use Rattle.htmd_shown.specs.Roles.{is_void, is_link}
use Rattle.htmd_shown.specs.SimpleTrees.{Simple, text, image, formula, embedded, anchor, element, Simples, none, more}

-- nothing stands in a `br` and an `hr`, and what is said to be blank is
pub record IsMade (role : Role) (facts : Facts) (content : Simples) : Type 0 where
  pub empty : is_void role ≡ true → content ≡ none
  pub blank : facts.is_blank ≡ true → are_blank content ≡ true

abbrev mutual
  -- all that a node says is UTF-8, and each element is made
  pub IsSound : Simple → Type 0
  IsSound (text s) = IsUtf8 s
  IsSound (image address attributes) = IsUtf8 (text_of (codes "alt") attributes)
  IsSound (formula tex is_alone attributes) = IsUtf8 tex
  IsSound (embedded id address title attributes anchors) = IsUtf8 title
  IsSound (anchor id) = Unit {0}
  IsSound (element id role facts attributes content) = IsMade role facts content × AreSound content

  pub AreSound : Simples → Type 0
  AreSound none = Unit {0}
  AreSound (more tree trees) = IsSound tree × AreSound trees

-- ---- links by number

abbrev mutual
  -- the links with one number lead to one address
  pub HasLinks : (ℕ → List ℕ) → Simple → Type 0
  HasLinks link_at (text s) = Unit {0}
  HasLinks link_at (image place attributes) = Unit {0}
  HasLinks link_at (formula tex is_alone attributes) = Unit {0}
  HasLinks link_at (embedded id place title attributes anchors) = place ≡ link_at id
  HasLinks link_at (anchor id) = Unit {0}
  HasLinks link_at (element id role facts attributes content) =
      (is_link role ≡ true → address (text_of (codes "href") attributes) ≡ link_at id)
      × HaveLinks link_at content

  pub HaveLinks : (ℕ → List ℕ) → Simples → Type 0
  HaveLinks link_at none = Unit {0}
  HaveLinks link_at (more tree trees) = HasLinks link_at tree × HaveLinks link_at trees
