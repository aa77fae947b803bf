-- The simpler tree: what shows of a page, of which its document is made.
use Rattle.std.specs.Prelude.{ℕ, Bool, true, false, List, [], ◌∷◌, Option}
use Rattle.htmd_lexical.specs.AttributePairs.{AttributePair}
use Rattle.htmd_shown.specs.declared.facts.Facts.{Facts}
use Rattle.htmd_shown.specs.declared.role.Role.{Role}

-- The attributes are those of the page's element.
mutual
  pub data Simple : Type 0 where
    text : (s : List ℕ) → Simple
    -- an image, by the address that counts
    image : (address : Option (List ℕ)) (attributes : List AttributePair) → Simple
    -- a formula, by its TeX, alone or in a line
    formula : (tex : List ℕ) (is_alone : Bool) (attributes : List AttributePair) → Simple
    -- what is embedded, by its address and the text of the link that leads there, with the ids that lead to it
    embedded : (id : ℕ) (address title : List ℕ) (attributes : List AttributePair) (anchors : List (List ℕ))
        → Simple
    -- an id that links lead to
    anchor : (id : List ℕ) → Simple
    -- an element, with what is known of its content
    element : (id : ℕ) (role : Role) (facts : Facts) (attributes : List AttributePair) (content : Simples) → Simple

  pub data Simples : Type 0 where
    none : Simples
    more : (tree : Simple) (trees : Simples) → Simples

abbrev pub simples_of : List Simple → Simples
simples_of [] = none
simples_of (tree ∷ trees) = more tree (simples_of trees)

abbrev pub is_image : Simple → Bool
is_image (image address attributes) = true
is_image _ = false

abbrev pub is_text : Simple → Bool
is_text (text s) = true
is_text _ = false
