-- How deep nodes are.
use Rattle.std.specs.Prelude.{ℕ, zero, suc, max, List, [], ◌∷◌}
use Rattle.htmd_shown.specs.SimpleTrees.{Simple, text, image, formula, embedded, anchor, element, Simples, none, more}

-- the same nodes as a list
abbrev pub list_of : Simples → List Simple
list_of none = []
list_of (more tree trees) = tree ∷ list_of trees

abbrev mutual
  -- how many elements stand in each other, with what is in the last one
  pub height : Simple → ℕ
  height (element id role facts attributes content) = suc (height_among content)
  height (text s) = 1
  height (image address attributes) = 1
  height (formula tex is_alone attributes) = 1
  height (embedded id address title attributes anchors) = 1
  height (anchor id) = 1

  pub height_among : Simples → ℕ
  height_among none = zero
  height_among (more tree trees) = max (height tree) (height_among trees)

-- of the highest of these
abbrev pub highest : List Simple → ℕ
highest [] = zero
highest (tree ∷ trees) = max (height tree) (highest trees)
