-- How big a simpler tree is.
use Rattle.std.specs.Prelude.{ℕ, suc, ◌+◌, List, [], ◌∷◌, length}
use Rattle.htmd_shown.specs.declared.role.Role.{Role}
use Rattle.htmd_shown.specs.declared.role.Role.TheVariants as role
use Rattle.htmd_shown.specs.SimpleTrees.{Simple, text, image, formula, embedded, anchor, element, Simples, none, more}
use Rattle.htmd_law_sizes.specs.DocumentSizes.{size_of_option}
use Rattle.htmd_law_sizes.specs.TreeSizes.{size_of_values}

-- each id one, and its bytes
abbrev pub size_of_ids : List (List ℕ) → ℕ
size_of_ids [] = 0
size_of_ids (id ∷ ids) = suc (length id) + size_of_ids ids

-- the level of a heading
abbrev pub level_of : Role → ℕ
level_of (role.Heading level) = level
level_of _ = 0

-- Each node counts one, and so does each byte of a text, an address, and the values of its attributes; a heading its
-- level besides.
abbrev mutual
  pub size_of_simple : Simple → ℕ
  size_of_simple (text s) = suc (length s)
  size_of_simple (image address attributes) = suc (size_of_option address + size_of_values attributes)
  size_of_simple (formula tex is_alone attributes) = suc (length tex + size_of_values attributes)
  size_of_simple (embedded id address title attributes anchors) =
      suc (length address + length title + size_of_values attributes + size_of_ids anchors)
  size_of_simple (anchor id) = suc (length id)
  size_of_simple (element id r facts attributes content) =
      suc (level_of r + size_of_values attributes + size_of_simples content)

  pub size_of_simples : Simples → ℕ
  size_of_simples none = 0
  size_of_simples (more tree trees) = size_of_simple tree + size_of_simples trees
