-- Line numbers beside code.
use Rattle.std.specs.Prelude.{ℕ, Bool, false, not, ◌||◌, ◌&&◌, List, [], ◌∷◌, codes}
use Rattle.std.specs.Str.{bytes_eq}
use Rattle.htmd_lexical.specs.AttributePairs.{AttributePair}
use Rattle.htmd_nodes.specs.NumberedTrees.{NumberedTree, element, NumberedForest}
use Rattle.htmd_nodes.specs.NumberedTrees.{none, more}
use Rattle.htmd_shown.specs.ClassWords.{has_class, number_words}
use Rattle.htmd_shown.specs.Roles.{is_among}

abbrev pub is_cell_name : List ℕ → Bool
is_cell_name name = is_among (codes "td" ∷ codes "th" ∷ []) name

abbrev mutual
  -- a `pre`, or an element with one below it
  pub holds_pre : NumberedTree → Bool
  holds_pre (element id name attributes children) = bytes_eq name (codes "pre") || hold_pre children
  holds_pre _ = false

  pub hold_pre : NumberedForest → Bool
  hold_pre none = false
  hold_pre (more tree trees) = holds_pre tree || hold_pre trees

-- a cell of line numbers
abbrev pub is_number_cell : List ℕ → List AttributePair → Bool
is_number_cell name attributes = is_cell_name name && has_class number_words attributes

abbrev pub is_of_numbers : NumberedTree → Bool
is_of_numbers (element id name attributes children) = is_number_cell name attributes
is_of_numbers _ = false

-- another cell, with code
abbrev pub is_code_cell : NumberedTree → Bool
is_code_cell (element id name attributes children) =
    is_cell_name name && not (has_class number_words attributes) && hold_pre children
is_code_cell _ = false

abbrev pub has_number_cell : NumberedForest → Bool
has_number_cell none = false
has_number_cell (more tree trees) = is_of_numbers tree || has_number_cell trees

abbrev pub has_code_cell : NumberedForest → Bool
has_code_cell none = false
has_code_cell (more tree trees) = is_code_cell tree || has_code_cell trees

-- a row of line numbers and code
abbrev pub is_numbered_row : List ℕ → NumberedForest → Bool
is_numbered_row name children = bytes_eq name (codes "tr") && has_number_cell children && has_code_cell children

abbrev pub is_numbered : NumberedTree → Bool
is_numbered (element id name attributes children) = is_numbered_row name children
is_numbered _ = false

abbrev pub has_numbered : NumberedForest → Bool
has_numbered none = false
has_numbered (more tree trees) = is_numbered tree || has_numbered trees

abbrev pub is_part_name : List ℕ → Bool
is_part_name name = is_among (codes "thead" ∷ codes "tbody" ∷ codes "tfoot" ∷ []) name

abbrev pub holds_numbered : NumberedTree → Bool
holds_numbered (element id name attributes children) =
    is_numbered_row name children || (is_part_name name && has_numbered children)
holds_numbered _ = false

-- a row of a table has line numbers
abbrev pub has_numbered_rows : NumberedForest → Bool
has_numbered_rows none = false
has_numbered_rows (more tree trees) = holds_numbered tree || has_numbered_rows trees

-- what isn't code in a `pre`
abbrev pub numbered_names : List (List ℕ)
numbered_names =
    codes "td" ∷ codes "th" ∷ codes "pre" ∷ codes "span" ∷ codes "div" ∷ codes "a" ∷ []

abbrev pub is_number_in_code : List ℕ → List AttributePair → Bool
is_number_in_code name attributes = is_among numbered_names name && has_class number_words attributes
