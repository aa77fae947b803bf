-- What the simpler tree says: its texts, the descriptions of images, formulas, and the titles of what is embedded.
use Rattle.std.specs.Prelude.{ℕ, Bool, true, false, not, ◌&&◌, if◌then◌else◌, List, [], ◌∷◌, ◌++◌, codes}
use Rattle.htmd_flow.specs.Flows.{is_grid_of}
use Rattle.htmd_shown.specs.declared.role.Role.{Role}
use Rattle.htmd_shown.specs.declared.role.Role.TheVariants as role
use Rattle.htmd_shown.specs.AllTexts.{dollar_sign}
use Rattle.htmd_shown.specs.Attributes.{text_of}
use Rattle.htmd_shown.specs.Roles.{is_void}
use Rattle.htmd_shown.specs.SimpleTrees.{Simple, text, image, formula, embedded, anchor, element, Simples, none, more}

-- a formula is its TeX, and in a line stands between dollar signs
abbrev pub formula_said : Bool → List ℕ → List ℕ
formula_said is_block tex = if is_block then tex else (dollar_sign ∷ tex) ++ dollar_sign ∷ []

-- What is in an element stands in one line: the element does, it is a heading or a code block, or it is a cell of a
-- table of rows and columns.
abbrev pub flat_in : Role → Bool → Bool → Bool
flat_in (role.Heading level) flat in_grid = true
flat_in role.Preformatted flat in_grid = true
flat_in role.Verbatim flat in_grid = true
flat_in role.Cell flat in_grid = if in_grid then true else flat
flat_in role.HeaderCell flat in_grid = if in_grid then true else flat
flat_in r flat in_grid = flat

-- what is in an element stands in a table of rows and columns
abbrev pub grid_in : Role → Bool → Bool → Bool
grid_in role.Table holds_grid in_grid = holds_grid
grid_in role.TableHead holds_grid in_grid = in_grid
grid_in role.TableBody holds_grid in_grid = in_grid
grid_in role.Row holds_grid in_grid = in_grid
grid_in r holds_grid in_grid = false

abbrev mutual
  -- a node that stands in one line or not, and in a table of rows and columns or not; a `br` and an `hr` say nothing
  pub text_of_simple : Bool → Bool → Simple → List ℕ
  text_of_simple flat in_grid (text s) = s
  text_of_simple flat in_grid (image address attributes) = text_of (codes "alt") attributes
  text_of_simple flat in_grid (formula tex is_alone attributes) = formula_said (is_alone && not flat) tex
  text_of_simple flat in_grid (embedded id address title attributes anchors) = title
  text_of_simple flat in_grid (anchor id) = []
  text_of_simple flat in_grid (element id r facts attributes content) =
      if is_void r then []
      else text_of_simples (flat_in r flat in_grid) (grid_in r (is_grid_of content) in_grid) content

  pub text_of_simples : Bool → Bool → Simples → List ℕ
  text_of_simples flat in_grid none = []
  text_of_simples flat in_grid (more tree trees) =
      text_of_simple flat in_grid tree ++ text_of_simples flat in_grid trees
