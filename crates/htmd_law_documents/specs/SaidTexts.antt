-- What the simpler tree says, whichever of its tables are of rows and columns: by visible characters.
use Rattle.std.specs.Prelude.{◌≡◌, ℕ, Bool, true, false, not, ◌&&◌, List, [], ◌++◌, codes}
use Rattle.htmd_shown.specs.Attributes.{text_of}
use Rattle.htmd_shown.specs.Roles.{is_void}
use Rattle.htmd_shown.specs.SimpleTrees.{Simple, text, image, formula, embedded, anchor, element, Simples, none, more}
use Rattle.htmd_law_documents.specs.DocumentTexts.{visible}
use Rattle.htmd_law_documents.specs.SimpleTexts.{formula_said, flat_in, grid_in}

-- nothing, or what is said otherwise
abbrev pub SaysUnless : Bool → List ℕ → Type 0 → Type 0
SaysUnless true cs Other = cs ≡ []
SaysUnless false cs Other = Other

abbrev mutual
  -- a node that stands in one line or not, and in a table of rows and columns or not, says these characters
  pub Says : Bool → Bool → Simple → List ℕ → Type 0
  Says flat in_grid (text s) cs = cs ≡ visible s
  Says flat in_grid (image address attributes) cs = cs ≡ visible (text_of (codes "alt") attributes)
  Says flat in_grid (formula tex is_alone attributes) cs = cs ≡ visible (formula_said (is_alone && not flat) tex)
  Says flat in_grid (embedded id address title attributes anchors) cs = cs ≡ visible title
  Says flat in_grid (anchor id) cs = cs ≡ []
  Says flat in_grid (element id r facts attributes content) cs =
      (holds_grid : Bool)
      × SaysUnless (is_void r) cs (SayAll (flat_in r flat in_grid) (grid_in r holds_grid in_grid) content cs)

  pub SayAll : Bool → Bool → Simples → List ℕ → Type 0
  SayAll flat in_grid none cs = cs ≡ []
  SayAll flat in_grid (more tree trees) cs =
      (front : List ℕ) × (rest : List ℕ) × (cs ≡ front ++ rest)
      × Says flat in_grid tree front × SayAll flat in_grid trees rest
