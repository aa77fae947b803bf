-- What each thing to see of the simpler tree says: its visible characters, whichever of its tables are of rows and
-- columns.
use Rattle.std.specs.Prelude.{◌≡◌, ℕ, Bool, true, false, not, ◌&&◌, if◌then◌else◌, List, [], ◌∷◌, ◌++◌, codes}
use Rattle.htmd_shown.specs.declared.role.Role.{Role}
use Rattle.htmd_shown.specs.declared.role.Role.TheVariants as role
use Rattle.htmd_shown.specs.Attributes.{text_of}
use Rattle.htmd_shown.specs.SimpleTrees.{Simple, text, image, formula, embedded, anchor, element, Simples, none, more}
use Rattle.htmd_shown.specs.Spaces.{is_blank_text}
use Rattle.htmd_shown.specs.Showings.{image_shows, code_shows}
use Rattle.htmd_law_documents.specs.DocumentTexts.{visible}
use Rattle.htmd_law_documents.specs.SaidTexts.{SayAll}
use Rattle.htmd_law_documents.specs.SimpleTexts.{formula_said, flat_in, grid_in}

-- a thing that says these characters, if there is something to see
abbrev pub thing_if : Bool → List ℕ → List (List ℕ)
thing_if shows cs = if shows then cs ∷ [] else []

-- a code block, a `br` or an `hr`, or another element
abbrev pub ByRole : Role → Type 0 → Type 0 → Type 0 → Type 0
ByRole role.Preformatted Code Break Other = Code
ByRole role.Verbatim Code Break Other = Code
ByRole role.LineBreak Code Break Other = Break
ByRole role.ThematicBreak Code Break Other = Break
ByRole r Code Break Other = Other

abbrev mutual
  -- A node that stands in one line or not, and in a table of rows and columns or not, has these things to see in order:
  -- a text, an image, a formula, what is embedded, and a code block are one each.
  pub Shows : Bool → Bool → Simple → List (List ℕ) → Type 0
  Shows flat in_grid (text s) things = things ≡ thing_if (not (is_blank_text s)) (visible s)
  Shows flat in_grid (image address attributes) things =
      things ≡ thing_if (image_shows address attributes) (visible (text_of (codes "alt") attributes))
  Shows flat in_grid (formula tex is_alone attributes) things =
      things ≡ visible (formula_said (is_alone && not flat) tex) ∷ []
  Shows flat in_grid (embedded id address title attributes anchors) things = things ≡ visible title ∷ []
  Shows flat in_grid (anchor id) things = things ≡ []
  Shows flat in_grid (element id r facts attributes content) things =
      (holds_grid : Bool)
      × ByRole r ((cs : List ℕ) × SayAll true false content cs × (things ≡ thing_if (code_shows content) cs))
      (things ≡ []) (ShowAll (flat_in r flat in_grid) (grid_in r holds_grid in_grid) content things)

  pub ShowAll : Bool → Bool → Simples → List (List ℕ) → Type 0
  ShowAll flat in_grid none things = things ≡ []
  ShowAll flat in_grid (more tree trees) things =
      (front : List (List ℕ)) × (rest : List (List ℕ)) × (things ≡ front ++ rest)
      × Shows flat in_grid tree front × ShowAll flat in_grid trees rest
