-- The visible characters of the simpler tree, each with what stands around it.
use Rattle.std.specs.Prelude.{ℕ, Bool, true, false, not, ◌&&◌, if◌then◌else◌, List, [], ◌∷◌, ◌++◌, map, codes}
use Rattle.std.specs.Prelude.{Option, None, is_some}
use Rattle.htmd_lexical.specs.AttributePairs.{AttributePair}
use Rattle.htmd_shown.specs.declared.facts.Facts.{Facts}
use Rattle.htmd_shown.specs.declared.role.Role.{Role}
use Rattle.htmd_shown.specs.declared.role.Role.TheVariants as role
use Rattle.htmd_shown.specs.AllTexts.{all_text_among, dollar_sign}
use Rattle.htmd_shown.specs.Attributes.{text_of, title_of}
use Rattle.htmd_shown.specs.SimpleTrees.{Simple, text, image, formula, embedded, anchor, element, Simples, none, more}
use Rattle.htmd_flow.specs.Contexts.{Context, inside_format, inside_title, inside_link, in_code, in_one_line}
use Rattle.htmd_flow.specs.Contexts.{unlinked, has_elements}
use Rattle.htmd_flow.specs.Flows.{linked_by, around_heading, around_node, is_grid_of}
use Rattle.htmd_flow.specs.Parts as part
use Rattle.htmd_document.specs.Formats as formats
use Rattle.htmd_law_documents.specs.DocumentWrappers.{Wrapper, of_format, of_link, Wrapped, in_wrappers}

abbrev pub wrapper_of : part.Around → Wrapper
wrapper_of (part.formatted format) = of_format format
wrapper_of (part.linked node address title) = of_link address

-- the visible characters of a text at this place
abbrev pub wrapped_in : Context → List ℕ → List Wrapped
wrapped_in context s = in_wrappers (map wrapper_of context.around) context.is_code s

-- ---- what an element puts around what is in it

-- a heading is one line, and a usual sign in it isn't linked to a part of the page from around it
abbrev pub inside_heading : Facts → Context → Context
inside_heading facts context = if context.is_flat then context else in_one_line (around_heading facts context)

-- a format, a title, code, a link or none, and a heading
abbrev pub inside : Role → ℕ → Facts → List AttributePair → Context → Context
inside (role.Format f) id facts attributes context = inside_format (formats.of_format f) context
inside (role.Element e) id facts attributes context = inside_format (formats.of_element e) context
inside role.Abbreviation id facts attributes context = inside_title (title_of attributes) context
inside role.Code id facts attributes context = in_code context
inside role.Typed id facts attributes context = in_code context
inside role.Link id facts attributes context = linked_by id attributes context
inside role.Unlinked id facts attributes context = unlinked context
inside (role.Heading level) id facts attributes context = inside_heading facts context
inside _ id facts attributes context = context

-- a text in which all lines count is code; only in one line formats stand around it
abbrev pub inside_verbatim : Context → Context
inside_verbatim context = in_code (if context.is_flat then context else record context { around = [] })

-- the description of an image is code only where it stands for the image
abbrev pub wrapped_image : Context → Option (List ℕ) → List AttributePair → List Wrapped
wrapped_image context address attributes =
    in_wrappers (map wrapper_of context.around) (context.is_code && not (is_some address))
    (text_of (codes "alt") attributes)

-- a formula is code, and in a line between dollar signs
abbrev pub wrapped_formula : Context → Bool → List ℕ → List Wrapped
wrapped_formula context is_alone tex =
    if is_alone && not context.is_flat then in_wrappers [] true tex
    else (wrapped_in context (dollar_sign ∷ []) ++ wrapped_in (in_code context) tex)
    ++ wrapped_in context (dollar_sign ∷ [])

-- a cell of a table of rows and columns is one line, but where blocks can be elements
abbrev pub inside_cell : Bool → Context → Context
inside_cell in_grid context = if in_grid then in_one_line context else context

-- what an element says: all text in it, if it is a table whether of rows and columns, and what its children say there
abbrev pub wrappers_by : Role → ℕ → Facts → List AttributePair → List ℕ → Bool
    → (Context → Bool → List Wrapped)
    → Context → Bool
    → List Wrapped
wrappers_by role.LineBreak id facts attributes all holds_grid inner context in_grid = []
wrappers_by role.ThematicBreak id facts attributes all holds_grid inner context in_grid = []
wrappers_by role.Preformatted id facts attributes all holds_grid inner context in_grid =
    wrapped_in (inside_verbatim context) all
wrappers_by role.Verbatim id facts attributes all holds_grid inner context in_grid =
    wrapped_in (inside_verbatim context) all
wrappers_by role.Table id facts attributes all holds_grid inner context in_grid =
    inner context (holds_grid && not (has_elements context))
wrappers_by role.TableHead id facts attributes all holds_grid inner context in_grid = inner context in_grid
wrappers_by role.TableBody id facts attributes all holds_grid inner context in_grid = inner context in_grid
wrappers_by role.Row id facts attributes all holds_grid inner context in_grid = inner context in_grid
wrappers_by role.Cell id facts attributes all holds_grid inner context in_grid =
    inner (inside_cell in_grid context) false
wrappers_by role.HeaderCell id facts attributes all holds_grid inner context in_grid =
    inner (inside_cell in_grid context) false
wrappers_by r id facts attributes all holds_grid inner context in_grid =
    inner (inside r id facts attributes context) false

-- ---- the tree

abbrev mutual
  -- in a place, and whether that is in a table of rows and columns; around a title there may be no link
  pub wrappers_of_tree : Simple → Context → Bool → List Wrapped
  wrappers_of_tree (text s) context in_grid = wrapped_in context s
  wrappers_of_tree (image address attributes) context in_grid = wrapped_image context address attributes
  wrappers_of_tree (formula tex is_alone attributes) context in_grid = wrapped_formula context is_alone tex
  wrappers_of_tree (embedded id address title attributes anchors) context in_grid =
      wrapped_in (inside_link id address None context) title
  wrappers_of_tree (anchor id) context in_grid = []
  wrappers_of_tree (element id r facts attributes content) context in_grid =
      wrappers_by r id facts attributes (all_text_among content) (is_grid_of content)
      (wrappers_of_trees content) (around_node (element id r facts attributes content) context) in_grid

  pub wrappers_of_trees : Simples → Context → Bool → List Wrapped
  wrappers_of_trees none context in_grid = []
  wrappers_of_trees (more tree trees) context in_grid =
      wrappers_of_tree tree context in_grid ++ wrappers_of_trees trees context in_grid
