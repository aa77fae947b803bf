-- What is kept of the open elements and of the elements before the next one, step by step of the selectors.
use Rattle.std.specs.Prelude.{ℕ, ◌+◌, Bool, true, false, ◌&&◌, ◌||◌, if◌then◌else◌, List, []}
use Rattle.std.specs.Prelude.{◌∷◌, length, drop, replicate, Option}
use Rattle.htmd_lexical.specs.AttributePairs.{AttributePair}
use Rattle.htmd_values.specs.ValueTrees.{ValueTree, document, doctype, text, comment, element, ValueForest, none, more}
use Rattle.htmd_selectors.specs.declared.selectors.Relation.{Relation}
use Rattle.htmd_selectors.specs.declared.selectors.Relation.TheVariants as relation
use Rattle.htmd_selectors.specs.declared.matching.Counts.{Counts}
use Rattle.htmd_selectors.specs.declared.matching.StepState.{StepState}
use Rattle.htmd_selectors.specs.SelectorSteps.{Step}
use Rattle.htmd_selectors.specs.Matching.{Element, Level, passes, matches, starts, parent_passes, some_passes}
use Rattle.htmd_selectors.specs.Matching.{nearest_passes, earlier_passes}
use Rattle.htmd_selectors.specs.SelectedParts.{elements_in, element_names, are_nothing, pre_below, in_pre, end_of}
use Rattle.htmd_selectors.specs.Rewriting.{Rule, unchanged, joined}
use Rattle.htmd_selectors.specs.Types.{asks_types, first_counts, type_counts}

-- for these steps, last step first: they name the innermost of these elements; they name one of them
abbrev pub state_around : List Step → List Level → StepState
state_around steps around = record {
  here = parent_passes (matches steps) around;
  within = some_passes (matches steps) around;
}

-- they name the nearest of these elements of one parent; they name one of them
abbrev pub state_beside : List Step → List Element → List Level → StepState
state_beside steps earlier around = record {
  here = nearest_passes (matches steps) earlier around;
  within = earlier_passes (matches steps) earlier around;
}

-- the states at each of the steps, after those before
abbrev pub states_after : List Step → List Step → List Level → List StepState
states_after before [] around = []
states_after before (step ∷ steps) around =
    state_around (step ∷ before) around ∷ states_after (step ∷ before) steps around

abbrev pub beside_after : List Step → List Step → List Element → List Level → List StepState
beside_after before [] earlier around = []
beside_after before (step ∷ steps) earlier around =
    state_beside (step ∷ before) earlier around ∷ beside_after (step ∷ before) steps earlier around

-- ---- by states alone

abbrev pub is_reached : Relation → Bool → StepState → StepState → Bool
is_reached relation.Start same parent beside = true
is_reached relation.Same same parent beside = same
is_reached relation.Child same parent beside = parent.here
is_reached relation.Below same parent beside = parent.within
is_reached relation.Next same parent beside = beside.here
is_reached relation.After same parent beside = beside.within

-- which steps name an element, by the states of its parent and of the elements before it
abbrev pub named_steps : Bool → StepState → StepState → Element → List Step → List StepState
    → List StepState
    → List Bool
named_steps same above near e [] parent beside = []
named_steps same above near e (step ∷ steps) [] beside = []
named_steps same above near e (step ∷ steps) (p ∷ parent) [] = []
named_steps same above near e (step ∷ steps) (p ∷ parent) (b ∷ beside) =
    let here = is_reached step.relation same above near && passes e step.test in
    here ∷ named_steps here p b e steps parent beside

abbrev pub no_state : StepState
no_state = record { here = false; within = false }

abbrev pub no_states : List Step → List StepState
no_states steps = replicate (length steps) no_state

-- an element more: these steps name it
abbrev pub with_element : List Bool → List StepState → List StepState
with_element [] states = []
with_element (here ∷ named) [] = []
with_element (here ∷ named) (state ∷ states) =
    (record { here = here; within = here || state.within }) ∷ with_element named states

-- an element is named by one of the selectors; `here` is said of the step before
abbrev pub is_named_by : Bool → List Step → List Bool → Bool
is_named_by here [] named = here
is_named_by here (step ∷ steps) [] = here
is_named_by here (step ∷ steps) (next ∷ named) =
    (starts step.relation && here) || is_named_by next steps named

-- what is known before an element: the states of its parent and of the elements before it, how many these are; how many
-- of its name each element from there on has beside it, where a step asks for that; and whether no element is around it
pub record Known : Type 0 where
  pub parent : List StepState
  pub beside : List StepState
  pub before : ℕ
  pub types : List Counts
  pub has_no_parent : Bool

abbrev pub known_element : Known → ℕ → List ℕ → List AttributePair → ValueForest → Element
known_element known after name attributes children = record {
  name = name;
  attributes = attributes;
  place = record {
    among_all = record { before = known.before; after = after };
    of_type = first_counts known.types;
    holds_nothing = are_nothing children;
    has_no_parent = known.has_no_parent;
  };
}

abbrev pub named_at : List Step → Known → Element → List Bool
named_at steps known e = named_steps false no_state no_state e steps known.parent known.beside

-- after a tree
abbrev pub next_known : List Step → Known → ℕ → ValueTree → Known
next_known steps known after (document children) = known
next_known steps known after doctype = known
next_known steps known after (text s) = known
next_known steps known after (comment s) = known
next_known steps known after (element name attributes children) = record known {
  beside = with_element (named_at steps known (known_element known after name attributes children)) known.beside;
  before = known.before + 1;
  types = drop 1 known.types;
}

-- how many of its name each of these elements has beside it, where a step asks for that
abbrev pub types_in : List Step → ValueForest → List Counts
types_in steps trees = if asks_types steps then type_counts [] (element_names trees) else []

-- before the first of the trees below these elements
abbrev pub first_known : List Step → List StepState → Bool → ValueForest → Known
first_known steps parent is_outside trees = record {
  parent = parent;
  beside = no_states steps;
  before = 0;
  types = types_in steps trees;
  has_no_parent = is_outside;
}

-- below an element
abbrev pub known_below : List Step → Known → Element → ValueForest → Known
known_below steps known e trees = first_known steps (with_element (named_at steps known e) known.parent) false trees

abbrev pub names_by : List Step → Known → ℕ → ValueTree → Bool
names_by steps known after (document children) = false
names_by steps known after doctype = false
names_by steps known after (text s) = false
names_by steps known after (comment s) = false
names_by steps known after (element name attributes children) =
    is_named_by false steps (named_at steps known (known_element known after name attributes children))

abbrev mutual
  -- what is left of trees without the elements that are named, and without Documents; the others have the rule's
  -- attributes
  pub kept : Rule → List Step → Known → ValueForest → ValueForest
  kept rule steps known none = none
  kept rule steps known (more tree trees) = joined (kept_tree rule steps known (elements_in trees) tree)
      (kept rule steps (next_known steps known (elements_in trees) tree) trees)

  pub kept_tree : Rule → List Step → Known → ℕ → ValueTree → ValueForest
  kept_tree rule steps known after (document children) = none
  kept_tree rule steps known after doctype = more doctype none
  kept_tree rule steps known after (text s) = more (text s) none
  kept_tree rule steps known after (comment s) = more (comment s) none
  kept_tree rule steps known after (element name attributes children) =
      if names_by steps known after (element name attributes children) then none
      else more (element name (rule name attributes) (kept rule steps
      (known_below steps known (known_element known after name attributes children) children) children)) none

-- no selectors
abbrev pub nothing_known : Known
nothing_known = record { parent = []; beside = []; before = 0; types = []; has_no_parent = true }

abbrev mutual
  -- the outermost elements that are named, without Documents, where this `pre` is around them
  pub outermost : List Step → Option (List AttributePair) → Known → ValueForest → ValueForest
  outermost steps pre known none = none
  outermost steps pre known (more tree trees) = joined (outermost_tree steps pre known (elements_in trees) tree)
      (outermost steps pre (next_known steps known (elements_in trees) tree) trees)

  pub outermost_tree : List Step → Option (List AttributePair) → Known → ℕ → ValueTree → ValueForest
  outermost_tree steps pre known after (document children) = none
  outermost_tree steps pre known after doctype = none
  outermost_tree steps pre known after (text s) = none
  outermost_tree steps pre known after (comment s) = none
  outermost_tree steps pre known after (element name attributes children) =
      if names_by steps known after (element name attributes children)
      then joined (in_pre pre (kept_tree unchanged [] nothing_known 0 (element name attributes children)))
      (end_of name)
      else outermost steps (pre_below name attributes pre)
      (known_below steps known (known_element known after name attributes children) children) children
