-- The definitions that only private clauses use: what the walk refers to on its way.
use Rattle.std.specs.Prelude.{◌≡◌, ℕ, suc, ◌≤◌, ◌<◌, Bool, false, List, Option, Result, All, IfOk, IfSome, IsSome}
use Rattle.std.specs.Prelude.{length}
use Rattle.std.specs.Option.{option_copied}
use Rattle.htmd_nodes.specs.Items.{Item, data_at, parent_at}
use Rattle.htmd_nodes.specs.NumberedTrees.{NumberedForest, tree_of, height}
use Rattle.htmd_nodes.specs.Ancestors.{ancestor_of, ancestors_of}
use Rattle.htmd_walk.specs.declared.dom_walker.Remembered.{Remembered}
use Rattle.htmd_walk.specs.declared.dom_walker.visit.Visit.{Visit}
use Rattle.htmd_walk.specs.declared.element_handler.Element.{Element}
use Rattle.htmd_walk.specs.declared.options.Options.{Options}
use Rattle.htmd_walk.specs.declared.element_handler.registry.Request.{Request}
use Rattle.htmd_walk.specs.declared.element_handler.registry.Request.TheVariants.{OfPlan, Each}
use Rattle.htmd_walk.specs.declared.element_handler.registry.Outcome.{Outcome}
use Rattle.htmd_walk.specs.declared.element_handler.registry.Outcome.TheVariants.{Final, ChildrenToo}
use Rattle.htmd_walk.specs.Handling.{ResultView, PlanView, contents_of_each, OutcomeView, final_result, children_too}
use Rattle.htmd_walk.specs.Groups.{only_text, group_children, children_at}
use Rattle.htmd_walk.specs.Children.{content_alone, descendant_tree}
use Rattle.htmd_walk.specs.Choice.{Config}
use Rattle.htmd_walk.specs.Outputs.{Conversion, conversion_of, Writes, Output}
use Rattle.htmd_walk.specs.Elements.{Occurrence, Answer, answer_after, occurrence_at, view_at}
use Rattle.htmd_walk.specs.Rendering.{is_text, written_within, inside_of}
use Rattle.htmd_walk.specs.OrdinaryText.{in_pre_or_code}
use Rattle.htmd_walk.specs.Code.{language_of_pre}
use Rattle.htmd_walk.specs.Views.{plan_view, element_view, element_children, optional_result}

abbrev pub request_view : Request → PlanView
request_view (OfPlan plan) = plan_view plan
request_view (Each descendants) = contents_of_each descendants.nodes.items

abbrev pub outcome_view : Outcome → OutcomeView
outcome_view (Final result) = final_result (optional_result result)
outcome_view ChildrenToo = children_too

-- what the walk knows of where a node stands is so
pub record IsVisit (items : List Item) (v : Visit) : Type 0 where
  pub within : v.node < length items
  pub group : IfSome v.joined (λ _. IsSome (only_text (children_at items v.node)))
  pub language : option_copied v.pre_language ≡ language_of_pre items (parent_at items v.node)
  pub context : is_text (data_at items v.node) ≡ false
      → v.context.preformatted ≡ in_pre_or_code (ancestors_of items v.node)

-- an element of this tree, shown with these options
pub record IsElementOf (o : Options) (items : List Item) (e : Element) : Type 0 where
  pub tree : e.tree.now ≡ items
  pub options : e.options.now ≡ o
  pub inside : e.preformatted ≡ in_pre_or_code (inside_of items e.node)

-- the children of a node, or the joined text of the group that begins at it
abbrev pub shown_children : List Item → Visit → NumberedForest
shown_children items v = group_children (option_copied v.joined) (children_at items v.node)

-- an element where it stands in the tree, with these children
abbrev pub shown_occurrence : ℕ → Conversion → ℕ → Bool → NumberedForest → Occurrence
shown_occurrence n conversion id markdown_translated children = record {
  write = written_within n conversion;
  conversion = conversion;
  view = view_at conversion id markdown_translated children;
  inside = inside_of conversion.items id;
  children = children;
}

-- an element as the walk comes to it
abbrev pub occurrence_of : ℕ → Conversion → Element → Occurrence
occurrence_of n conversion e = record {
  write = written_within n conversion;
  conversion = conversion;
  view = element_view e;
  inside = inside_of conversion.items e.node;
  children = element_children e;
}

-- it holds for the element, whatever count of levels suffices for what is in it
abbrev pub AtElement : Conversion → Element → (Occurrence → Type 0) → Type 0
AtElement conversion e P = (n : ℕ) → height (tree_of conversion.items e.node) ≤ suc n
    → P (occurrence_of n conversion e)

-- it holds for how a node is written, whatever count of levels suffices for it
abbrev pub AtNode : Conversion → ℕ → (Writes → Type 0) → Type 0
AtNode conversion id P = (n : ℕ) → height (tree_of conversion.items id) ≤ n → P (written_within n conversion)

-- the same, for how its children are written
abbrev pub InNode : Conversion → ℕ → (Writes → Type 0) → Type 0
InNode conversion id P = (n : ℕ) → height (tree_of conversion.items id) ≤ suc n
    → P (written_within n conversion)

-- if a call ends well, it gives this for the element
abbrev pub ElementGives : {A B E : Type 0} → Config → List Item → Element → (Occurrence → B) → (A → B)
    → Result A E → Type 0
ElementGives config items e wanted seen result =
    IfOk result (λ r. AtElement (conversion_of config items) e (λ at. seen r ≡ wanted at))

-- the same, for a node
abbrev pub NodeGives : {A B E : Type 0} → Config → List Item → ℕ → (Writes → B) → (A → B) → Result A E
    → Type 0
NodeGives config items id wanted seen result =
    IfOk result (λ r. AtNode (conversion_of config items) id (λ write. seen r ≡ wanted write))

-- the content of a node that an element hands over, after these definitions
abbrev pub content_below : Config → List Item → Option (List ℕ) → ℕ → List (List ℕ) → Writes → Output
content_below config items text below definitions write =
    content_alone write (conversion_of config items) (descendant_tree items text below) below definitions

-- what an element of the tree answers if it is in no group
abbrev pub answer_at : Writes → Conversion → ℕ → List (List ℕ) → Answer
answer_at write conversion id definitions =
    answer_after 0 (ancestor_of (data_at conversion.items id)).tag
    (occurrence_at write conversion id (inside_of conversion.items id) (children_at conversion.items id)) definitions

-- it answers with this result and adds no definition, whatever the definitions so far
abbrev pub AlwaysGives : Conversion → ℕ → Option ResultView → Type 0
AlwaysGives conversion id result =
    InNode conversion id (λ write. (definitions : List (List ℕ))
    → answer_at write conversion id definitions ≡ record { result = result; definitions = definitions })

abbrev pub IsRemembered : Conversion → Remembered → Type 0
IsRemembered conversion r = AlwaysGives conversion r.node (optional_result r.result)

abbrev pub AreRemembered : Config → List Item → List Remembered → Type 0
AreRemembered config items = All (IsRemembered (conversion_of config items))
