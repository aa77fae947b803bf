-- What a handler means: what it asks for, what it makes of what it asked for, what it puts after a conversion.
use Rattle.std.specs.Prelude.{ℕ, List, [], Option, None, Bool, All}
use Rattle.htmd_nodes.specs.Items.{Item, IsBelow}
use Rattle.htmd_walk.specs.declared.options.Options.{Options}

-- what a handler is shown of an element: the tree, the element, the text of its only child, the options,
-- and whether all before it is Markdown
pub record ElementView : Type 0 where
  pub items : List Item
  pub node : ℕ
  pub text : Option (List ℕ)
  pub options : Options
  pub markdown_translated : Bool

-- a text, and whether all of it is Markdown
pub record ResultView : Type 0 where
  pub content : List ℕ
  pub markdown_translated : Bool

-- what a handler asks for: nothing more, since there is nothing, or the result is there, or it is the element's raw
-- HTML; or some content
pub data PlanView : Type 0 where
  nothing : PlanView
  this_result : (result : ResultView) → PlanView
  raw_html : PlanView
  content_of_children : PlanView
  content_of_descendant : (node : ℕ) → PlanView
  content_of_fallback : PlanView
  -- each of these nodes by itself, in order
  contents_of_each : (nodes : List ℕ) → PlanView

-- a descendant that is asked for is a proper one
abbrev pub IsProper : List Item → ℕ → PlanView → Type 0
IsProper items node nothing = Unit {0}
IsProper items node (this_result result) = Unit {0}
IsProper items node raw_html = Unit {0}
IsProper items node content_of_children = Unit {0}
IsProper items node (content_of_descendant d) = ∥ IsBelow items node d ∥₁
IsProper items node content_of_fallback = Unit {0}
IsProper items node (contents_of_each nodes) = All (λ d. ∥ IsBelow items node d ∥₁) nodes

-- what a handler makes of what it asked for: a result or nothing, and the definitions that it adds
pub record Finish : Type 0 where
  pub result : Option ResultView
  pub added : List (List ℕ)

-- what a handler makes of the contents of nodes: a result or nothing; or it asks for the children's content
-- too, and finishes with that
pub data OutcomeView : Type 0 where
  final_result : (result : Option ResultView) → OutcomeView
  children_too : OutcomeView

-- a handler; what it finishes with may look at the definitions so far
pub record HandlerMeaning : Type 0 where
  pub plan : ElementView → PlanView
  pub finish : ElementView → ResultView → List (List ℕ) → Finish
  pub finish_each : ElementView → List ResultView → OutcomeView
  pub append : List (List ℕ) → Option (List ℕ)

-- a result or nothing, and no definition
abbrev pub without_definitions : Option ResultView → Finish
without_definitions result = record { result = result; added = [] }

-- a handler that asks by this plan, and finishes by this function of what it is shown and of the content
abbrev pub of_plan : (ElementView → PlanView) → (ElementView → ResultView → Option ResultView)
    → HandlerMeaning
of_plan plan finish = record {
  plan = plan;
  finish = λ view content definitions. without_definitions (finish view content);
  finish_each = λ view contents. final_result None;
  append = λ definitions. None;
}

-- a handler that knows nothing of definitions
abbrev pub of_functions :
    (ElementView → PlanView) → (ElementView → ResultView → Option ResultView) → Option (List ℕ)
    → HandlerMeaning
of_functions plan finish append = record {
  plan = plan;
  finish = λ view content definitions. without_definitions (finish view content);
  finish_each = λ view contents. final_result None;
  append = λ definitions. append;
}
