-- What closures answer, against what a rule names.
use Rattle.std.specs.Prelude.{◌≡◌, Option, Result, IfOk}
use Rattle.std.specs.Borrow.{Bor}
use Rattle.std.specs.declared.alloc.AllocError.{AllocError}
use Rattle.std.specs.declared.alloc.Global.{Global}
use Rattle.htmd_walk.specs.declared.element_handler.Element.{Element}
use Rattle.htmd_walk.specs.declared.element_handler.fn_handler.FnHandler.{FnHandler}
use Rattle.htmd_walk.specs.declared.element_handler.HandlerResult.{HandlerResult}
use Rattle.htmd_walk.specs.declared.element_handler.Plan.{Plan}
use Rattle.htmd_walk.specs.Handling.{ElementView, ResultView, PlanView, IsProper}
use Rattle.htmd_walk.specs.Views.{plan_view, element_view, result_view, optional_result}

-- the rule of a handler of closures, the closure that plans, and the one that finishes
abbrev pub rule_of : {M P F : Type 0} → FnHandler M P F → M
rule_of handler = handler.rule

abbrev pub planner_of : {M P F : Type 0} → FnHandler M P F → P
planner_of handler = handler.plan

abbrev pub finisher_of : {M P F : Type 0} → FnHandler M P F → F
finisher_of handler = handler.finish

-- what a call of a closure that plans may give
abbrev pub PlanCalls : Type 1
PlanCalls = Global → Bor Element → Result Plan AllocError → Type 0

-- what a call of a closure that finishes may give
abbrev pub FinishCalls : Type 1
FinishCalls = Global → Bor Element → HandlerResult → Result (Option HandlerResult) AllocError → Type 0

-- each plan is the one that is named
abbrev pub PlansAs : (ElementView → PlanView) → PlanCalls → Type 0
PlansAs named gives =
    (a : Global) (e : Bor Element) (r : Result Plan AllocError) → gives a e r
    → IfOk r (λ p. plan_view p ≡ named (element_view e.now))

-- each descendant that is asked for is a proper one
abbrev pub PlansBelow : PlanCalls → Type 0
PlansBelow gives =
    (a : Global) (e : Bor Element) (r : Result Plan AllocError) → gives a e r
    → IfOk r (λ p. IsProper e.now.tree.now e.now.node (plan_view p))

-- each result is the one that is named
abbrev pub FinishesAs : (ElementView → ResultView → Option ResultView) → FinishCalls → Type 0
FinishesAs named gives =
    (a : Global) (e : Bor Element) (c : HandlerResult) (r : Result (Option HandlerResult) AllocError) → gives a e c r
    → IfOk r (λ x. optional_result x ≡ named (element_view e.now) (result_view c))
