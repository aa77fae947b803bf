-- What is inside is rearranged.
use Rattle.std.proofs.Common.{◌≡◌, ◌∙◌, sym, ap, List, Option, Some}
use Rattle.std.specs.Prelude.{option_map}
use Rattle.htmd_html5_state.specs.OpenElements.{OpenValue, inside, around}
use Rattle.htmd_html5_state.specs.State.{StateValue, on_stack}
use Rattle.htmd_html5_state.specs.StateViews.{state_of}
use Rattle.htmd_html5_state.specs.OpenViews.{furthest_of}
use Rattle.htmd_html5_state.specs.Adoption.{Furthest, furthest_block, adopt, goes_on, round_by, round_open}
use Rattle.htmd_html5_state.proofs.state.HtmlState.round_open.Goals as goal

pub returns-in_ok-adopt-in-Some : goal.returns-in_ok-adopt-in-Some
returns-in_ok-adopt-in-Some c =
    let v : StateValue = state_of c.self.inside in
    let n = c.args.formatting in
    let tag = c.args.tag in
    let found : furthest_block (inside n v.stack) ≡ Some (furthest_of c.in-Some.furthest) =
    sym (c.in_ok-furthest.ensures ∙ ap furthest_block c.in_ok-inside.ensures.inside)
    ∙ ap (option_map furthest_of) c.in-Some.is in
    let left = ap (λ (x : List OpenValue). record v { stack = x }) c.in_ok-inside.ensures.around in
    ap goes_on (c.in_ok-adopt-in-Some.ensures ∙ ap (adopt n tag (furthest_of c.in-Some.furthest)) left)
    ∙ (sym (ap (λ (f : Option Furthest). round_by n tag f (on_stack (around n) v)) found)
    ∙ ap (round_open tag n) c.self.view_is)
