-- The innermost element that may have a mode decides.
use Rattle.std.proofs.Common.{◌≡◌, ◌∙◌, ◌∷◌, [], List, Option, sym, ap}
use Rattle.std.specs.Prelude.{unwrap_or}
use Rattle.htmd_html5_state.specs.OpenElements.{OpenValue}
use Rattle.htmd_html5_state.specs.OpenViews.{open_of, stack_of}
use Rattle.htmd_html5_state.specs.Places.{back_to, has_one}
use Rattle.htmd_html5_state.specs.ResettingViews.{deciding}
use Rattle.htmd_html5_state.specs.State.{StateValue}
use Rattle.htmd_html5_state.specs.declared.modes.InsertionMode.{InsertionMode}
use Rattle.htmd_html5_state.specs.declared.modes.InsertionMode.TheVariants.{InBody}
use Rattle.htmd_html5_state.specs.declared.names.TagName.{TagName}
use Rattle.htmd_html5_state.proofs.ResettingLemmas.{mode-at, mode-nowhere, select-at}
use Rattle.htmd_html5_state.proofs.StackLemmas.{empty-stack}
use Rattle.htmd_html5_state.proofs.state.HtmlState.mode_of.Goals as goal

pub returns-in-Some : goal.returns-in-Some
returns-in-Some c =
    let stack : List OpenValue = c.args.self.now.stack in
    let e : OpenValue = open_of c.in-Some.element.now in
    let outer : List OpenValue = stack_of c.in-Some.outer.now in
    let whole : back_to (has_one deciding) stack ≡ e ∷ outer =
    sym (c.up_to_any.ensures ∙ (ap (back_to (has_one c.deciding.result.now))
    (ap (λ (s : StateValue). s.stack) c.self.view_is)
    ∙ ap (λ (ts : List TagName). back_to (has_one ts) stack) c.deciding.ensures))
    ∙ c.in-Some.ensures.stack in
    c.unwrap_or.ensures
    ∙ (ap (λ (o : Option InsertionMode). unwrap_or o InBody)
    (c.mode_for_name.ensures outer (c.is_empty.ensures ∙ empty-stack c.in-Some.outer.now)
    (select-at stack e outer whole))
    ∙ sym (mode-at stack c.args.self.now e outer whole))

pub returns-in-None : goal.returns-in-None
returns-in-None c =
    let stack : List OpenValue = c.args.self.now.stack in
    let whole : back_to (has_one deciding) stack ≡ [] =
    sym (c.up_to_any.ensures ∙ (ap (back_to (has_one c.deciding.result.now))
    (ap (λ (s : StateValue). s.stack) c.self.view_is)
    ∙ ap (λ (ts : List TagName). back_to (has_one ts) stack) c.deciding.ensures))
    ∙ c.in-None.ensures.stack in
    sym (mode-nowhere stack c.args.self.now whole)
