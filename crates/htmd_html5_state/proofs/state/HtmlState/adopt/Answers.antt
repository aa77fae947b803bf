-- The parts of the new stack, and the steps before.
use Rattle.std.proofs.Common.{◌≡◌, ◌∙◌, ◌∷◌, ◌++◌, ap, List}
use Rattle.std.proofs.lemmas.Result.{on_ok_weaker}
use Rattle.htmd_html5_state.specs.Names.{html, known}
use Rattle.htmd_html5_state.specs.Insertion.{opened}
use Rattle.htmd_html5_state.specs.OpenElements.{OpenValue}
use Rattle.htmd_html5_state.specs.OpenViews.{open_of, all_open_of, stack_of, furthest_of}
use Rattle.htmd_html5_state.specs.State.{StateValue}
use Rattle.htmd_html5_state.specs.StateViews.{state_of}
use Rattle.htmd_html5_state.proofs.AdoptionLemmas.{adopted}
use Rattle.htmd_html5_state.proofs.state.HtmlState.adopt.Goals as goal

pub returns : goal.returns
returns c =
    let v : StateValue = state_of c.self.inside in
    let inner = stack_of c.args.furthest.inner.items in
    let block = open_of c.args.furthest.block in
    let copies = all_open_of c.in_ok-chain.chain.copies.items in
    let copy = opened c.in_ok-copy.copy (html (known c.args.tag)) in
    let pushed : c.push.new.self ≡ copy ∷ block ∷ (copies ++ v.stack) =
    c.in_ok-push.ensures
    ∙ ap (λ (x : List OpenValue). copy ∷ x) (c.in_ok-push_element.ensures
    ∙ ap (λ (x : List OpenValue). block ∷ x) c.in_ok-push_inside_out.ensures) in
    let done = adopted c.args.formatting c.args.tag (furthest_of c.args.furthest) c.args.self.now c.chain.new.self
    c.move_last.new.self c.wrap_children.new.self v copies c.in_ok-chain.chain.last c.in_ok-chain.chain.bookmark
    c.in_ok-copy.copy c.in_ok-chain.ensures c.in_ok-move_last.ensures c.in_ok-copy.ensures.number
    c.in_ok-copy.ensures.ok (c.self.view_is ∙ c.in_ok-replace_formatting.ensures) in
    on_ok_weaker c.append.result
    (λ e. ap (λ (x : List OpenValue). record v { stack = x })
    (e ∙ ap (λ (x : List OpenValue). inner ++ x) pushed) ∙ done)
    c.append.ensures
