-- The second element that the program holds.
use Rattle.std.proofs.Common.{◌≡◌, ◌∙◌, sym, ap, arith}
use Rattle.htmd_html5_state.specs.OpenElements.{second_open}
use Rattle.htmd_html5_state.specs.OpenViews.{stack_of}
use Rattle.htmd_html5_state.proofs.StackLemmas.{second_open-at, second_open-short}
use Rattle.htmd_html5_state.proofs.open_elements.OpenElements.second_open.Goals as goal

pub returns-in-len2-up : goal.returns-in-len2-up
returns-in-len2-up c =
    let at = second_open-at c.args.set c.as_slice.result.now c.second-item.result c.in-len2-up.len_at_least
    c.second-item.is
    in
    sym (rw (sym c.holds.ensures ∙ c.if-holds.true) at at)
    ∙ ap (second_open c.args.set) (ap stack_of c.as_slice.ensures.value ∙ c.self.view_is)

pub returns-in_default : goal.returns-in_default
returns-in_default c =
    sym (second_open-short c.args.set c.as_slice.result.now (omega (arith, c.in_default.len_below)))
    ∙ ap (second_open c.args.set) (ap stack_of c.as_slice.ensures.value ∙ c.self.view_is)

pub returns-in_default-2 : goal.returns-in_default-2
returns-in_default-2 c =
    let at = second_open-at c.args.set c.as_slice.result.now c.second-item.result c.in-len2-up.len_at_least
    c.second-item.is
    in
    sym (rw (sym c.holds.ensures ∙ c.if-holds.false) at at)
    ∙ ap (second_open c.args.set) (ap stack_of c.as_slice.ensures.value ∙ c.self.view_is)
