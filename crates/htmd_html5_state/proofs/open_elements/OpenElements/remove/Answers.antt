-- The innermost element goes.
use Rattle.std.proofs.Common.{◌≡◌, ◌∙◌, sym, ap, false, arith}
use Rattle.htmd_html5_state.specs.OpenElements.{without, is_open_node}
use Rattle.htmd_html5_state.specs.OpenViews.{stack_of, IsInnermost}
use Rattle.htmd_html5_state.proofs.StackLemmas.{IsInnermost-without, without-none}
use Rattle.htmd_html5_state.proofs.open_elements.OpenElements.remove.Goals as goal

pub returns-then-not-is_open_node : goal.returns-then-not-is_open_node
returns-then-not-is_open_node c =
    let h : is_open_node c.args.node c.args.self.now ≡ false = grind (arith, c.is_open_node.ensures) in
    sym (without-none c.args.node c.args.self.now h)

pub returns-in-Some : goal.returns-in-Some
returns-in-Some c =
    let at : IsInnermost c.args.node c.self.inside.elements.items c.in-Some.index =
    rw c.deref.ensures.value at c.in-Some.ensures in
    ap stack_of c.take_out.ensures.items
    ∙ (IsInnermost-without c.args.node c.self.inside.elements.items c.in-Some.index at
    ∙ ap (without c.args.node) c.self.view_is)

pub returns-in_default : goal.returns-in_default
returns-in_default c =
    sym (without-none c.args.node c.args.self.now (rw (c.deref.ensures.value, c.self.view_is) at c.in_default.ensures))
