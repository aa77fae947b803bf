-- The element here is the first.
use Rattle.std.proofs.Common.{◌≡◌, ◌∙◌, ◌+◌, suc, sym, arith, take, drop}
use Rattle.std.proofs.lemmas.List.{drop_more, take-append-drop, length-take-le}
use Rattle.htmd_html5_state.proofs.StackLemmas.{first-special}
use Rattle.htmd_html5_state.proofs.open_elements.first_special.Goals as goal

pub returns-then-is_bound : goal.returns-then-is_bound
returns-then-is_bound c =
    first-special c.args.elements.now c.loop-i.i c.index-elements-i.result c.loop-i-test.true c.index-elements-i.is
    (sym c.is_bound.ensures ∙ c.if-is_bound.true) c.loop-i.invariant
