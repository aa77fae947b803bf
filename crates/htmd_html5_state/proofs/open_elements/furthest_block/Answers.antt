-- The block, what is inside it, and what is around it.
use Rattle.std.proofs.Common.{◌≡◌, ◌∙◌, sym, ap, false}
use Rattle.std.specs.List.{list_any}
use Rattle.htmd_html5_state.specs.OpenViews.{is_special, stack_of, IsFirstSpecial}
use Rattle.htmd_html5_state.proofs.StackLemmas.{furthest-none, none-special, furthest-split}
use Rattle.htmd_html5_state.proofs.open_elements.furthest_block.Goals as goal

pub returns-in_default : goal.returns-in_default
returns-in_default c =
    let none : list_any is_special c.args.inside.items ≡ false = rw c.deref.ensures.value at c.in_default.ensures in
    sym (furthest-none (stack_of c.args.inside.items) (none-special c.args.inside.items none))

pub returns-in-Some-pop : goal.returns-in-Some-pop
returns-in-Some-pop c =
    let first : IsFirstSpecial c.args.inside.items c.in-Some.index = rw c.deref.ensures.value at c.in-Some.ensures in
    sym (furthest-split c.args.inside.items c.in-Some.index c.pop.new.self.items c.in_ok-inner.inner.items
    c.in-Some-pop.block first c.in_ok-inner.ensures.tail
    (sym c.in-Some-pop.ensures.items ∙ c.in_ok-inner.ensures.items))
