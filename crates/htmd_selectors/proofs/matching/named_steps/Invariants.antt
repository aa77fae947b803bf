use Rattle.std.proofs.Common.{◌≡◌, ◌++◌, drop, vec_len, false}
use Rattle.htmd_selectors.specs.ElementViews.{element_of}
use Rattle.htmd_selectors.specs.SelectorStates as spec
use Rattle.htmd_selectors.specs.Views.{steps_of}
use Rattle.htmd_selectors.proofs.matching.named_steps.Given as goal

abbrev pub invariant-loop-i : goal.invariant-loop-i
invariant-loop-i l = record {
  count : vec_len l.named ≡ l.i;
  rest : l.named.items ++ spec.named_steps l.same l.above l.near (element_of l.e) (steps_of (drop l.i l.steps))
      (drop l.i l.known.parent.now) (drop l.i l.known.beside.items)
      ≡ spec.named_steps false spec.no_state spec.no_state (element_of l.e) (steps_of l.steps) l.known.parent.now
      l.known.beside.items;
}
