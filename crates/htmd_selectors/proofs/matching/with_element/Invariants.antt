use Rattle.std.proofs.Common.{◌≡◌, ◌++◌, drop, vec_len}
use Rattle.htmd_selectors.specs.SelectorStates as spec
use Rattle.htmd_selectors.proofs.matching.with_element.Given as goal

abbrev pub invariant-loop-i : goal.invariant-loop-i
invariant-loop-i l = record {
  count : vec_len l.more ≡ l.i;
  rest : l.more.items ++ spec.with_element (drop l.i l.named) (drop l.i l.states)
      ≡ spec.with_element l.named l.states;
}
