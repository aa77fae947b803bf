-- No element that was met is special.
use Rattle.std.proofs.Common.{◌≡◌, false, take}
use Rattle.std.specs.List.{list_any}
use Rattle.htmd_html5_state.specs.OpenViews.{is_special}
use Rattle.htmd_html5_state.proofs.open_elements.first_special.Given as goal

abbrev pub invariant-loop-i : goal.invariant-loop-i
invariant-loop-i l = list_any is_special (take l.i l.elements) ≡ false
