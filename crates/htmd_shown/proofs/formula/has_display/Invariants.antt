use Rattle.std.proofs.Common.{◌≡◌, false, take, length}
use Rattle.std.specs.List.{list_any, slice_split}
use Rattle.htmd_shown.specs.Formulas.{is_semicolon, says_display}
use Rattle.htmd_shown.proofs.formula.has_display.Given as goal

-- none of the parts so far is one
abbrev pub invariant-loop-part : goal.invariant-loop-part
invariant-loop-part l =
    list_any says_display (take (length l.yielded) (slice_split is_semicolon l.parts)) ≡ false
