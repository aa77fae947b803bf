-- What the loop of `has_special` keeps.
use Rattle.std.proofs.Common.{◌≡◌, take}
use Rattle.std.specs.List.{list_any}
use Rattle.htmd_text.specs.EscapeKinds.{is_special}
use Rattle.htmd_text.proofs.escape.has_special.Given as goal

abbrev pub invariant-loop-b : goal.invariant-loop-b
invariant-loop-b l = l.has ≡ list_any is_special (take l.b-index l.bytes)
