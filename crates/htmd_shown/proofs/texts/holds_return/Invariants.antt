-- What the loop of `holds_return` keeps.
use Rattle.std.proofs.Common.{◌≡◌, take}
use Rattle.std.specs.List.{list_any}
use Rattle.htmd_shown.specs.TextViews.{is_return}
use Rattle.htmd_shown.proofs.texts.holds_return.Given as goal

abbrev pub invariant-loop-b : goal.invariant-loop-b
invariant-loop-b l = l.found ≡ list_any is_return (take l.b-index l.bytes)
