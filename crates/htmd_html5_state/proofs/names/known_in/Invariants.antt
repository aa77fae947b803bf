-- The name was not met so far.
use Rattle.std.proofs.Common.{◌≡◌, drop, find}
use Rattle.htmd_html5_state.specs.Names.{is_spelled}
use Rattle.htmd_html5_state.proofs.names.known_in.Given as goal

abbrev pub invariant-loop-name : goal.invariant-loop-name
invariant-loop-name l = find (is_spelled l.text) (drop l.name-index l.names) ≡ find (is_spelled l.text) l.names
