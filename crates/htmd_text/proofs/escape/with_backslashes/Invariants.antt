-- What the loop of `with_backslashes` keeps.
use Rattle.std.specs.String.{string_bytes}
use Rattle.htmd_text.specs.EscapeKinds.{is_escaped_by}
use Rattle.htmd_text.proofs.EscapedPlacesLemmas.{Writing}
use Rattle.htmd_text.proofs.escape.with_backslashes.Given as goal

abbrev pub invariant-loop-i : goal.invariant-loop-i
invariant-loop-i l = Writing (is_escaped_by l.kind l.text) l.text (string_bytes l.escaped) l.from l.i
