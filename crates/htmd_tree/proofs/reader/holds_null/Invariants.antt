-- What the loop of `holds_null` keeps.
use Rattle.std.proofs.Common.{◌≡◌, take}
use Rattle.std.specs.Prelude.{◌==◌}
use Rattle.std.specs.List.{list_any}
use Rattle.htmd_lexical.specs.Characters.{null}
use Rattle.htmd_tree.proofs.reader.holds_null.Given as goal

abbrev pub invariant-loop-byte : goal.invariant-loop-byte
invariant-loop-byte l = l.holds ≡ list_any (λ b. b == null) (take l.byte-index l.bytes)
