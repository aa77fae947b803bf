-- What the loop of `is_lower_case` keeps.
use Rattle.std.proofs.Common.{◌≡◌, drop}
use Rattle.std.specs.Prelude.{◌==◌}
use Rattle.std.specs.Char.{to_ascii_lowercase}
use Rattle.std.specs.List.{list_all}
use Rattle.htmd_tree.proofs.reader.tags.is_lower_case.Given as goal

abbrev pub invariant-loop-byte : goal.invariant-loop-byte
invariant-loop-byte l =
    list_all (λ b. to_ascii_lowercase b == b) (drop l.byte-index l.name)
    ≡ list_all (λ b. to_ascii_lowercase b == b) l.name
