-- What is looked for is found from here on.
use Rattle.std.proofs.Common.{◌≡◌, false, take, drop}
use Rattle.htmd_commonmark_reading.specs.LinkDefinitions.{until_sign}
use Rattle.htmd_commonmark_reader.specs.Fronts.{behind}
use Rattle.htmd_commonmark_reader.proofs.link_definitions.sign_at.Given as goal

abbrev pub invariant-loop-at : goal.invariant-loop-at
invariant-loop-at l =
    behind (take l.at l.bytes) (until_sign l.stop l.refused l.is_escaped (drop l.at l.bytes))
    ≡ until_sign l.stop l.refused false l.bytes
