-- None of the names so far is hidden.
use Rattle.std.proofs.Common.{◌≡◌, drop, true}
use Rattle.htmd_files.specs.Names.{hides}
use Rattle.htmd_files.proofs.names.hides.Given as goal

abbrev pub invariant-loop-byte : goal.invariant-loop-byte
invariant-loop-byte l = hides true l.path ≡ hides l.begins (drop l.byte-index l.path)
