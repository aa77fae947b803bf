-- Slashes so far, and what follows as it was.
use Rattle.std.proofs.Common.{◌≡◌, ◌++◌, drop, map, take}
use Rattle.htmd_addresses.specs.Leads.{with_slash}
use Rattle.htmd_addresses.proofs.leads.put_slashes.Given as goal

abbrev pub invariant-loop-b : goal.invariant-loop-b
invariant-loop-b l = l.path ≡ map with_slash (take l.b-index l.initial.path) ++ drop l.b-index l.initial.path
