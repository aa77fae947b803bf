use Rattle.std.proofs.Common.{◌≡◌, drop}
use Rattle.htmd_addresses.specs.Leads.{ends_scheme}
use Rattle.htmd_addresses.proofs.leads.ends_scheme.Given as goal

abbrev pub invariant-loop-b : goal.invariant-loop-b
invariant-loop-b l = ends_scheme (drop l.b-index l.address) ≡ ends_scheme l.address
