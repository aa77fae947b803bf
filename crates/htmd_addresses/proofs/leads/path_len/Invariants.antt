-- No query and no fragment begins so far.
use Rattle.std.proofs.Common.{◌≡◌, ◌+◌, drop}
use Rattle.htmd_addresses.specs.Leads.{path_len}
use Rattle.htmd_addresses.proofs.leads.path_len.Given as goal

abbrev pub invariant-loop-len : goal.invariant-loop-len
invariant-loop-len l = l.len + path_len (drop l.len l.address) ≡ path_len l.address
