-- The ways up so far, and those that follow.
use Rattle.std.proofs.Common.{◌≡◌, ◌++◌, drop, map, string_bytes}
use Rattle.htmd_addresses.specs.Leads.{escaped}
use Rattle.htmd_addresses.specs.PageViews.{names_of}
use Rattle.htmd_addresses.specs.Paths.{parent}
use Rattle.htmd_addresses.proofs.leads.push_parents.Given as goal

abbrev pub invariant-loop-name : goal.invariant-loop-name
invariant-loop-name l =
    string_bytes l.address ++ escaped (map (λ name. parent) (names_of (drop l._name-index l.names)))
    ≡ string_bytes l.fn.address ++ escaped (map (λ name. parent) (names_of l.names))
