-- The name was not met so far.
use Rattle.std.proofs.Common.{◌≡◌, drop, map, find}
use Rattle.htmd_html5_state.specs.Foreign.{is_in_any_case}
use Rattle.htmd_html5_state.proofs.foreign.capitalised.Given as goal

abbrev pub invariant-loop-known : goal.invariant-loop-known
invariant-loop-known l =
    find (λ known. is_in_any_case known l.name) (map (λ n. n.now) (drop l.known-index l.names))
    ≡ find (λ known. is_in_any_case known l.name) (map (λ n. n.now) l.names)
