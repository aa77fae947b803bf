-- Those that are left are opened again after those that were.
use Rattle.std.proofs.Common.{◌≡◌, vec_len}
use Rattle.htmd_html5_state.specs.Formatting.{reopen_all, reconstruct}
use Rattle.htmd_html5_state.proofs.state.HtmlState.reconstruct.Given as goal

abbrev pub invariant-loop-node : goal.invariant-loop-node
invariant-loop-node l = reopen_all l.closed.items l.self ≡ reconstruct l.fn.self

abbrev pub decreases-loop-node : goal.decreases-loop-node
decreases-loop-node l = vec_len l.closed
