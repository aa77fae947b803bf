-- What is added is nowhere.
use Rattle.std.proofs.Common.{◌≡◌, ◌≤◌, ◌+◌, ◌-◌, ℕ, get_or, vec_len}
use Rattle.htmd_html5_state.proofs.places.make_room_for_node.Given as goal

abbrev pub invariant-loop-nodes : goal.invariant-loop-nodes
invariant-loop-nodes l =
    ((n : ℕ) → get_or l.nodes.items n 0 ≡ get_or l.fn.nodes.items n 0) × (vec_len l.fn.nodes ≤ vec_len l.nodes)

abbrev pub decreases-loop-nodes : goal.decreases-loop-nodes
decreases-loop-nodes l = l.node + 1 - vec_len l.nodes
