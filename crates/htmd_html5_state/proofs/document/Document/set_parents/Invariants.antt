-- Those that are left are still to be done with.
use Rattle.std.proofs.Common.{◌≡◌, drop}
use Rattle.htmd_html5_state.specs.Nodes.{with_parents}
use Rattle.htmd_html5_state.proofs.document.Document.set_parents.Given as goal

abbrev pub invariant-loop-child : goal.invariant-loop-child
invariant-loop-child l =
    with_parents l.parent (drop l.child-index l.children) l.self ≡ with_parents l.parent l.children l.fn.self
