-- Those that are left are still to come.
use Rattle.std.proofs.Common.{◌≡◌, ◌++◌, drop}
use Rattle.htmd_html5_state.specs.Views.{numbers_of}
use Rattle.htmd_html5_state.proofs.children.Children.extend.Given as goal

abbrev pub invariant-loop-child : goal.invariant-loop-child
invariant-loop-child l =
    numbers_of l.self ++ drop l.child-index l.children ≡ numbers_of l.fn.self ++ l.children
