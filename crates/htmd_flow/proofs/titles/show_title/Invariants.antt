use Rattle.std.proofs.Common.{◌≡◌, drop, map}
use Rattle.std.specs.List.{list_any}
use Rattle.htmd_shown.specs.SimpleViews.{simple_of}
use Rattle.htmd_flow.specs.Flows as spec
use Rattle.htmd_flow.proofs.titles.show_title.Given as goal

abbrev pub invariant-loop-node : goal.invariant-loop-node
invariant-loop-node l =
    list_any (spec.shows_title l.title) (map simple_of (drop l.node-index l.nodes))
    ≡ list_any (spec.shows_title l.title) (map simple_of l.nodes)
