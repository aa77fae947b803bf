use Rattle.std.proofs.Common.{◌≡◌, drop, map}
use Rattle.std.specs.List.{list_all}
use Rattle.htmd_flow.specs.Tables as spec
use Rattle.htmd_shown.specs.SimpleViews.{simple_of}
use Rattle.htmd_flow.proofs.table_form.holds_table_alone.Given as goal

abbrev pub invariant-loop-node : goal.invariant-loop-node
invariant-loop-node l =
    list_all (spec.is_table_child l.is_rich) (map simple_of (drop l.node-index l.table))
    ≡ list_all (spec.is_table_child l.is_rich) (map simple_of l.table)
