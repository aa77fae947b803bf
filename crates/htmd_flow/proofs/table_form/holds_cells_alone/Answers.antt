use Rattle.std.proofs.Common.{◌∙◌, sym}
use Rattle.htmd_flow.specs.Tables as spec
use Rattle.htmd_shown.specs.SimpleViews.{simple_of}
use Rattle.htmd_flow.proofs.LoopsLemmas.{all_passed, all_failed, all_done}
use Rattle.htmd_flow.proofs.table_form.holds_cells_alone.Goals as goal

pub returns-then-not-is_cell_or_nothing : goal.returns-then-not-is_cell_or_nothing
returns-then-not-is_cell_or_nothing c =
    all_failed (spec.is_cell_or_nothing c.args.is_rich) simple_of c.args.row.now c.loop-node.node-index
    c.node-item.result _
    c.loop-node-test.true c.node-item.is (sym c.is_cell_or_nothing.ensures ∙ c.if-not-is_cell_or_nothing.true)
    c.loop-node.invariant

pub loop-node-preserved : goal.loop-node-preserved
loop-node-preserved c =
    all_passed (spec.is_cell_or_nothing c.args.is_rich) simple_of c.args.row.now c.loop-node.node-index
    c.node-item.result _
    c.loop-node-test.true c.node-item.is (sym c.is_cell_or_nothing.ensures ∙ c.if-not-is_cell_or_nothing.false)
    c.loop-node.invariant

pub returns : goal.returns
returns c =
    all_done (spec.is_cell_or_nothing c.args.is_rich) simple_of c.args.row.now c.loop-node.node-index _
    c.loop-node-test.false
    c.loop-node.invariant
