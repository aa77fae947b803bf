use Rattle.std.proofs.Common.{◌∙◌, sym}
use Rattle.htmd_shown.specs.Kinds.{has}
use Rattle.htmd_shown.specs.Roles.{is_head}
use Rattle.htmd_shown.specs.SimpleViews.{simple_of}
use Rattle.htmd_flow.proofs.LoopsLemmas.{any_passed, any_failed, any_done}
use Rattle.htmd_flow.proofs.table_form.has_head.Goals as goal

pub returns-then-is_head : goal.returns-then-is_head
returns-then-is_head c =
    any_passed (has is_head) simple_of c.args.table.now c.loop-node.node-index c.node-item.result _
    c.loop-node-test.true c.node-item.is (sym c.is_head.ensures ∙ c.if-is_head.true) c.loop-node.invariant

pub loop-node-preserved : goal.loop-node-preserved
loop-node-preserved c =
    any_failed (has is_head) simple_of c.args.table.now c.loop-node.node-index c.node-item.result _
    c.loop-node-test.true c.node-item.is (sym c.is_head.ensures ∙ c.if-is_head.false) c.loop-node.invariant

pub returns : goal.returns
returns c =
    any_done (has is_head) simple_of c.args.table.now c.loop-node.node-index _ c.loop-node-test.false
    c.loop-node.invariant
