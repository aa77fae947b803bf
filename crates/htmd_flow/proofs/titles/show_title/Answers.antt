use Rattle.std.proofs.Common.{◌∙◌, sym}
use Rattle.htmd_shown.specs.SimpleViews.{simple_of}
use Rattle.htmd_flow.specs.Flows as spec
use Rattle.htmd_flow.proofs.LoopsLemmas.{any_passed, any_failed, any_done}
use Rattle.htmd_flow.proofs.titles.show_title.Goals as goal

pub returns-then-shows_title : goal.returns-then-shows_title
returns-then-shows_title c =
    any_passed (spec.shows_title c.args.title) simple_of c.args.nodes.now c.loop-node.node-index c.node-item.result _
    c.loop-node-test.true c.node-item.is (sym c.shows_title.ensures ∙ c.if-shows_title.true) c.loop-node.invariant

pub loop-node-preserved : goal.loop-node-preserved
loop-node-preserved c =
    any_failed (spec.shows_title c.args.title) simple_of c.args.nodes.now c.loop-node.node-index c.node-item.result _
    c.loop-node-test.true c.node-item.is (sym c.shows_title.ensures ∙ c.if-shows_title.false) c.loop-node.invariant

pub returns : goal.returns
returns c =
    any_done (spec.shows_title c.args.title) simple_of c.args.nodes.now c.loop-node.node-index _ c.loop-node-test.false
    c.loop-node.invariant
