use Rattle.std.proofs.Common.{◌+◌, drop}
use Rattle.htmd_shown.specs.SimpleViews.{simple_of, simples_of}
use Rattle.htmd_flow.specs.Flows as spec
use Rattle.htmd_flow.specs.FlowViews.{node_at}
use Rattle.htmd_flow.specs.PieceViews as views
use Rattle.htmd_flow.proofs.TablePieceLemmas.{pieces_next, pieces_end, pieces_step, pieces_done}
use Rattle.htmd_flow.proofs.table_pieces.pieces_of.Goals as goal

pub loop-node-preserved : goal.loop-node-preserved
loop-node-preserved c =
    let ts = c.args.table.now in
    let k = c.loop-node.node-index in
    let n = c.node-item.result in
    pieces_step (spec.pieces_at (node_at n) (spec.rows_at spec.no_part (simple_of n)))
    (views.pieces_in c.loop-node.pieces.items) (views.pieces_in c.push_piece.new.pieces.items)
    (spec.pieces_of (simples_of (drop (k + 1) ts))) (spec.pieces_of (simples_of (drop k ts))) _
    c.in_ok-push_piece.ensures (pieces_next ts k n c.loop-node-test.true c.node-item.is) c.loop-node.invariant

pub returns : goal.returns
returns c =
    pieces_done (views.pieces_in c.loop-node.pieces.items)
    (spec.pieces_of (simples_of (drop c.loop-node.node-index c.args.table.now))) _
    (pieces_end c.args.table.now c.loop-node.node-index c.loop-node-test.false) c.loop-node.invariant
