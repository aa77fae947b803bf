use Rattle.std.proofs.Common.{◌+◌, ◌++◌, [], drop, map, sym, ap, ◌∙◌}
use Rattle.htmd_shown.specs.SimpleViews.{simple_of, simples_of}
use Rattle.htmd_flow.specs.Flows as spec
use Rattle.htmd_flow.specs.PieceViews as views
use Rattle.htmd_flow.proofs.TablePieceLemmas.{rows_mapped, rows_mapped_end, no_row_in_part, pushed_in_part}
use Rattle.htmd_flow.proofs.TablePieceLemmas.{pieces_step, pieces_done}
use Rattle.htmd_flow.proofs.table_pieces.push_rows.Goals as goal

pub loop-node-preserved-then-not-is_row : goal.loop-node-preserved-then-not-is_row
loop-node-preserved-then-not-is_row c =
    let ts = c.args.nodes.now in
    let k = c.loop-node.node-index in
    let n = c.node-item.result in
    let p = spec.part_of (simple_of c.args.part.now) in
    let rest = map spec.of_row (spec.rows_among p (simples_of (drop (k + 1) ts))) in
    sym (ap (λ xs. views.pieces_in c.loop-node.pieces.items ++ xs)
    (rows_mapped p ts k n c.loop-node-test.true c.node-item.is
    ∙ ap (λ rs. map spec.of_row rs ++ rest) (no_row_in_part c.args.part.now n c.requires
    (sym c.is_row.ensures ∙ c.if-not-is_row.true))))
    ∙ c.loop-node.invariant

pub loop-node-preserved : goal.loop-node-preserved
loop-node-preserved c =
    let ts = c.args.nodes.now in
    let k = c.loop-node.node-index in
    let n = c.node-item.result in
    let p = spec.part_of (simple_of c.args.part.now) in
    pieces_step (map spec.of_row (spec.rows_at p (simple_of n)))
    (views.pieces_in c.loop-node.pieces.items) (views.pieces_in c.push.new.self.items)
    (map spec.of_row (spec.rows_among p (simples_of (drop (k + 1) ts))))
    (map spec.of_row (spec.rows_among p (simples_of (drop k ts)))) _
    (pushed_in_part _ _ _ c.in_ok-push.ensures.items (sym c.is_row.ensures ∙ c.if-not-is_row.false) c.requires)
    (rows_mapped p ts k n c.loop-node-test.true c.node-item.is) c.loop-node.invariant

pub returns : goal.returns
returns c =
    let p = spec.part_of (simple_of c.args.part.now) in
    pieces_done (views.pieces_in c.loop-node.pieces.items)
    (map spec.of_row (spec.rows_among p (simples_of (drop c.loop-node.node-index c.args.nodes.now)))) _
    (rows_mapped_end p c.args.nodes.now c.loop-node.node-index c.loop-node-test.false) c.loop-node.invariant
