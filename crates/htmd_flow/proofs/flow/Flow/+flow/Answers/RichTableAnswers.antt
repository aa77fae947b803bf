-- What tables of rich documents give.
use Rattle.std.proofs.Common.{◌+◌, ◌++◌, [], true, false, cond, drop, map, sym, ap, ◌∙◌, arith}
use Rattle.std.proofs.Common.{◌||◌, filter}
use Rattle.std.proofs.lemmas.List.{with_items_is}
use Rattle.htmd_lexical.specs.Attributes.{pairs_of}
use Rattle.htmd_shown.specs.Attributes.{wide_span, row_span, alignment}
use Rattle.htmd_shown.specs.SimpleViews.{simple_of}
use Rattle.htmd_flow.specs.Contexts.{apart}
use Rattle.htmd_flow.specs.ElementViews as elements
use Rattle.htmd_flow.specs.Flows as spec
use Rattle.htmd_flow.specs.FlowViews.{context_in, node_at, nodes_at}
use Rattle.htmd_flow.specs.ParagraphViews.{writing_in}
use Rattle.htmd_flow.specs.Paragraphs.{fed_all, blocks_in}
use Rattle.htmd_flow.specs.PieceViews as pieces
use Rattle.htmd_flow.specs.TableElements as tables
use Rattle.htmd_flow.specs.TableViews.{cells_at}
use Rattle.htmd_flow.proofs.FeedLemmas.{on_ok, fed_apart}
use Rattle.htmd_flow.proofs.RichTablesLemmas.{table_page, table_made, table_unmade, table_kept, row_with_blocks}
use Rattle.htmd_flow.proofs.TablePieceLemmas.{made_step, made_done, kept_at, kept_end, rich_cell_with, cell_lower}
use Rattle.htmd_flow.proofs.TablePieceLemmas.{piece_lower, kept_low, piece_caption, caption_height, row_height}
use Rattle.htmd_flow.proofs.TableRowsLemmas.{cells_passed, cells_next, cells_end}
use Rattle.htmd_flow.proofs.flow.Flow.+flow.Goals as goal

pub rich_cells-loop-node-preserved-then-not-is_cell : goal.rich_cells-loop-node-preserved-then-not-is_cell
rich_cells-loop-node-preserved-then-not-is_cell t c =
    let cell = spec.cell_with_blocks c.args.has_spans c.args.is_in_head
    (context_in c.args.place.now c.args.around.now.items) in
    record {
      cells = sym (ap (λ ns. map elements.cell_of c.loop-node.cells.items ++ map cell ns)
          (cells_passed c.args.row.now c.loop-node.node-index c.node-item.result c.loop-node-test.true c.node-item.is
          (sym c.is_cell.ensures ∙ c.if-not-is_cell.true)))
          ∙ c.loop-node.invariant.cells;
      around = c.loop-node.invariant.around;
    }

pub rich_cells-loop-node-preserved : goal.rich_cells-loop-node-preserved
rich_cells-loop-node-preserved t c =
    let ts = c.args.row.now in
    let k = c.loop-node.node-index in
    let n = c.node-item.result in
    let cell = spec.cell_with_blocks c.args.has_spans c.args.is_in_head in
    let context = context_in c.args.place.now c.args.around.now.items in
    record {
      cells = made_step elements.cell_of c.loop-node.cells.items c.push.new.self.items c.in_ok-cell.cell
          (cell context (node_at n)) (map (cell context) (cells_at (drop (k + 1) ts)))
          (map (cell context) (cells_at (drop k ts)))
          c.in_ok-push.ensures.items
          (c.in_ok-cell.ensures.cell
          ∙ ap (λ a. cell (context_in c.args.place.now a) (node_at n)) c.loop-node.invariant.around)
          (ap (map (cell context)) (cells_next ts k n c.loop-node-test.true c.node-item.is
          (sym c.is_cell.ensures ∙ c.if-not-is_cell.false)))
          ∙ c.loop-node.invariant.cells;
      around = c.in_ok-cell.ensures.around ∙ c.loop-node.invariant.around;
    }

pub rich_cells-returns-clause-cells : goal.rich_cells-returns-clause-cells
rich_cells-returns-clause-cells t c =
    let cell = spec.cell_with_blocks c.args.has_spans c.args.is_in_head
    (context_in c.args.place.now c.args.around.now.items) in
    made_done elements.cell_of c.loop-node.cells.items
    (map cell (cells_at (drop c.loop-node.node-index c.args.row.now))) _
    (ap (map cell) (cells_end c.args.row.now c.loop-node.node-index c.loop-node-test.false))
    c.loop-node.invariant.cells

pub rich_cells-rich_cell-requires : goal.rich_cells-rich_cell-requires
rich_cells-rich_cell-requires t c =
    let h = cell_lower c.args.row.now c.loop-node.node-index c.node-item.result c.loop-node-test.true c.node-item.is
    (sym c.is_cell.ensures ∙ c.if-not-is_cell.false) in
    omega (arith, h, c.decreases)

pub rich_cell-returns-clause-cell : goal.rich_cell-returns-clause-cell
rich_cell-returns-clause-cell t c =
    let context = context_in c.args.place.now c.args.around.now.items in
    let inner = context_in c.in_cell.result c.args.around.now.items in
    rich_cell_with c.args.has_spans c.args.is_in_head context inner c.args.cell.now c.content_of.result.now _ _ _ _ _
    c.content_of.ensures (c.in_cell.ensures c.args.around.now.items) c.is_header.ensures
    (c.wide_span.ensures ∙ ap wide_span c.attributes_of-attrs.ensures)
    (c.rows_of.ensures ∙ ap (λ x. cond c.args.has_spans (row_span x) 1) c.attributes_of-attrs.ensures)
    (c.alignment.ensures ∙ ap alignment c.attributes_of-attrs.ensures)
    (c.in_ok-finish.ensures ∙ ap blocks_in (c.in_ok-among.ensures.out
    ∙ ap (λ w. fed_all w (spec.flow_all (nodes_at c.content_of.result.now) inner)) c.new-content.ensures))

pub rich_pieces-loop-piece-preserved : goal.rich_pieces-loop-piece-preserved
rich_pieces-loop-piece-preserved t c =
    let ps = c.args.kept.now in
    let k = c.loop-piece.piece-index in
    let p = c.piece-item.result in
    let piece = spec.piece_with_blocks c.args.has_spans in
    let context = context_in c.args.place.now c.args.around.now.items in
    record {
      made = made_step elements.piece_of c.loop-piece.made.items c.push.new.self.items c.in_ok-rich_piece.field-0
          (piece context (pieces.piece_of p)) (map (piece context) (pieces.pieces_in (drop (k + 1) ps)))
          (map (piece context) (pieces.pieces_in (drop k ps)))
          c.in_ok-push.ensures.items
          (c.in_ok-rich_piece.ensures.made
          ∙ ap (λ a. piece (context_in c.args.place.now a) (pieces.piece_of p)) c.loop-piece.invariant.around)
          (kept_at (piece context) ps k p c.loop-piece-test.true c.piece-item.is)
          ∙ c.loop-piece.invariant.made;
      around = c.in_ok-rich_piece.ensures.around ∙ c.loop-piece.invariant.around;
    }

pub rich_pieces-rich_piece-requires : goal.rich_pieces-rich_piece-requires
rich_pieces-rich_piece-requires t c =
    let h = piece_lower c.args.kept.now c.loop-piece.piece-index c.piece-item.result c.loop-piece-test.true
    c.piece-item.is in
    omega (arith, h, c.decreases)

pub rich_pieces-returns-clause-made : goal.rich_pieces-returns-clause-made
rich_pieces-returns-clause-made t c =
    let piece = spec.piece_with_blocks c.args.has_spans (context_in c.args.place.now c.args.around.now.items) in
    ap elements.pieces_in (with_items_is c.loop-piece.made c.cut_all.new.pieces
    (c.cut_all.auto.pieces ∙ c.deref_mut.ensures.len))
    ∙ c.cut_all.ensures
    ∙ ap (λ ps. tables.cut_all (elements.pieces_in ps)) c.deref_mut.ensures.value
    ∙ ap tables.cut_all (made_done elements.piece_of c.loop-piece.made.items
    (map piece (pieces.pieces_in (drop c.loop-piece.piece-index c.args.kept.now))) _
    (kept_end piece c.args.kept.now c.loop-piece.piece-index c.loop-piece-test.false)
    c.loop-piece.invariant.made)

pub kept_table-returns-then-is_for_page-clause-out : goal.kept_table-returns-then-is_for_page-clause-out
kept_table-returns-then-is_for_page-clause-out t c =
    on_ok c.among.result c.among.ensures.out (λ e. e
    ∙ ap (fed_all (writing_in c.args.out.now)) (table_page (map simple_of c.args.element.now.content.now)
    (pairs_of c.args.element.now.attrs.now) c.args.has_spans (pieces.pieces_in c.args.kept.now)
    (nodes_at c.args.element.now.content.now) (context_in c.args.place.now c.args.around.now.items)
    (sym c.is_for_page.ensures ∙ c.if-is_for_page.true)))

pub kept_table-returns-then-is_table-clause-out : goal.kept_table-returns-then-is_table-clause-out
kept_table-returns-then-is_table-clause-out t c =
    let attributes = pairs_of c.args.element.now.attrs.now in
    let kept = pieces.pieces_in c.args.kept.now in
    let context = context_in c.args.place.now c.args.around.now.items in
    let made = c.in_ok-made.ensures.made in
    on_ok c.push_rich_table.result c.push_rich_table.ensures (λ e. e
    ∙ ap (λ b. fed_all (writing_in c.args.out.now) (spec.block_part (tables.table_of_pieces b
    (elements.pieces_in c.in_ok-made.made.items)))) c.has_border.ensures
    ∙ ap (λ ps. fed_all (writing_in c.args.out.now) (spec.block_part (tables.table_of_pieces
    (spec.has_border attributes) ps))) made
    ∙ ap (fed_all (writing_in c.args.out.now)) (table_made (map simple_of c.args.element.now.content.now) attributes
    c.args.has_spans kept (nodes_at c.args.element.now.content.now) context
    (sym c.is_for_page.ensures ∙ c.if-is_for_page.false)
    (sym (c.is_table.ensures ∙ ap (λ ps. spec.is_headed attributes kept
    || tables.are_paragraphs (elements.pieces_in ps)) c.as_slice.ensures.value
    ∙ ap (λ ps. spec.is_headed attributes kept || tables.are_paragraphs ps) made) ∙ c.if-is_table.true)))

pub kept_table-returns-clause-out : goal.kept_table-returns-clause-out
kept_table-returns-clause-out t c =
    let attributes = pairs_of c.args.element.now.attrs.now in
    let kept = pieces.pieces_in c.args.kept.now in
    let ns = nodes_at c.args.element.now.content.now in
    let context = context_in c.args.place.now c.args.around.now.items in
    let made = c.in_ok-made.ensures.made in
    on_ok c.among-2.result c.among-2.ensures.out (λ e. e
    ∙ ap (λ a. fed_all (writing_in c.args.out.now) (spec.flow_all ns (context_in c.args.place.now a)))
    c.in_ok-made.ensures.around
    ∙ ap (fed_all (writing_in c.args.out.now)) (table_unmade (map simple_of c.args.element.now.content.now) attributes
    c.args.has_spans kept ns context (sym c.is_for_page.ensures ∙ c.if-is_for_page.false)
    (sym (c.is_table.ensures ∙ ap (λ ps. spec.is_headed attributes kept
    || tables.are_paragraphs (elements.pieces_in ps)) c.as_slice.ensures.value
    ∙ ap (λ ps. spec.is_headed attributes kept || tables.are_paragraphs ps) made) ∙ c.if-is_table.false)))

pub kept_table-rich_pieces-requires : goal.kept_table-rich_pieces-requires
kept_table-rich_pieces-requires t c = omega (arith, c.requires, c.decreases)

pub rich_piece-returns-then-is_caption-clause-made : goal.rich_piece-returns-then-is_caption-clause-made
rich_piece-returns-then-is_caption-clause-made t c =
    let context = context_in c.args.place.now c.args.around.now.items in
    ap tables.caption c.in_ok-blocks_within.ensures.blocks
    ∙ ap (spec.piece_with_blocks c.args.has_spans context) (piece_caption c.args.piece.now
    (sym c.is_caption.ensures ∙ c.if-is_caption.true))

pub rich_piece-returns-clause-made : goal.rich_piece-returns-clause-made
rich_piece-returns-clause-made t c =
    row_with_blocks c.args.has_spans (context_in c.args.place.now c.args.around.now.items) c.args.piece.now
    c.content_of.result.now c.part-part.result (map elements.cell_of c.in_ok-cells.cells.items)
    (sym c.is_caption.ensures ∙ c.if-is_caption.false) c.part-part.ensures c.content_of.ensures
    c.in_ok-cells.ensures.cells

pub rich_piece-blocks_within-requires : goal.rich_piece-blocks_within-requires
rich_piece-blocks_within-requires t c =
    let h = caption_height c.args.piece.now (sym c.is_caption.ensures ∙ c.if-is_caption.true) in
    omega (arith, h, c.decreases)

pub rich_piece-rich_cells-requires : goal.rich_piece-rich_cells-requires
rich_piece-rich_cells-requires t c =
    let h = row_height c.args.piece.now c.content_of.result.now (sym c.is_caption.ensures ∙ c.if-is_caption.false)
    c.content_of.ensures in
    omega (arith, h, c.decreases)

pub rich_table-kept_table-requires : goal.rich_table-kept_table-requires
rich_table-kept_table-requires t c =
    let stays = spec.stays c.have_row_spans-has_spans.result in
    let low = kept_low c.args.element.now.content.now stays c.in_ok-pieces.pieces.items c.in_ok-kept.kept.items
    c.in_ok-pieces.ensures
    (c.in_ok-kept.ensures ∙ ap (λ ps. filter stays (pieces.pieces_in ps)) c.as_slice-2.ensures.value) in
    let same = ap (λ ps. pieces.highest (pieces.pieces_in ps)) c.as_slice-3.ensures.value in (
      omega (arith, c.decreases),
      omega (arith, low, same),
    )

pub rich_table-returns-clause-out : goal.rich_table-returns-clause-out
rich_table-returns-clause-out t c =
    let ts = c.args.element.now.content.now in
    let ns = nodes_at ts in
    let context = context_in c.args.place.now c.args.around.now.items in
    let attributes = pairs_of c.args.element.now.attrs.now in
    let has_spans = c.have_row_spans-has_spans.result in
    let found = pieces.pieces_in c.in_ok-pieces.pieces.items in
    let kept = pieces.pieces_in c.in_ok-kept.kept.items in
    on_ok c.edge-2.result c.edge-2.ensures (λ e.
    fed_apart (writing_in c.args.out.now) (writing_in c.edge.new.self) (writing_in c.kept_table.new.out)
    (writing_in c.edge-2.new.self)
    (spec.kept_table_parts (map simple_of ts) attributes has_spans kept ns context)
    c.in_ok-edge.ensures
    (c.in_ok-kept_table.ensures.out ∙ ap (λ ps. fed_all (writing_in c.edge.new.self)
    (spec.kept_table_parts (map simple_of ts) attributes has_spans (pieces.pieces_in ps) ns context))
    c.as_slice-3.ensures.value) e
    ∙ ap (λ ps. fed_all (writing_in c.args.out.now) (apart ps))
    (table_kept ts attributes found kept has_spans ns context c.in_ok-pieces.ensures
    (c.have_row_spans-has_spans.ensures ∙ ap (λ ps. spec.have_row_spans (spec.rows_in (pieces.pieces_in ps)))
    c.as_slice.ensures.value)
    (c.in_ok-kept.ensures ∙ ap (λ ps. filter (spec.stays has_spans) (pieces.pieces_in ps))
    c.as_slice-2.ensures.value)))
