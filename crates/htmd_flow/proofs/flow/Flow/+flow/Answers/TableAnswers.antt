-- What tables give.
use Rattle.std.proofs.Common.{◌+◌, ◌-◌, ◌∷◌, ◌++◌, [], false, length, drop, take, map, sym, ap}
use Rattle.std.proofs.Common.{◌∙◌}
use Rattle.htmd_document.specs.DocumentViews.{blocks_of}
use Rattle.htmd_shown.specs.SimpleViews.{simple_of, simples_of}
use Rattle.htmd_flow.specs.Contexts.{apart}
use Rattle.htmd_flow.specs.Flows as spec
use Rattle.htmd_flow.specs.GridViews as grids
use Rattle.htmd_flow.specs.Grids as grid
use Rattle.htmd_shown.specs.Attributes.{column_span, row_span, alignment}
use Rattle.htmd_flow.specs.FlowViews.{context_in, node_at, nodes_at}
use Rattle.htmd_flow.specs.ParagraphViews.{writing_in}
use Rattle.htmd_flow.specs.Paragraphs.{fed, fed_all, begun, blocks_in}
use Rattle.htmd_flow.specs.Parts.{run, edge}
use Rattle.htmd_flow.specs.PartViews.{around_of}
use Rattle.std.proofs.lemmas.List.{append-nil, drop_all}
use Rattle.htmd_flow.proofs.FeedLemmas.{on_ok, if_ok, fed_after, fed_both, fed_step}
use Rattle.htmd_flow.proofs.LoopsLemmas.{at_place, slice_rest}
use Rattle.htmd_flow.proofs.NodesLemmas.{content_is}
use Rattle.htmd_flow.proofs.PartsLemmas.{table_page, table_flat, table_grid}
use Rattle.htmd_flow.proofs.TableRowsLemmas.{caption_in_line, no_caption_in_line, caption_alone, no_caption_alone}
use Rattle.htmd_flow.proofs.TableRowsLemmas.{lines_next, lines_end, made_next, made_end, rows_pushed}
use Rattle.htmd_flow.proofs.TableRowsLemmas.{plain_passed, plain_failed, plain_done, plain_row, part_at, no_row_at}
use Rattle.htmd_flow.proofs.TableRowsLemmas.{line_at, lines_at, made_row, made_rows, paragraph_is, paragraph_passed}
use Rattle.htmd_flow.proofs.TableRowsLemmas.{paragraph_failed, cells_passed, cells_next, cells_end, cell_made}
use Rattle.htmd_flow.proofs.TableRowsLemmas.{cell_with}
use Rattle.htmd_flow.proofs.TableRowsLemmas.{nodes_before, nodes_behind, fed_between}
use Rattle.htmd_flow.specs.TableViews.{cells_at}
use Rattle.std.specs.List.{flat_map, list_all}
use Rattle.htmd_flow.proofs.flow.Flow.+flow.Goals as goal

pub captions-loop-node-preserved-then-not-is_caption : goal.captions-loop-node-preserved-then-not-is_caption
captions-loop-node-preserved-then-not-is_caption t c =
    let ts = c.args.nodes.now in
    let k = c.loop-node.node-index in
    let n = c.node-item.result in
    let context = context_in c.args.place.now c.args.around.now.items in
    record {
      out = sym (ap (fed_all (writing_in c.loop-node.out))
          (ap (λ xs. spec.captions_among (nodes_at xs) context) (at_place ts k n c.loop-node-test.true c.node-item.is)
          ∙ ap (λ ps. ps ++ spec.captions_among (nodes_at (drop (k + 1) ts)) context)
          (no_caption_alone context n (sym c.is_caption.ensures ∙ c.if-not-is_caption.true))))
          ∙ c.loop-node.invariant.out;
      around = c.loop-node.invariant.around;
    }

pub captions-loop-node-preserved : goal.captions-loop-node-preserved
captions-loop-node-preserved t c =
    let ts = c.args.nodes.now in
    let k = c.loop-node.node-index in
    let n = c.node-item.result in
    let context = context_in c.args.place.now c.args.around.now.items in
    record {
      out = fed_step (writing_in c.loop-node.out) (writing_in c.apart.new.out)
          (spec.captions_among (nodes_at (drop k ts)) context) (apart ((node_at n).content context))
          (spec.captions_among (nodes_at (drop (k + 1) ts)) context)
          (c.in_ok-apart.ensures.out
          ∙ ap (λ a. fed_all (writing_in c.loop-node.out) (apart (spec.flow_all (nodes_at c.content_of.result.now)
          (context_in c.args.place.now a)))) c.loop-node.invariant.around
          ∙ ap (λ ps. fed_all (writing_in c.loop-node.out) (apart ps))
          (content_is (simple_of n) c.content_of.result.now context c.content_of.ensures))
          (ap (λ xs. spec.captions_among (nodes_at xs) context) (at_place ts k n c.loop-node-test.true c.node-item.is)
          ∙ ap (λ ps. ps ++ spec.captions_among (nodes_at (drop (k + 1) ts)) context)
          (caption_alone context n (sym c.is_caption.ensures ∙ c.if-not-is_caption.false)))
          ∙ c.loop-node.invariant.out;
      around = c.in_ok-apart.ensures.around ∙ c.loop-node.invariant.around;
    }

pub captions-returns-clause-out : goal.captions-returns-clause-out
captions-returns-clause-out t c =
    sym (ap (λ xs. fed_all (writing_in c.loop-node.out)
    (spec.captions_among (nodes_at xs) (context_in c.args.place.now c.args.around.now.items)))
    (drop_all c.loop-node.node-index c.args.nodes.now c.loop-node-test.false))
    ∙ c.loop-node.invariant.out

pub captions_in_one_line-loop-node-preserved-then-not-is_caption
    : goal.captions_in_one_line-loop-node-preserved-then-not-is_caption
captions_in_one_line-loop-node-preserved-then-not-is_caption t c =
    let ts = c.args.nodes.now in
    let k = c.loop-node.node-index in
    let n = c.node-item.result in
    let context = context_in c.args.place.now c.args.around.now.items in
    record {
      out = sym (ap (fed_all (writing_in c.loop-node.out))
          (ap (λ xs. spec.captions_in_one_line (nodes_at xs) context)
          (at_place ts k n c.loop-node-test.true c.node-item.is)
          ∙ ap (λ ps. ps ++ spec.captions_in_one_line (nodes_at (drop (k + 1) ts)) context)
          (no_caption_in_line context n (sym c.is_caption.ensures ∙ c.if-not-is_caption.true))))
          ∙ c.loop-node.invariant.out;
      around = c.loop-node.invariant.around;
    }

pub captions_in_one_line-loop-node-preserved : goal.captions_in_one_line-loop-node-preserved
captions_in_one_line-loop-node-preserved t c =
    let ts = c.args.nodes.now in
    let k = c.loop-node.node-index in
    let n = c.node-item.result in
    let context = context_in c.args.place.now c.args.around.now.items in
    record {
      out = fed_step (writing_in c.loop-node.out) (writing_in c.edge.new.self)
          (spec.captions_in_one_line (nodes_at (drop k ts)) context) ((node_at n).content context ++ edge ∷ [])
          (spec.captions_in_one_line (nodes_at (drop (k + 1) ts)) context)
          (fed_after (writing_in c.loop-node.out) (writing_in c.among.new.out) (writing_in c.edge.new.self)
          ((node_at n).content context) edge
          (c.in_ok-among.ensures.out
          ∙ ap (λ a. fed_all (writing_in c.loop-node.out) (spec.flow_all (nodes_at c.content_of.result.now)
          (context_in c.args.place.now a))) c.loop-node.invariant.around
          ∙ ap (fed_all (writing_in c.loop-node.out))
          (content_is (simple_of n) c.content_of.result.now context c.content_of.ensures)) c.in_ok-edge.ensures)
          (ap (λ xs. spec.captions_in_one_line (nodes_at xs) context)
          (at_place ts k n c.loop-node-test.true c.node-item.is)
          ∙ ap (λ ps. ps ++ spec.captions_in_one_line (nodes_at (drop (k + 1) ts)) context)
          (caption_in_line context n (sym c.is_caption.ensures ∙ c.if-not-is_caption.false)))
          ∙ c.loop-node.invariant.out;
      around = c.in_ok-among.ensures.around ∙ c.loop-node.invariant.around;
    }

pub captions_in_one_line-returns-clause-out : goal.captions_in_one_line-returns-clause-out
captions_in_one_line-returns-clause-out t c =
    sym (ap (λ xs. fed_all (writing_in c.loop-node.out)
    (spec.captions_in_one_line (nodes_at xs) (context_in c.args.place.now c.args.around.now.items)))
    (drop_all c.loop-node.node-index c.args.nodes.now c.loop-node-test.false))
    ∙ c.loop-node.invariant.out

pub rows_in_one_line-loop-node-preserved : goal.rows_in_one_line-loop-node-preserved
rows_in_one_line-loop-node-preserved t c =
    let ts = c.args.nodes.now in
    let k = c.loop-node.node-index in
    let n = c.node-item.result in
    let context = context_in c.args.place.now c.args.around.now.items in
    record {
      out = fed_step (writing_in c.loop-node.out) (writing_in c.row_in_one_line.new.out)
          (spec.rows_in_one_line (spec.rows_among c.args.part.now (simples_of (drop k ts))) context)
          (spec.rows_in_one_line (spec.rows_at c.args.part.now (simple_of n)) context)
          (spec.rows_in_one_line (spec.rows_among c.args.part.now (simples_of (drop (k + 1) ts))) context)
          (c.in_ok-row_in_one_line.ensures.out
          ∙ ap (λ a. fed_all (writing_in c.loop-node.out) (spec.rows_in_one_line
          (spec.rows_at c.args.part.now (simple_of n)) (context_in c.args.place.now a))) c.loop-node.invariant.around)
          (lines_next context c.args.part.now ts k n c.loop-node-test.true c.node-item.is)
          ∙ c.loop-node.invariant.out;
      around = c.in_ok-row_in_one_line.ensures.around ∙ c.loop-node.invariant.around;
    }

pub rows_in_one_line-returns-clause-out : goal.rows_in_one_line-returns-clause-out
rows_in_one_line-returns-clause-out t c =
    sym (ap (fed_all (writing_in c.loop-node.out)) (lines_end (context_in c.args.place.now c.args.around.now.items)
    c.args.part.now c.args.nodes.now
    c.loop-node.node-index c.loop-node-test.false))
    ∙ c.loop-node.invariant.out

pub push_rows-loop-node-preserved : goal.push_rows-loop-node-preserved
push_rows-loop-node-preserved t c =
    let ts = c.args.nodes.now in
    let k = c.loop-node.node-index in
    let n = c.node-item.result in
    let context = context_in c.args.place.now c.args.around.now.items in
    record {
      rows = rows_pushed (map grids.row_of c.loop-node.rows.items) (map grids.row_of c.push_row.new.rows.items)
          (spec.filled_rows (map (spec.row_of context) (spec.rows_at c.args.part.now (simple_of n))))
          (spec.filled_rows (map (spec.row_of context)
          (spec.rows_among c.args.part.now (simples_of (drop (k + 1) ts)))))
          (spec.filled_rows (map (spec.row_of context) (spec.rows_among c.args.part.now (simples_of (drop k ts)))))
          (c.in_ok-push_row.ensures.rows
          ∙ ap (λ a. map grids.row_of c.loop-node.rows.items ++ spec.filled_rows (map (spec.row_of
          (context_in c.args.place.now a)) (spec.rows_at c.args.part.now (simple_of n)))) c.loop-node.invariant.around)
          (made_next context c.args.part.now ts k n c.loop-node-test.true c.node-item.is)
          ∙ c.loop-node.invariant.rows;
      around = c.in_ok-push_row.ensures.around ∙ c.loop-node.invariant.around;
    }

pub push_rows-returns-clause-rows : goal.push_rows-returns-clause-rows
push_rows-returns-clause-rows t c =
    sym (append-nil (map grids.row_of c.loop-node.rows.items))
    ∙ sym (ap (λ rs. map grids.row_of c.loop-node.rows.items ++ rs)
    (made_end (context_in c.args.place.now c.args.around.now.items) c.args.part.now c.args.nodes.now
    c.loop-node.node-index c.loop-node-test.false))
    ∙ c.loop-node.invariant.rows

pub are_paragraphs-loop-node-preserved : goal.are_paragraphs-loop-node-preserved
are_paragraphs-loop-node-preserved t c =
    plain_passed c.args.part.now c.args.nodes.now c.loop-node.node-index c.node-item.result c.in_ok-is_plain.is_plain _
    c.loop-node-test.true c.node-item.is c.in_ok-is_plain.ensures c.if-not-is_plain.false c.loop-node.invariant

pub are_paragraphs-returns-then-not-is_plain : goal.are_paragraphs-returns-then-not-is_plain
are_paragraphs-returns-then-not-is_plain t c =
    plain_failed c.args.part.now c.args.nodes.now c.loop-node.node-index c.node-item.result c.in_ok-is_plain.is_plain _
    c.loop-node-test.true c.node-item.is c.in_ok-is_plain.ensures c.if-not-is_plain.true c.loop-node.invariant

pub are_paragraphs-returns : goal.are_paragraphs-returns
are_paragraphs-returns t c =
    plain_done c.args.part.now c.args.nodes.now c.loop-node.node-index _ c.loop-node-test.false c.loop-node.invariant

pub is_grid-returns-in-Grid : goal.is_grid-returns-in-Grid
is_grid-returns-in-Grid t c = ap (λ l. spec.is_grid_by l (spec.rows_of_table (simples_of c.args.nodes.now)))
    (sym c.in-Grid.is ∙ c.layout_of.ensures)

pub is_grid-returns-in-Page : goal.is_grid-returns-in-Page
is_grid-returns-in-Page t c = ap (λ l. spec.is_grid_by l (spec.rows_of_table (simples_of c.args.nodes.now)))
    (sym c.in-Page.is ∙ c.layout_of.ensures)

pub is_grid-returns-in-GridOfParagraphs : goal.is_grid-returns-in-GridOfParagraphs
is_grid-returns-in-GridOfParagraphs t c = if_ok c.are_paragraphs.result _ _ c.are_paragraphs.ensures (λ b e. e
    ∙ ap (λ l. spec.is_grid_by l (spec.rows_of_table (simples_of c.args.nodes.now)))
    (sym c.in-GridOfParagraphs.is ∙ c.layout_of.ensures))

pub table-returns-then-not-is_grid-clause-out : goal.table-returns-then-not-is_grid-clause-out
table-returns-then-not-is_grid-clause-out t c = on_ok c.apart.result c.apart.ensures.out (λ e. e
    ∙ ap (fed_all (writing_in c.args.out.now)) (table_page (nodes_at c.args.nodes.now)
    (context_in c.args.place.now c.args.around.now.items)
    (map simple_of c.args.nodes.now) (spec.rows_of_table (simples_of c.args.nodes.now))
    (sym c.in_ok-is_grid.ensures ∙ c.if-not-is_grid.true)))

pub table-returns-then-place-clause-out : goal.table-returns-then-place-clause-out
table-returns-then-place-clause-out t c = on_ok c.grid_in_one_line.result c.grid_in_one_line.ensures.out (λ e. e
    ∙ ap (λ w. fed_all w (spec.grid_in_one_line (nodes_at c.args.nodes.now)
    (spec.rows_of_table (simples_of c.args.nodes.now)) (context_in c.args.place.now c.args.around.now.items)))
    c.in_ok-edge.ensures
    ∙ ap (fed_all (writing_in c.args.out.now)) (table_flat (nodes_at c.args.nodes.now)
    (context_in c.args.place.now c.args.around.now.items)
    (map simple_of c.args.nodes.now) (spec.rows_of_table (simples_of c.args.nodes.now))
    (sym c.in_ok-is_grid.ensures ∙ c.if-not-is_grid.false) c.if-place.true))

pub table-returns-clause-out : goal.table-returns-clause-out
table-returns-clause-out t c = on_ok c.grid.result c.grid.ensures.out (λ e. e
    ∙ ap (λ w. fed_all w (spec.grid_inside (nodes_at c.args.nodes.now)
    (spec.rows_of_table (simples_of c.args.nodes.now)) (context_in c.args.place.now c.args.around.now.items)))
    c.in_ok-edge.ensures
    ∙ ap (fed_all (writing_in c.args.out.now)) (table_grid (nodes_at c.args.nodes.now)
    (context_in c.args.place.now c.args.around.now.items)
    (map simple_of c.args.nodes.now) (spec.rows_of_table (simples_of c.args.nodes.now))
    (sym c.in_ok-is_grid.ensures ∙ c.if-not-is_grid.false) c.if-place.false))

pub push_row-returns-then-is_row-clause-rows : goal.push_row-returns-then-is_row-clause-rows
push_row-returns-then-is_row-clause-rows t c =
    on_ok c.push_filled.result c.push_filled.ensures (λ e. e
    ∙ ap (λ rs. map grids.row_of c.args.rows.now.items ++ rs)
    (made_row (context_in c.args.place.now c.args.around.now.items) c.args.part.now (simple_of c.args.node.now)
    c.content_of.result.now c.content_of.ensures _ (sym c.is_row.ensures ∙ c.if-is_row.true)
    c.in_ok-cells.ensures.cells))

pub push_row-returns-then-not-leads_to-clause-rows : goal.push_row-returns-then-not-leads_to-clause-rows
push_row-returns-then-not-leads_to-clause-rows t c =
    sym (ap (λ rs. map grids.row_of c.args.rows.now.items
    ++ spec.filled_rows (map (spec.row_of (context_in c.args.place.now c.args.around.now.items)) rs))
    (no_row_at c.args.part.now (simple_of c.args.node.now) (sym c.is_row.ensures ∙ c.if-is_row.false)
    (sym c.leads_to.ensures ∙ c.if-not-leads_to.true))
    ∙ append-nil (map grids.row_of c.args.rows.now.items))

pub push_row-returns-clause-rows : goal.push_row-returns-clause-rows
push_row-returns-clause-rows t c =
    let context = context_in c.args.place.now c.args.around.now.items in
    on_ok c.push_rows.result c.push_rows.ensures.rows (λ e. e
    ∙ ap (λ rs. map grids.row_of c.args.rows.now.items ++ rs)
    (ap (λ p. spec.filled_rows (map (spec.row_of context) (spec.rows_among p (simples_of c.content_of-2.result.now))))
    c.of.ensures
    ∙ made_rows context c.args.part.now (simple_of c.args.node.now) c.content_of-2.result.now c.content_of-2.ensures
    (sym c.is_row.ensures ∙ c.if-is_row.false) (sym c.leads_to.ensures ∙ c.if-not-leads_to.false)))

pub row_in_one_line-returns-then-is_row-clause-out : goal.row_in_one_line-returns-then-is_row-clause-out
row_in_one_line-returns-then-is_row-clause-out t c =
    let context = context_in c.args.place.now c.args.around.now.items in
    on_ok c.edge.result c.edge.ensures (λ e.
    fed_after (writing_in c.args.out.now) (writing_in c.cells_in_one_line.new.out) (writing_in c.edge.new.self)
    (flat_map (spec.cell_in_one_line context) (cells_at c.content_of.result.now)) edge
    c.in_ok-cells_in_one_line.ensures.out e
    ∙ ap (fed_all (writing_in c.args.out.now)) (line_at context c.args.part.now (simple_of c.args.node.now)
    c.content_of.result.now c.content_of.ensures (sym c.is_row.ensures ∙ c.if-is_row.true)))

pub row_in_one_line-returns-then-not-leads_to-clause-out : goal.row_in_one_line-returns-then-not-leads_to-clause-out
row_in_one_line-returns-then-not-leads_to-clause-out t c =
    sym (ap (λ rs. fed_all (writing_in c.args.out.now)
    (spec.rows_in_one_line rs (context_in c.args.place.now c.args.around.now.items)))
    (no_row_at c.args.part.now (simple_of c.args.node.now) (sym c.is_row.ensures ∙ c.if-is_row.false)
    (sym c.leads_to.ensures ∙ c.if-not-leads_to.true)))

pub row_in_one_line-returns-clause-out : goal.row_in_one_line-returns-clause-out
row_in_one_line-returns-clause-out t c =
    let context = context_in c.args.place.now c.args.around.now.items in
    on_ok c.rows_in_one_line.result c.rows_in_one_line.ensures.out (λ e. e
    ∙ ap (fed_all (writing_in c.args.out.now))
    (ap (λ p. spec.rows_in_one_line (spec.rows_among p (simples_of c.content_of-2.result.now)) context) c.of.ensures
    ∙ lines_at context c.args.part.now (simple_of c.args.node.now) c.content_of-2.result.now c.content_of-2.ensures
    (sym c.is_row.ensures ∙ c.if-is_row.false) (sym c.leads_to.ensures ∙ c.if-not-leads_to.false)))

pub is_plain-returns-then-is_row : goal.is_plain-returns-then-is_row
is_plain-returns-then-is_row t c =
    if_ok c.holds_paragraphs.result _ _ c.holds_paragraphs.ensures (λ b e. e
    ∙ plain_row c.args.part.now (simple_of c.args.node.now) c.content_of.result.now c.content_of.ensures
    (sym c.is_row.ensures ∙ c.if-is_row.true))

pub is_plain-returns-then-not-leads_to : goal.is_plain-returns-then-not-leads_to
is_plain-returns-then-not-leads_to t c =
    sym (ap spec.are_paragraphs (no_row_at c.args.part.now (simple_of c.args.node.now)
    (sym c.is_row.ensures ∙ c.if-is_row.false) (sym c.leads_to.ensures ∙ c.if-not-leads_to.true)))

pub is_plain-returns : goal.is_plain-returns
is_plain-returns t c =
    if_ok c.are_paragraphs.result _ _ c.are_paragraphs.ensures (λ b e. e
    ∙ ap (λ p. spec.are_paragraphs (spec.rows_among p (simples_of c.content_of-2.result.now))) c.of.ensures
    ∙ sym (ap spec.are_paragraphs (part_at c.args.part.now (simple_of c.args.node.now) c.content_of-2.result.now
    c.content_of-2.ensures (sym c.is_row.ensures ∙ c.if-is_row.false)
    (sym c.leads_to.ensures ∙ c.if-not-leads_to.false))))

pub holds_paragraphs-loop-node-preserved-then-not-is_cell : goal.holds_paragraphs-loop-node-preserved-then-not-is_cell
holds_paragraphs-loop-node-preserved-then-not-is_cell t c =
    sym (ap (list_all spec.is_paragraph) (cells_passed c.args.row.now c.loop-node.node-index c.node-item.result
    c.loop-node-test.true c.node-item.is (sym c.is_cell.ensures ∙ c.if-not-is_cell.true)))
    ∙ c.loop-node.invariant

pub holds_paragraphs-returns-then-not-is_paragraph : goal.holds_paragraphs-returns-then-not-is_paragraph
holds_paragraphs-returns-then-not-is_paragraph t c =
    paragraph_failed c.args.row.now c.loop-node.node-index c.node-item.result c.in_ok-is_paragraph.is_paragraph _
    c.loop-node-test.true c.node-item.is (sym c.is_cell.ensures ∙ c.if-not-is_cell.false)
    (paragraph_is c.node-item.result c.content_of.result.now c.in_ok-is_paragraph.is_paragraph c.content_of.ensures
    c.in_ok-is_paragraph.ensures) c.if-not-is_paragraph.true c.loop-node.invariant

pub holds_paragraphs-loop-node-preserved : goal.holds_paragraphs-loop-node-preserved
holds_paragraphs-loop-node-preserved t c =
    paragraph_passed c.args.row.now c.loop-node.node-index c.node-item.result c.in_ok-is_paragraph.is_paragraph _
    c.loop-node-test.true c.node-item.is (sym c.is_cell.ensures ∙ c.if-not-is_cell.false)
    (paragraph_is c.node-item.result c.content_of.result.now c.in_ok-is_paragraph.is_paragraph c.content_of.ensures
    c.in_ok-is_paragraph.ensures) c.if-not-is_paragraph.false c.loop-node.invariant

pub holds_paragraphs-returns : goal.holds_paragraphs-returns
holds_paragraphs-returns t c =
    sym (ap (list_all spec.is_paragraph) (cells_end c.args.row.now c.loop-node.node-index c.loop-node-test.false))
    ∙ c.loop-node.invariant

pub cells_in_one_line-loop-node-preserved-then-not-is_cell : goal.cells_in_one_line-loop-node-preserved-then-not-is_cell
cells_in_one_line-loop-node-preserved-then-not-is_cell t c =
    let context = context_in c.args.place.now c.args.around.now.items in
    record {
      out = sym (ap (λ ns. fed_all (writing_in c.loop-node.out) (flat_map (spec.cell_in_one_line context) ns))
          (cells_passed c.args.row.now c.loop-node.node-index c.node-item.result c.loop-node-test.true c.node-item.is
          (sym c.is_cell.ensures ∙ c.if-not-is_cell.true)))
          ∙ c.loop-node.invariant.out;
      around = c.loop-node.invariant.around;
    }

pub cells_in_one_line-loop-node-preserved : goal.cells_in_one_line-loop-node-preserved
cells_in_one_line-loop-node-preserved t c =
    let ts = c.args.row.now in
    let k = c.loop-node.node-index in
    let n = c.node-item.result in
    let context = context_in c.args.place.now c.args.around.now.items in
    record {
      out = fed_step (writing_in c.loop-node.out) (writing_in c.run.new.self)
          (flat_map (spec.cell_in_one_line context) (cells_at (drop k ts))) (spec.cell_in_one_line context (node_at n))
          (flat_map (spec.cell_in_one_line context) (cells_at (drop (k + 1) ts)))
          (fed_after (writing_in c.loop-node.out) (writing_in c.among.new.out) (writing_in c.run.new.self)
          ((node_at n).content context) (run (32 ∷ []) context.around false)
          (c.in_ok-among.ensures.out
          ∙ ap (λ a. fed_all (writing_in c.loop-node.out) (spec.flow_all (nodes_at c.content_of.result.now)
          (context_in c.args.place.now a))) c.loop-node.invariant.around
          ∙ ap (fed_all (writing_in c.loop-node.out))
          (content_is (simple_of n) c.content_of.result.now context c.content_of.ensures))
          (c.in_ok-run.ensures
          ∙ ap (λ a. fed (writing_in c.among.new.out) (run (32 ∷ []) (map around_of a) false))
          (c.deref.ensures.value ∙ c.in_ok-among.ensures.around ∙ c.loop-node.invariant.around)))
          (ap (flat_map (spec.cell_in_one_line context)) (cells_next ts k n c.loop-node-test.true c.node-item.is
          (sym c.is_cell.ensures ∙ c.if-not-is_cell.false)))
          ∙ c.loop-node.invariant.out;
      around = c.in_ok-among.ensures.around ∙ c.loop-node.invariant.around;
    }

pub cells_in_one_line-returns-clause-out : goal.cells_in_one_line-returns-clause-out
cells_in_one_line-returns-clause-out t c =
    sym (ap (λ ns. fed_all (writing_in c.loop-node.out)
    (flat_map (spec.cell_in_one_line (context_in c.args.place.now c.args.around.now.items)) ns))
    (cells_end c.args.row.now c.loop-node.node-index c.loop-node-test.false))
    ∙ c.loop-node.invariant.out

pub cells-loop-node-preserved-then-not-is_cell : goal.cells-loop-node-preserved-then-not-is_cell
cells-loop-node-preserved-then-not-is_cell t c =
    let context = context_in c.args.place.now c.args.around.now.items in
    record {
      cells = sym (ap (λ ns. map grids.cell_of c.loop-node.made.items ++ map (spec.cell_of context) ns)
          (cells_passed c.args.row.now c.loop-node.node-index c.node-item.result c.loop-node-test.true c.node-item.is
          (sym c.is_cell.ensures ∙ c.if-not-is_cell.true)))
          ∙ c.loop-node.invariant.cells;
      around = c.loop-node.invariant.around;
    }

pub cells-loop-node-preserved : goal.cells-loop-node-preserved
cells-loop-node-preserved t c =
    let ts = c.args.row.now in
    let k = c.loop-node.node-index in
    let n = c.node-item.result in
    let context = context_in c.args.place.now c.args.around.now.items in
    record {
      cells = cell_made c.loop-node.made.items c.push.new.self.items c.in_ok-cell.cell
          (spec.cell_of context (node_at n))
          (map (spec.cell_of context) (cells_at (drop (k + 1) ts))) (map (spec.cell_of context) (cells_at (drop k ts)))
          c.in_ok-push.ensures.items
          (c.in_ok-cell.ensures.cell
          ∙ ap (λ a. spec.cell_of (context_in c.args.place.now a) (node_at n)) c.loop-node.invariant.around)
          (ap (map (spec.cell_of context)) (cells_next ts k n c.loop-node-test.true c.node-item.is
          (sym c.is_cell.ensures ∙ c.if-not-is_cell.false)))
          ∙ c.loop-node.invariant.cells;
      around = c.in_ok-cell.ensures.around ∙ c.loop-node.invariant.around;
    }

pub cells-returns-clause-cells : goal.cells-returns-clause-cells
cells-returns-clause-cells t c =
    let context = context_in c.args.place.now c.args.around.now.items in
    sym (append-nil (map grids.cell_of c.loop-node.made.items))
    ∙ sym (ap (λ ns. map grids.cell_of c.loop-node.made.items ++ map (spec.cell_of context) ns)
    (cells_end c.args.row.now c.loop-node.node-index c.loop-node-test.false))
    ∙ c.loop-node.invariant.cells

pub cell-returns-clause-cell : goal.cell-returns-clause-cell
cell-returns-clause-cell t c =
    cell_with (context_in c.args.place.now c.args.around.now.items) c.args.node.now c.content_of.result.now _ _ _ _ _
    c.content_of.ensures c.in_ok-line.ensures.content
    (c.column_span.ensures ∙ ap column_span c.attributes_of-attrs.ensures)
    (c.row_span.ensures ∙ ap row_span c.attributes_of-attrs.ensures) c.is_header_cell.ensures
    (c.alignment.ensures ∙ ap alignment c.attributes_of-attrs.ensures)

pub grid_in_one_line-returns-clause-out : goal.grid_in_one_line-returns-clause-out
grid_in_one_line-returns-clause-out t c =
    let ts = c.args.nodes.now in
    let len = c.before_row_len-len.result in
    let context = context_in c.args.place.now c.args.around.now.items in
    let w = writing_in c.args.out.now in
    let before = spec.captions_in_one_line (take (spec.before_row (nodes_at ts)) (nodes_at ts)) context in
    let lines = spec.rows_in_one_line (spec.rows_of_table (simples_of ts)) context in
    let behind = spec.captions_in_one_line (drop (spec.before_row (nodes_at ts)) (nodes_at ts)) context in
    on_ok c.captions_in_one_line-2.result c.captions_in_one_line-2.ensures.out (λ e.
    fed_both w (writing_in c.rows_in_one_line.new.out) (writing_in c.captions_in_one_line-2.new.out) (before ++ lines)
    behind
    (fed_both w (writing_in c.captions_in_one_line.new.out) (writing_in c.rows_in_one_line.new.out) before lines
    (c.in_ok-captions_in_one_line.ensures.out
    ∙ ap (λ ns. fed_all w (spec.captions_in_one_line ns context))
    (nodes_before ts len c.before_row_len-len.ensures.value))
    (c.in_ok-rows_in_one_line.ensures.out
    ∙ ap (λ a. fed_all (writing_in c.captions_in_one_line.new.out) (spec.rows_in_one_line
    (spec.rows_of_table (simples_of ts)) (context_in c.args.place.now a))) c.in_ok-captions_in_one_line.ensures.around))
    (e
    ∙ ap (λ a. fed_all (writing_in c.rows_in_one_line.new.out) (spec.captions_in_one_line
    (nodes_at (take (length ts - len) (drop len ts))) (context_in c.args.place.now a)))
    (c.in_ok-rows_in_one_line.ensures.around ∙ c.in_ok-captions_in_one_line.ensures.around)
    ∙ ap (λ ns. fed_all (writing_in c.rows_in_one_line.new.out) (spec.captions_in_one_line ns context))
    (ap nodes_at (slice_rest ts len) ∙ nodes_behind ts len c.before_row_len-len.ensures.value)))

pub grid-returns-clause-out : goal.grid-returns-clause-out
grid-returns-clause-out t c =
    let ts = c.args.nodes.now in
    let len = c.before_row_len-len.result in
    let context = context_in c.args.place.now c.args.around.now.items in
    let w = writing_in c.args.out.now in
    on_ok c.edge-3.result c.edge-3.ensures (λ e.
    fed_between w (writing_in c.captions.new.out) (writing_in c.edge.new.self) (writing_in c.push_table.new.out)
    (writing_in c.edge-2.new.self) (writing_in c.captions-2.new.out) (writing_in c.edge-3.new.self)
    (spec.captions_among (take (spec.before_row (nodes_at ts)) (nodes_at ts)) context)
    (spec.block_part (spec.table_block (spec.rows_of_table (simples_of ts)) context))
    (spec.captions_among (drop (spec.before_row (nodes_at ts)) (nodes_at ts)) context)
    (c.in_ok-captions.ensures.out
    ∙ ap (λ ns. fed_all w (spec.captions_among ns context)) (nodes_before ts len c.before_row_len-len.ensures.value))
    c.in_ok-edge.ensures
    (c.in_ok-push_table.ensures
    ∙ ap (λ rs. fed_all (writing_in c.edge.new.self) (spec.block_part (grid.table_of_rows rs)))
    (c.in_ok-push_rows.ensures.rows
    ∙ ap (λ xs. map grids.row_of xs ++ spec.filled_rows (map (spec.row_of (context_in c.args.place.now
    c.captions.new.around.items)) (spec.rows_of_table (simples_of ts)))) c.new-rows.ensures.items
    ∙ ap (λ a. spec.filled_rows (map (spec.row_of (context_in c.args.place.now a))
    (spec.rows_of_table (simples_of ts)))) c.in_ok-captions.ensures.around))
    c.in_ok-edge-2.ensures
    (c.in_ok-captions-2.ensures.out
    ∙ ap (λ a. fed_all (writing_in c.edge-2.new.self) (spec.captions_among
    (nodes_at (take (length ts - len) (drop len ts))) (context_in c.args.place.now a)))
    (c.in_ok-push_rows.ensures.around ∙ c.in_ok-captions.ensures.around)
    ∙ ap (λ ns. fed_all (writing_in c.edge-2.new.self) (spec.captions_among ns context))
    (ap nodes_at (slice_rest ts len) ∙ nodes_behind ts len c.before_row_len-len.ensures.value))
    e)

pub is_paragraph-returns : goal.is_paragraph-returns
is_paragraph-returns t c =
    let ns = nodes_at c.args.nodes.now in
    c.is_paragraph_at_most.ensures
    ∙ ap spec.is_paragraph_at_most
    (ap blocks_of c.as_slice.ensures.value ∙ c.in_ok-finish.ensures
    ∙ ap blocks_in (c.in_ok-among.ensures.out
    ∙ ap (λ w. fed_all w (spec.flow_all ns (context_in c.bare.result c.new-around.result.items)))
    c.new-content.ensures
    ∙ ap (λ x. fed_all (begun false false) (spec.flow_all ns x))
    (ap (context_in c.bare.result) c.new-around.ensures.items ∙ c.bare.ensures)))
