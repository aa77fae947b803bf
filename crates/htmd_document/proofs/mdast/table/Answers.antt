-- What is left to prove of `table`.
use Rattle.std.proofs.Common.{◌∙◌, ap, map}
use Rattle.std.proofs.lemmas.Result.{IfOk-weaker}
use Rattle.serde_json.specs.Data as json
use Rattle.serde_json.specs.View.{items_of, items_view}
use Rattle.htmd_document.specs.DocumentViews.{inlines_of}
use Rattle.htmd_document.specs.Mdast.{row_data, table_node, alignment_data}
use Rattle.htmd_document.proofs.MdastLemmas.{headed-step, mapped-whole}
use Rattle.htmd_document.proofs.mdast.table.Goals as goal

pub loop-cells-preserved : goal.loop-cells-preserved
loop-cells-preserved c = headed-step (λ row. row_data (map (λ cell. inlines_of cell.items) row.items)) c.args.rows.now
    c.loop-cells.cells-index c.cells-item.result (row_data (map (λ cell. inlines_of cell.items) c.args.header.now))
    c.loop-cells.children.items c.push-in-loop-cells.new.self.items c.in_ok-row-2.field-0
    c.loop-cells-test.true c.cells-item.is
    (c.in_ok-row-2.ensures
    ∙ ap (λ cells. row_data (map (λ cell. inlines_of cell.items) cells)) c.deref.ensures.value)
    c.loop-cells.invariant c.in_ok-push-2.ensures.items

pub returns : goal.returns
returns c = IfOk-weaker c.table_node.result _ _
    (λ v e. e ∙ (ap (λ cs. table_node cs (items_view c.loop-cells.children.items)) c.in_ok-align.ensures
    ∙ ap (table_node (items_of (map alignment_data c.args.alignments.now))) (c.loop-cells.invariant
    ∙ ap (json.item (row_data (map (λ cell. inlines_of cell.items) c.args.header.now)))
    (mapped-whole row_data (λ row. map (λ cell. inlines_of cell.items) row.items) c.args.rows.now
    c.loop-cells.cells-index c.loop-cells-test.false))))
    c.table_node.ensures
