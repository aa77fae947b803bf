-- What is left to prove of `row`.
use Rattle.std.proofs.Common.{◌∙◌, ap, codes}
use Rattle.std.proofs.lemmas.Result.{IfOk-weaker}
use Rattle.htmd_document.specs.DocumentViews.{inlines_of}
use Rattle.htmd_document.specs.Mdast.{parent, cell_data}
use Rattle.htmd_document.proofs.MdastLemmas.{mapped-step, mapped-whole}
use Rattle.htmd_document.proofs.mdast.row.Goals as goal

pub loop-cell-preserved : goal.loop-cell-preserved
loop-cell-preserved c = mapped-step (λ cell. cell_data (inlines_of cell.items)) c.args.cells.now c.loop-cell.cell-index
    c.cell-item.result c.loop-cell.children.items c.push.new.self.items c.in_ok-around.field-0 c.loop-cell-test.true
    c.cell-item.is (c.in_ok-around.ensures ∙ ap (λ xs. cell_data (inlines_of xs)) c.deref.ensures.value)
    c.loop-cell.invariant c.in_ok-push.ensures.items

pub returns : goal.returns
returns c = IfOk-weaker c.parent.result _ _
    (λ v e. e ∙ ap (parent (codes "tableRow")) (c.loop-cell.invariant
    ∙ mapped-whole cell_data (λ cell. inlines_of cell.items) c.args.cells.now c.loop-cell.cell-index
    c.loop-cell-test.false))
    c.parent.ensures
