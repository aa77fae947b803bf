use Rattle.std.proofs.Common.{◌∙◌, sym, ap, arith}
use Rattle.htmd_document.specs.DocumentViews.{inlines_of}
use Rattle.htmd_flow.specs.Grids.{is_empty_cell, trimmed_row}
use Rattle.htmd_flow.proofs.GridsLemmas.{end_kept, end_moved, line_all}
use Rattle.htmd_flow.proofs.grid.filled_len.Goals as goal

pub loop-i-preserved-then-is_empty : goal.loop-i-preserved-then-is_empty
loop-i-preserved-then-is_empty c = record {
  value = end_kept c.args.cells.now c.loop-i.i c.loop-i.len c.index-cells-i.result (omega arith) c.index-cells-i.is
      (ap (λ xs. is_empty_cell (inlines_of xs)) (sym c.as_slice.ensures.value) ∙ sym c.is_empty.ensures
      ∙ c.if-is_empty.true) c.loop-i.invariant.value;
  bound = omega arith;
  within = omega arith;
}

pub loop-i-preserved : goal.loop-i-preserved
loop-i-preserved c = record {
  value = end_moved c.args.cells.now c.loop-i.i c.index-cells-i.result (omega arith) c.index-cells-i.is
      (ap (λ xs. is_empty_cell (inlines_of xs)) (sym c.as_slice.ensures.value) ∙ sym c.is_empty.ensures
      ∙ c.if-is_empty.false);
  bound = omega arith;
  within = omega arith;
}

pub returns-clause-value : goal.returns-clause-value
returns-clause-value c =
    c.loop-i.invariant.value ∙ ap trimmed_row (line_all c.args.cells.now c.loop-i.i (omega arith))
