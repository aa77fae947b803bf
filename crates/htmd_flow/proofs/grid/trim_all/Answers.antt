use Rattle.std.proofs.Common.{◌∙◌, sym, ap}
use Rattle.std.specs.Prelude.{Vec}
use Rattle.std.specs.declared.alloc.Global.{Global}
use Rattle.htmd_document.specs.declared.document.Inline.{Inline}
use Rattle.htmd_flow.specs.GridViews.{line_of}
use Rattle.htmd_flow.specs.Grids.{trimmed_row}
use Rattle.htmd_flow.proofs.GridsLemmas.{trimmed_step}
use Rattle.htmd_flow.proofs.grid.trim_all.Goals as goal

pub loop-cells-preserved : goal.loop-cells-preserved
loop-cells-preserved c =
    trimmed_step c.loop-cells.lines c.args.lines.now c.loop-cells.cells-index c.cells-item.result c.trim.new.cells
    c.loop-cells-test.true c.cells-item.is
    (c.trim.ensures ∙ ap (λ (v : Vec (Vec Inline Global) Global). trimmed_row (line_of v.items))
    (sym c.cells-item.is))
    c.loop-cells.invariant
