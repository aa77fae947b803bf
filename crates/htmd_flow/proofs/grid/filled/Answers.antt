use Rattle.std.proofs.Common.{◌≡◌, ◌∙◌, sym, ap, List, true, false, get_or, rules}
use Rattle.std.specs.Vec.Iter.{into_iter_items}
use Rattle.htmd_flow.specs.declared.grid.Cell as code
use Rattle.htmd_flow.proofs.GridsLemmas.{filled_cell, filled_none}
use Rattle.htmd_flow.proofs.grid.filled.Goals.{in-Some+in_ok-push-in-Some, in-None+in_ok-push-in-None}
use Rattle.htmd_flow.proofs.grid.filled.Goals as goal

pub loop-is_cell-preserved : goal.loop-is_cell-preserved
loop-is_cell-preserved c =
    let i = c.loop-is_cell.is_cell-index in
    let yes : get_or c.args.begins.now i false ≡ true = search rules in
    let cells : List code.Cell = into_iter_items c.loop-is_cell.cells in
    let later : List code.Cell = into_iter_items c.next.new.self in
    elim c.match-next.branch [
      | in-Some+in_ok-push-in-Some w ↦
          filled_cell c.args.begins.now i c.loop-is_cell.line.items c.match-next.line.items _
          c.loop-is_cell-test.true yes
          cells later w.in-Some.cell w.in-Some.ensures.items
          (ap (λ v. v.items) w.line-is ∙ w.in_ok-push-in-Some.ensures.items) c.loop-is_cell.invariant
      | in-None+in_ok-push-in-None w ↦
          filled_none c.args.begins.now i c.loop-is_cell.line.items c.match-next.line.items _
          c.loop-is_cell-test.true yes
          cells later w.new-in-None.result (sym c.loop-is_cell.cells.rest.ok.0 ∙ w.in-None.ensures.cases.0)
          w.in-None.ensures.items w.new-in-None.ensures.items
          (ap (λ v. v.items) w.line-is ∙ w.in_ok-push-in-None.ensures.items) c.loop-is_cell.invariant
    ]
