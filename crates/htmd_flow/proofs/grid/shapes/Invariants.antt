use Rattle.std.proofs.Common.{◌≡◌, ◌≤◌, ◌++◌, length, map, drop}
use Rattle.htmd_flow.specs.GridViews.{row_of}
use Rattle.htmd_flow.specs.Grids as spec
use Rattle.htmd_flow.proofs.grid.shapes.Given as goal

abbrev pub invariant-loop-row : goal.invariant-loop-row
invariant-loop-row l = record {
  shapes : map (λ b. b.items) l.shapes.items
      ++ spec.shapes_from (length l.shapes.items) l.part l.taken.items (map row_of (drop l.row-index l.rows))
      ≡ spec.shapes_of (map row_of l.rows);
  count : l.count ≡ spec.total (map (λ b. b.items) l.shapes.items);
  bound : l.count ≤ l.most;
}
