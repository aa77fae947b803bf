use Rattle.std.proofs.Common.{◌≡◌, ◌≤◌, length, take}
use Rattle.htmd_flow.specs.GridViews.{line_of}
use Rattle.htmd_flow.specs.Grids.{trimmed_row}
use Rattle.htmd_flow.proofs.grid.filled_len.Given as goal

abbrev pub invariant-loop-i : goal.invariant-loop-i
invariant-loop-i l = record {
  value : take l.len (line_of l.cells) ≡ trimmed_row (take l.i (line_of l.cells));
  bound : l.len ≤ l.i;
  within : l.i ≤ length l.cells;
}
