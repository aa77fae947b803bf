-- The lines that have ended, and the characters of the last.
use Rattle.std.proofs.Common.{◌≡◌, ◌≤◌, ◌+◌, ◌-◌}
use Rattle.htmd_tree.specs.Lines as spec
use Rattle.htmd_tree.proofs.lines.line_and_column.Given as goal

abbrev pub invariant-loop-at : goal.invariant-loop-at
invariant-loop-at l = record {
  within : l.at ≤ l.end;
  lines : l.line ≡ 1 + spec.lines_ended l.at l.bytes;
  columns : l.column ≡ 1 + spec.characters (spec.line_front l.at l.bytes);
  few_lines : l.line ≤ l.at + 1;
  few_columns : l.column ≤ l.at + 1;
}

abbrev pub decreases-loop-at : goal.decreases-loop-at
decreases-loop-at l = l.end - l.at
