-- The columns are as wide as the cells so far ask for.
use Rattle.std.proofs.Common.{◌≡◌, length, take}
use Rattle.htmd_markdown.specs.Tables.{texts}
use Rattle.htmd_commonmark.specs.TableLines.{widened}
use Rattle.htmd_commonmark.proofs.table.widen.Given as goal

abbrev pub invariant-loop-i : goal.invariant-loop-i
invariant-loop-i l = record {
  length : length l.widths ≡ length l.initial.widths;
  widened : l.widths ≡ widened l.fn.widths (take l.i (texts l.cells));
}
