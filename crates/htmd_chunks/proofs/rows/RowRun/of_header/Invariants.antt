-- The columns so far.
use Rattle.std.proofs.Common.{◌≡◌, map, max, take}
use Rattle.htmd_commonmark.specs.TableLines.{narrowest}
use Rattle.htmd_chunks.proofs.rows.RowRun.of_header.Given as goal

abbrev pub invariant-loop-width : goal.invariant-loop-width
invariant-loop-width l = l.columns.items ≡ map (max narrowest) (take l.width-index l.header.widths.items)
