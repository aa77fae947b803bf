-- With the columns to come, the bytes so far are all of them.
use Rattle.std.proofs.Common.{◌≡◌, ◌+◌, ◌-◌, drop}
use Rattle.htmd_commonmark.specs.TableLines.{line_width}
use Rattle.htmd_chunks.proofs.rows.line_bytes.Given as goal

abbrev pub invariant-loop-column : goal.invariant-loop-column
invariant-loop-column l = l.bytes + line_width (drop l.column-index l.columns) ≡ line_width l.columns + 1
