-- The columns so far, and those of the rest.
use Rattle.std.proofs.Common.{◌≡◌, ◌+◌, ◌*◌, ◌≤◌, drop}
use Rattle.htmd_commonmark_reading.specs.Lines.{indent_at}
use Rattle.htmd_commonmark_reader.proofs.lines.indent_at.Given as goal

abbrev pub invariant-loop-byte : goal.invariant-loop-byte
invariant-loop-byte l = record {
  few : l.indent ≤ 4 * l.byte-index;
  same : l.indent + indent_at (l.column + l.indent) (drop l.byte-index l.bytes) ≡ indent_at l.column l.bytes;
}
