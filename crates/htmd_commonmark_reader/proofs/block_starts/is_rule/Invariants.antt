-- The rest decides, with the signs so far.
use Rattle.std.proofs.Common.{◌≡◌, ◌≤◌, ◌&&◌, ◌+◌, length, drop}
use Rattle.std.specs.List.{list_all}
use Rattle.std.specs.Prelude.{nat_le}
use Rattle.htmd_commonmark_reading.specs.Lines.{marks}
use Rattle.htmd_commonmark_reading.specs.BlockStarts.{is_same, is_rule}
use Rattle.htmd_commonmark_reader.proofs.block_starts.is_rule.Given as goal

abbrev pub invariant-loop-byte : goal.invariant-loop-byte
invariant-loop-byte l = record {
  few : l.count ≤ l.byte-index;
  same : (list_all (is_same l.sign) (marks (drop l.byte-index l.bytes))
      && nat_le 3 (l.count + length (marks (drop l.byte-index l.bytes)))) ≡ is_rule l.sign l.bytes;
}
