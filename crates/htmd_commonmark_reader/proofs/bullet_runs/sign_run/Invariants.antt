-- So many of the sign, and the rest.
use Rattle.std.proofs.Common.{◌≡◌, ◌≤◌, ◌+◌, ℕ, true, drop}
use Rattle.htmd_commonmark_reading.specs.Lines.{marks}
use Rattle.htmd_commonmark_reader.specs.BulletRuns.{other_behind}
use Rattle.htmd_commonmark_reader.proofs.bullet_runs.sign_run.Given as goal

abbrev pub invariant-loop-byte : goal.invariant-loop-byte
invariant-loop-byte l = record {
  few : l.count ≤ l.byte-index;
  same : (n : ℕ) → other_behind l.sign n (marks (drop l.byte-index l.bytes)) ≡ true
      → other_behind l.sign (l.count + n) (marks l.bytes) ≡ true;
}
