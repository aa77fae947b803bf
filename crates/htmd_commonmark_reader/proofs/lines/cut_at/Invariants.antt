-- What is left of the rest is left of the text.
use Rattle.std.proofs.Common.{◌≡◌, ◌+◌, ◌*◌, ◌≤◌, drop}
use Rattle.std.specs.Str.{IsCharBoundary}
use Rattle.htmd_commonmark_reading.specs.Lines.{cut_at}
use Rattle.htmd_commonmark_reader.proofs.lines.cut_at.Given as goal

abbrev pub invariant-loop-at : goal.invariant-loop-at
invariant-loop-at l = record {
  few : l.place ≤ l.column + 4 * l.at;
  same : cut_at l.place l.left (drop l.at l.text) ≡ cut_at l.column l.count l.text;
  cut : IsCharBoundary l.text l.at;
}
