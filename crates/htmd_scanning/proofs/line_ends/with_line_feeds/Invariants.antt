-- What the loop of `with_line_feeds` keeps.
use Rattle.std.proofs.Common.{◌≡◌, ◌++◌, length}
use Rattle.std.specs.String.{string_bytes}
use Rattle.htmd_lexical.specs.LineEnds.{normalized}
use Rattle.htmd_scanning.proofs.line_ends.with_line_feeds.Given as goal
use denote.Shadow.{shadow}
use denote.Text.{Utf8}

abbrev pub invariant-loop-line : goal.invariant-loop-line
invariant-loop-line l = record {
  text : shadow (Utf8 l.rest);
  reads : string_bytes l.lines ++ normalized l.rest ≡ normalized l.text;
}

abbrev pub decreases-loop-line : goal.decreases-loop-line
decreases-loop-line l = length l.rest
