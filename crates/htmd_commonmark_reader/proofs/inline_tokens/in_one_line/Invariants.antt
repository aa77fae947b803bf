-- What was read, in one line, and the rest.
use Rattle.std.proofs.Common.{◌≡◌, ◌++◌, length}
use Rattle.std.specs.String.{string_bytes}
use Rattle.htmd_commonmark_reading.specs.InlineTokens as spec
use Rattle.htmd_commonmark_reader.proofs.inline_tokens.in_one_line.Given as goal
use denote.Shadow.{shadow}
use denote.Text.{Utf8}

abbrev pub invariant-loop-before : goal.invariant-loop-before
invariant-loop-before l = record {
  text : shadow (Utf8 l.rest);
  reads : string_bytes l.line ++ spec.in_one_line l.rest ≡ spec.in_one_line l.text;
}

abbrev pub decreases-loop-before : goal.decreases-loop-before
decreases-loop-before l = length l.rest
