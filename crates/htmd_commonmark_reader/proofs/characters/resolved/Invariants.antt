-- What is held so far, and what the rest stands for.
use Rattle.std.proofs.Common.{◌≡◌, ◌++◌, length}
use Rattle.std.specs.String.{string_bytes}
use Rattle.htmd_commonmark_reading.specs.Characters.{resolved}
use Rattle.htmd_commonmark_reader.specs.Pieces.{piece_in}
use Rattle.htmd_commonmark_reader.proofs.characters.resolved.Given as goal
use denote.Shadow.{shadow}
use denote.Text.{Utf8}

abbrev pub invariant-loop-rest : goal.invariant-loop-rest
invariant-loop-rest l = record {
  text : shadow (Utf8 l.rest);
  reads : string_bytes l.held ++ resolved (piece_in l.escapes) 0 l.rest
      ≡ resolved (piece_in l.escapes) 0 l.text;
}

abbrev pub decreases-loop-rest : goal.decreases-loop-rest
decreases-loop-rest l = length l.rest
