-- What the loop of `decoded` keeps.
use Rattle.std.proofs.Common.{◌≡◌, ◌<◌, length}
use Rattle.std.specs.Prelude.{slice_index}
use Rattle.std.specs.String.{string_bytes}
use Rattle.htmd_grammar.specs.References.{behind, decode}
use Rattle.htmd_grammar.specs.Rules.{named_characters}
use Rattle.htmd_tree.proofs.reader.references.decoded.Given as goal
use denote.Shadow.{shadow}
use denote.Text.{Utf8}

abbrev pub invariant-loop-rest : goal.invariant-loop-rest
invariant-loop-rest l = record {
  text : shadow (Utf8 l.rest);
  ascii : 0 < length l.rest → slice_index l.rest 0 < 128;
  reads : behind (string_bytes l.value) (decode named_characters 0 l.rest) ≡ decode named_characters 0 l.text;
}

abbrev pub decreases-loop-rest : goal.decreases-loop-rest
decreases-loop-rest l = length l.rest
