-- One more line.
use Rattle.std.proofs.Common.{◌++◌, ◌∷◌, [], refl}
use Rattle.htmd_commonmark_reading.specs.Characters.{past_blanks}
use Rattle.htmd_commonmark_reader.specs.LineViews.{line_of}
use Rattle.htmd_commonmark_reader.proofs.blocks.Blocks.lengthen.Goals as goal

pub returns : goal.returns
returns c = λ p done g ls s h i. record {
  parts = h.parts;
  found = h.found;
  kinds = h.kinds;
  none = h.none;
  gap = h.gap;
  inner = (ls ++ (s ∷ []), past_blanks ((line_of c.args.line).text), refl, c.in_ok-push.ensures ls s i);
}
