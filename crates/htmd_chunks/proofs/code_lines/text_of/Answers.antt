-- What is joined are the lines.
use Rattle.std.proofs.Common.{◌∷◌, [], ◌∙◌}
use Rattle.htmd_lexical.specs.Characters.{line_feed}
use Rattle.htmd_chunks.proofs.LineStepsLemmas.{joined-by}
use Rattle.htmd_chunks.proofs.MeasuresLemmas.{if-ok}
use Rattle.htmd_chunks.proofs.code_lines.text_of.Goals as goal

pub returns : goal.returns
returns c =
    if-ok c.join.result c.join.ensures.ok (λ text is. is ∙ joined-by (line_feed ∷ []) c.args.lines.now)
