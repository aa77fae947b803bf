-- The conversion is refused.
use Rattle.std.proofs.Common.{refl}
use Rattle.std.proofs.lemmas.Result.{err_from_is_err_and}
use Rattle.htmd_cli.proofs.ModeRunsLemmas.{refused_text}
use Rattle.htmd_cli.proofs.pipeline.write_markdown.Goals as goal

pub returns-in_err-markdown-clause-refused : goal.returns-in_err-markdown-clause-refused
returns-in_err-markdown-clause-refused g c =
    let p = err_from_is_err_and c.from_residual.result c.from_residual.ensures.1 in
    λ place kind f. (
      c.in-Ok.ensures.cases.1,
      refused_text c.from_residual.result p.0 c.in_err-markdown.field-0.0 c.in-Ok.text.now c.args.input.now p.1 p.2
          c.in-Ok.ensures.cases.0 (λ n k h. c.in_err-markdown.ensures.refused n k (rw h refl)) place kind f,
    )
