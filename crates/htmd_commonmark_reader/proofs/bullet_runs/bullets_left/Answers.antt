-- The characters of a line are those of its content.
use Rattle.std.proofs.Common.{◌∙◌, ap, sym}
use Rattle.htmd_commonmark_reading.specs.Lines.{marks}
use Rattle.htmd_commonmark_reader.specs.BulletRuns.{is_mixed}
use Rattle.htmd_commonmark_reader.proofs.BulletRunsLemmas.{content_marks}
use Rattle.htmd_commonmark_reader.proofs.bullet_runs.bullets_left.Goals as goal

pub returns : goal.returns
returns c = λ k.
    ap (is_mixed c.bullet_run.result)
    (content_marks c.args.line c.requires.line.content ∙ ap marks (sym c.as_bytes.ensures.value))
    ∙ c.bullet_run.ensures k
