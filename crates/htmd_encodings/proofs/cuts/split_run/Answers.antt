-- The run from the front, and what is left of it.
use Rattle.std.proofs.Common.{◌∙◌, take, drop, ap}
use Rattle.htmd_lexical.proofs.RunsLemmas.{take_run, drop_run}
use Rattle.htmd_encodings.specs.Views.{is_in}
use Rattle.htmd_encodings.proofs.cuts.split_run.Goals as goal

pub returns-clause-run : goal.returns-clause-run
returns-clause-run c =
    let bytes = c.args.bytes.now in
    c.split_at.ensures.front ∙ ap (λ n. take n bytes) c.run_len.ensures.value ∙ take_run (is_in c.args.class) bytes

pub returns-clause-rest : goal.returns-clause-rest
returns-clause-rest c =
    let bytes = c.args.bytes.now in
    c.split_at.ensures.back ∙ ap (λ n. drop n bytes) c.run_len.ensures.value ∙ drop_run (is_in c.args.class) bytes
