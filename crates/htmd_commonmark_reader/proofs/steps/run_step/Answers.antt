-- A run, or text.
use Rattle.std.proofs.Common.{◌≡◌, ◌∙◌, [], ◌∷◌, ◌++◌, length, refl, ap, sym, subst}
use Rattle.std.specs.Prelude.{map, replicate, reverse}
use Rattle.htmd_commonmark_reading.specs.Brackets.{and_tokens}
use Rattle.htmd_commonmark_reading.specs.DelimiterRuns.{finished, run}
use Rattle.htmd_commonmark_reading.specs.Markup.{no_inlines, signs}
use Rattle.htmd_parts.specs.Parts as parts
use Rattle.htmd_commonmark_reader.specs.Scans.{IsScan}
use Rattle.htmd_commonmark_reader.proofs.JoinedLemmas.{signs_parts}
use Rattle.htmd_commonmark_reader.proofs.StepKindsLemmas.{RunAt, row_is, run_as_text, run_as_run}
use Rattle.htmd_commonmark_reader.proofs.steps.run_step.Goals as goal

pub returns-then-is_text : goal.returns-then-is_text
returns-then-is_text c = λ b h.
    let s = c.args.here.now in
    let sign = c.args.sign in
    let row = c.split_run.result.0.now in
    let after = c.split_run.result.1.now in
    let at : RunAt sign s row after = record {
      first = c.requires.first;
      run_is = c.split_run.ensures.run;
      after_is = c.split_run.ensures.rest;
    } in
    let x = signs sign (length row) no_inlines in
    let same : row ≡ replicate (length row) sign =
    c.split_run.ensures.run ∙ row_is sign s ∙ ap (λ l. replicate (length l) sign) (sym c.split_run.ensures.run) in
    run_as_text b sign (reverse c.args.before.now) s row after c.push_slot.new.scan at
    (sym c.is_text.ensures ∙ c.if-is_text.true)
    (c.in_ok-push_slot.ensures b (finished x ∷ []) x h (λ t. refl)
    (ap (λ l. map parts.letter l ++ []) same ∙ signs_parts sign (length row)))

pub returns : goal.returns
returns c = λ b h.
    let s = c.args.here.now in
    let sign = c.args.sign in
    let row = c.split_run.result.0.now in
    let after = c.split_run.result.1.now in
    let at : RunAt sign s row after = record {
      first = c.requires.first;
      run_is = c.split_run.ensures.run;
      after_is = c.split_run.ensures.rest;
    } in
    run_as_run b sign (reverse c.args.before.now) s row after c.push_run.new.scan at
    (sym c.is_text.ensures ∙ c.if-is_text.false)
    (subst (λ r. IsScan (and_tokens b (run r ∷ [])) c.push_run.new.scan) c.run_of.ensures
    (c.in_ok-push_run.ensures b h))
