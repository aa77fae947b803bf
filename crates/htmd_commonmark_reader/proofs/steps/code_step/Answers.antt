-- A code span, or a row of grave accents.
use Rattle.std.proofs.Common.{◌≡◌, ◌∙◌, ◌≤◌, ◌+◌, [], ◌∷◌, ◌++◌, Some, None, length, take, drop}
use Rattle.std.proofs.Common.{refl, ap, sym, rules}
use Rattle.std.specs.Prelude.{map, replicate}
use Rattle.std.specs.Str.{IsUtf8}
use Rattle.htmd_commonmark_reading.specs.DelimiterRuns.{finished}
use Rattle.htmd_commonmark_reading.specs.InlineTokens.{before_graves, code_text, in_one_line}
use Rattle.htmd_commonmark_reading.specs.Markup.{code, no_inlines, signs}
use Rattle.htmd_parts.specs.Parts as parts
use Rattle.htmd_commonmark_reader.proofs.JoinedLemmas.{signs_parts}
use Rattle.htmd_commonmark_reader.proofs.StepKindsLemmas.{RunAt, row_is, code_found, code_missing, code_cut}
use Rattle.htmd_commonmark_reader.proofs.StepKindsLemmas.{content_length}
use Rattle.htmd_commonmark_reader.proofs.steps.code_step.Goals as goal

pub range-requires-clause-end_boundary : goal.range-requires-clause-end_boundary
range-requires-clause-end_boundary c =
    let s = c.args.here.now in
    let row = c.split_run.result.0.now in
    let behind = c.split_run.result.1.now in
    let at : RunAt 96 s row behind = record {
      first = c.requires;
      run_is = c.split_run.ensures.run;
      after_is = c.split_run.ensures.rest;
    } in
    let found : Some (take c.in-Some.len behind) ≡ before_graves (length row) 0 behind = search rules in
    let within : c.in-Some.len ≤ length behind = search rules in
    let text : IsUtf8 behind = search rules in
    (code_cut s row behind c.in-Some.len at text within found).before

pub range_from-requires : goal.range_from-requires
range_from-requires c = λ _.
    let s = c.args.here.now in
    let row = c.split_run.result.0.now in
    let behind = c.split_run.result.1.now in
    let at : RunAt 96 s row behind = record {
      first = c.requires;
      run_is = c.split_run.ensures.run;
      after_is = c.split_run.ensures.rest;
    } in
    let found : Some (take c.in-Some.len behind) ≡ before_graves (length row) 0 behind = search rules in
    let within : c.in-Some.len ≤ length behind = search rules in
    let text : IsUtf8 behind = search rules in
    (code_cut s row behind c.in-Some.len at text within found).after

pub returns-in_ok-push_slot-in-Some : goal.returns-in_ok-push_slot-in-Some
returns-in_ok-push_slot-in-Some c = λ b h.
    let s = c.args.here.now in
    let row = c.split_run.result.0.now in
    let behind = c.split_run.result.1.now in
    let content = c.range.result.now in
    let len = c.in-Some.len in
    let at : RunAt 96 s row behind = record {
      first = c.requires;
      run_is = c.split_run.ensures.run;
      after_is = c.split_run.ensures.rest;
    } in
    let found : Some (take len behind) ≡ before_graves (length row) 0 behind = search rules in
    let within : len ≤ length behind = search rules in
    let content_is : content ≡ take len behind = search rules in
    let rest_is : c.range_from.result.now ≡ drop (len + length row) behind = search rules in
    let x = code (code_text (in_one_line content)) no_inlines in
    code_found b s row behind content c.range_from.result.now len c.push_slot.new.scan at
    (ap Some content_is ∙ found) (content_length content behind len content_is within) rest_is
    (c.in_ok-push_slot-in-Some.ensures b (finished x ∷ []) x h (λ t. refl) refl)

pub returns-in_ok-push_slot-in-None : goal.returns-in_ok-push_slot-in-None
returns-in_ok-push_slot-in-None c = λ b h.
    let s = c.args.here.now in
    let row = c.split_run.result.0.now in
    let behind = c.split_run.result.1.now in
    let at : RunAt 96 s row behind = record {
      first = c.requires;
      run_is = c.split_run.ensures.run;
      after_is = c.split_run.ensures.rest;
    } in
    let missing : None ≡ before_graves (length row) 0 behind = search rules in
    let x = signs 96 (length row) no_inlines in
    let same : row ≡ replicate (length row) 96 =
    c.split_run.ensures.run ∙ row_is 96 s ∙ ap (λ l. replicate (length l) 96) (sym c.split_run.ensures.run) in
    code_missing b s row behind c.push_slot-in-None.new.scan at missing
    (c.in_ok-push_slot-in-None.ensures b (finished x ∷ []) x h (λ t. refl)
    (ap (λ l. map parts.letter l ++ []) same ∙ signs_parts 96 (length row)))
