-- A space or a hard break, and the blanks behind it.
use Rattle.std.proofs.Common.{◌∙◌, [], ◌∷◌, refl, ap, sym}
use Rattle.std.specs.Prelude.{reverse}
use Rattle.htmd_lexical.proofs.RunsLemmas.{drop_run}
use Rattle.htmd_commonmark_reading.specs.Characters.{is_space_or_tab}
use Rattle.htmd_commonmark_reading.specs.DelimiterRuns.{finished}
use Rattle.htmd_commonmark_reader.specs.Steps.{break_inlines}
use Rattle.htmd_parts.specs.Parts.{inlines_parts}
use Rattle.htmd_commonmark_reader.proofs.steps.break_step.Goals as goal

pub returns : goal.returns
returns c = λ b h.
    let x = break_inlines (reverse c.args.before.now) in
    record {
      stack = c.in_ok-push_slot.ensures b (finished x ∷ []) x h (λ s. refl)
          (c.break_slot.ensures
          ∙ ap (λ l. inlines_parts (break_inlines (reverse l)) []) c.as_bytes.ensures.value);
      behind = c.past_blanks.ensures ∙ sym (drop_run is_space_or_tab c.args.after.now);
    }
