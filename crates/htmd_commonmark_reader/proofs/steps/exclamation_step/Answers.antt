-- An image begins, or not.
use Rattle.std.proofs.Common.{[], ◌∷◌, refl}
use Rattle.htmd_commonmark_reading.specs.DelimiterRuns.{finished}
use Rattle.htmd_commonmark_reading.specs.Markup.{no_inlines, letter}
use Rattle.htmd_commonmark_reader.proofs.StepKindsLemmas.{image_opens, exclamation_alone}
use Rattle.htmd_commonmark_reader.proofs.steps.exclamation_step.Goals as goal

pub returns-in_ok-open-in-Some : goal.returns-in_ok-open-in-Some
returns-in_ok-open-in-Some c = λ b h.
    image_opens b c.args.after.now c.in-Some.text.now c.open.new.scan c.in-Some.ensures.0 c.in-Some.ensures.1
    (c.in_ok-open-in-Some.ensures b h)

pub returns-in_ok-push_slot-in-None : goal.returns-in_ok-push_slot-in-None
returns-in_ok-push_slot-in-None c = λ b h.
    let x = letter 33 no_inlines in
    exclamation_alone b c.args.after.now c.push_slot.new.scan c.in-None.ensures
    (c.in_ok-push_slot-in-None.ensures b (finished x ∷ []) x h (λ t. refl) refl)
