-- An autolink, raw HTML, or a sign.
use Rattle.std.proofs.Common.{◌∙◌, ◌+◌, [], ◌∷◌, ◌++◌, refl}
use Rattle.std.specs.Prelude.{codes}
use Rattle.htmd_commonmark_reading.specs.Characters.{dereferenced}
use Rattle.htmd_commonmark_reading.specs.DelimiterRuns.{finished}
use Rattle.htmd_commonmark_reading.specs.InlineTokens.{link_to}
use Rattle.htmd_commonmark_reading.specs.Markup.{no_inlines, letters, raw}
use Rattle.htmd_commonmark_reader.proofs.CutsLemmas.{address_cut, raw_cut, tag_cut}
use Rattle.htmd_commonmark_reader.proofs.StepKindsLemmas.{uri_step, email_step, tag_step, less_step, autolink_parts}
use Rattle.htmd_commonmark_reader.proofs.StepKindsLemmas.{from_first}
use Rattle.htmd_commonmark_reader.proofs.steps.angle_step.Goals as goal

pub range_from-requires : goal.range_from-requires
range_from-requires c = λ _.
    let within = rw c.as_bytes.ensures.value at c.in-Uri.ensures.bound in
    let found = rw c.as_bytes.ensures.value at c.in-Uri.ensures.found in
    (address_cut c.args.after.now c.in-Uri.len c.utf8.after within found).behind

pub range_from-requires-in-Email : goal.range_from-requires-in-Email
range_from-requires-in-Email c = λ _.
    let within = rw c.as_bytes.ensures.value at c.in-Email.ensures.bound in
    let found = rw c.as_bytes.ensures.value at c.in-Email.ensures.found in
    (address_cut c.args.after.now c.in-Email.len c.utf8.after within found).behind

pub range-requires-in-Tag-clause-end_boundary : goal.range-requires-in-Tag-clause-end_boundary
range-requires-in-Tag-clause-end_boundary c =
    let within = rw c.as_bytes.ensures.value at c.in-Tag.ensures.bound in
    let found = rw c.as_bytes.ensures.value at c.in-Tag.ensures.found in
    tag_cut c.args.here.now c.args.after.now c.in-Tag.len c.utf8.after c.requires.first within found

pub range_from-requires-in-Tag : goal.range_from-requires-in-Tag
range_from-requires-in-Tag c = λ _.
    let within = rw c.as_bytes.ensures.value at c.in-Tag.ensures.bound in
    let found = rw c.as_bytes.ensures.value at c.in-Tag.ensures.found in
    raw_cut c.args.after.now c.in-Tag.len c.utf8.after within found

pub returns-in_ok-push_slot-in-Uri-clause-step : goal.returns-in_ok-push_slot-in-Uri-clause-step
returns-in_ok-push_slot-in-Uri-clause-step c = λ b h.
    let t = c.range.result.now in
    let x = link_to (dereferenced t) (dereferenced t) in
    let within = rw c.as_bytes.ensures.value at c.in-Uri.ensures.bound in
    let value = rw c.as_bytes.ensures.value at c.in-Uri.ensures.value in
    uri_step b c.args.after.now t c.range_from.result.now c.in-Uri.len c.push_slot.new.scan value
    (c.range.ensures.value ∙ from_first c.args.after.now c.in-Uri.len) within c.range_from.ensures.value
    (c.in_ok-push_slot-in-Uri.ensures b (finished x ∷ []) x h (λ s. refl)
    (autolink_parts (dereferenced t) (dereferenced t)))

pub returns-in_ok-push_slot-in-Email-clause-step : goal.returns-in_ok-push_slot-in-Email-clause-step
returns-in_ok-push_slot-in-Email-clause-step c = λ b h.
    let t = c.range-in-Email.result.now in
    let x = link_to (codes "mailto:" ++ t) t in
    let within = rw c.as_bytes.ensures.value at c.in-Email.ensures.bound in
    let value = rw c.as_bytes.ensures.value at c.in-Email.ensures.value in
    email_step b c.args.after.now t c.range_from-in-Email.result.now c.in-Email.len c.push_slot-in-Email.new.scan value
    (c.range-in-Email.ensures.value ∙ from_first c.args.after.now c.in-Email.len) within
    c.range_from-in-Email.ensures.value
    (c.in_ok-push_slot-in-Email.ensures b (finished x ∷ []) x h (λ s. refl)
    (autolink_parts (codes "mailto:" ++ t) t))

pub returns-in_ok-push_slot-in-Tag-clause-step : goal.returns-in_ok-push_slot-in-Tag-clause-step
returns-in_ok-push_slot-in-Tag-clause-step c = λ b h.
    let t = c.range-in-Tag.result.now in
    let x = raw t no_inlines in
    let within = rw c.as_bytes.ensures.value at c.in-Tag.ensures.bound in
    let value = rw c.as_bytes.ensures.value at c.in-Tag.ensures.value in
    tag_step b c.args.here.now c.args.after.now t c.range_from-in-Tag.result.now c.in-Tag.len
    c.push_slot-in-Tag.new.scan c.requires.first value
    (c.range-in-Tag.ensures.value ∙ from_first c.args.here.now (c.in-Tag.len + 1)) within
    c.range_from-in-Tag.ensures.value
    (c.in_ok-push_slot-in-Tag.ensures b (finished x ∷ []) x h (λ s. refl) refl)

pub returns-in_ok-push_slot-in-Sign-clause-step : goal.returns-in_ok-push_slot-in-Sign-clause-step
returns-in_ok-push_slot-in-Sign-clause-step c = λ b h.
    let x = letters (60 ∷ []) no_inlines in
    let value = rw c.as_bytes.ensures.value at c.in-Sign.ensures.value in
    less_step b c.args.after.now c.push_slot-in-Sign.new.scan value
    (c.in_ok-push_slot-in-Sign.ensures b (finished x ∷ []) x h (λ s. refl) refl)
