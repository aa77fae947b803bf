-- A hard break, an escape or a backslash.
use Rattle.std.proofs.Common.{◌∙◌, [], ◌∷◌, refl, ap, sym}
use Rattle.htmd_lexical.specs.CharacterClasses.{first_is}
use Rattle.htmd_commonmark_reading.specs.Characters.{begins_with_punctuation}
use Rattle.htmd_commonmark_reading.specs.DelimiterRuns.{finished}
use Rattle.htmd_commonmark_reading.specs.Characters.{past_blanks}
use Rattle.htmd_commonmark_reading.specs.Markup.{no_inlines, letters, line_break}
use Rattle.htmd_commonmark_reader.proofs.JoinedLemmas.{letters_parts}
use Rattle.htmd_commonmark_reader.proofs.PiecesLemmas.{punctuation_cut}
use Rattle.htmd_commonmark_reader.proofs.StepKindsLemmas.{newline_cut, slash_break, slash_escape}
use Rattle.htmd_commonmark_reader.proofs.StepKindsLemmas.{slash_alone}
use Rattle.htmd_commonmark_reader.proofs.steps.backslash_step.Goals as goal

pub returns-then-first_is : goal.returns-then-first_is
returns-then-first_is c = λ b h.
    let s = c.args.after.now in
    slash_break b s c.past_blanks.result.now c.push_slot.new.scan
    (ap (first_is 10) (sym c.as_bytes.ensures.value) ∙ sym c.first_is.ensures ∙ c.if-first_is.true)
    (c.past_blanks.ensures ∙ ap past_blanks c.range_from.ensures.value)
    (c.in_ok-push_slot.ensures b (finished (line_break no_inlines) ∷ []) (line_break no_inlines) h (λ t. refl) refl)

pub range_from-requires : goal.range_from-requires
range_from-requires c = λ _.
    newline_cut c.args.after.now c.utf8.after
    (ap (first_is 10) (sym c.as_bytes.ensures.value) ∙ sym c.first_is.ensures ∙ c.if-first_is.true)

pub split_at-requires : goal.split_at-requires
split_at-requires c =
    punctuation_cut c.args.after.now c.utf8.after
    (ap begins_with_punctuation (sym c.as_bytes-2.ensures.value) ∙ sym c.begins_with_punctuation.ensures
    ∙ c.if-begins_with_punctuation.true)

pub returns-then-begins_with_punctuation : goal.returns-then-begins_with_punctuation
returns-then-begins_with_punctuation c = λ b h.
    let s = c.args.after.now in
    let e = c.split_at.result.0.now in
    slash_escape b s e c.split_at.result.1.now c.push_slot-then-begins_with_punctuation.new.scan
    (ap (first_is 10) (sym c.as_bytes.ensures.value) ∙ sym c.first_is.ensures ∙ c.if-first_is.false)
    (ap begins_with_punctuation (sym c.as_bytes-2.ensures.value) ∙ sym c.begins_with_punctuation.ensures
    ∙ c.if-begins_with_punctuation.true) c.split_at.ensures.front c.split_at.ensures.back
    (c.in_ok-push_slot-2.ensures b (finished (letters e no_inlines) ∷ []) (letters e no_inlines) h (λ t. refl)
    (letters_parts e))

pub returns : goal.returns
returns c = λ b h.
    slash_alone b c.args.after.now c.push_slot-2.new.scan
    (ap (first_is 10) (sym c.as_bytes.ensures.value) ∙ sym c.first_is.ensures ∙ c.if-first_is.false)
    (ap begins_with_punctuation (sym c.as_bytes-2.ensures.value) ∙ sym c.begins_with_punctuation.ensures
    ∙ c.if-begins_with_punctuation.false)
    (c.in_ok-push_slot-3.ensures b (finished (letters (92 ∷ []) no_inlines) ∷ []) (letters (92 ∷ []) no_inlines) h
    (λ t. refl) refl)
