-- The blanks are tokens, or go before a line's end.
use Rattle.std.proofs.Common.{◌∙◌, ap, sym}
use Rattle.htmd_lexical.specs.CharacterClasses.{first_is}
use Rattle.htmd_commonmark_reading.specs.Markup.{no_inlines, letters}
use Rattle.htmd_commonmark_reader.proofs.JoinedLemmas.{letter_tokens, letters_alike, letters_parts}
use Rattle.htmd_commonmark_reader.proofs.StepsLemmas.{blanks_go, blanks_leave}
use Rattle.htmd_commonmark_reader.proofs.steps.blank_steps.Goals as goal

pub returns-then-first_is : goal.returns-then-first_is
returns-then-first_is c = λ refs source b h k e.
    blanks_leave refs source c.args.here.now c.split_run.result.0.now c.split_run.result.1.now b c.args.scan.now
    c.split_run.ensures.run c.split_run.ensures.rest c.requires.blank c.requires.some
    (ap (first_is 10) (sym c.as_bytes.ensures.value) ∙ sym c.first_is.ensures ∙ c.if-first_is.true) h k e

pub returns : goal.returns
returns c = λ refs source b h k e.
    let run = c.split_run.result.0.now in
    blanks_go refs source c.args.here.now run c.split_run.result.1.now b c.push_slot.new.scan
    c.split_run.ensures.run c.split_run.ensures.rest c.requires.blank c.requires.some
    (ap (first_is 10) (sym c.as_bytes.ensures.value) ∙ sym c.first_is.ensures ∙ c.if-first_is.false)
    (c.in_ok-push_slot.ensures b (letter_tokens run) (letters run no_inlines) h (letters_alike run)
    (letters_parts run)) k e
