-- The letters are tokens.
use Rattle.htmd_commonmark_reading.specs.Markup.{no_inlines, letters}
use Rattle.htmd_commonmark_reader.proofs.JoinedLemmas.{letter_tokens, letters_alike, letters_parts}
use Rattle.htmd_commonmark_reader.proofs.StepsLemmas.{letters_go}
use Rattle.htmd_commonmark_reader.proofs.steps.letter_steps.Goals as goal

pub returns : goal.returns
returns c = λ refs source b h k e.
    let run = c.split_run.result.0.now in
    letters_go refs source c.args.here.now run c.split_run.result.1.now b c.push_slot.new.scan
    c.split_run.ensures.run c.split_run.ensures.rest c.requires.other c.requires.some
    (c.in_ok-push_slot.ensures b (letter_tokens run) (letters run no_inlines) h (letters_alike run)
    (letters_parts run)) k e
