-- From run to run.
use Rattle.std.proofs.Common.{false, refl, arith}
use Rattle.htmd_commonmark_reading.specs.Markup.{no_inlines}
use Rattle.htmd_commonmark_reading.specs.DelimiterRuns.{base, with_tokens}
use Rattle.htmd_commonmark_reader.specs.declared.emphasis.Delimiter.{Delimiter}
use Rattle.htmd_commonmark_reader.proofs.TokensLemmas.{at_first, unsearched, next_run, after_run, after_last}
use Rattle.htmd_commonmark_reader.proofs.emphasis.process.Goals as goal

no_delimiter : Delimiter
no_delimiter =
    record { run = record { sign = 0; unused = 0; count = 0; opens = false; closes = false }; from = 0 }

pub add_run-requires-clause-sign : goal.add_run-requires-clause-sign
unfolding no_delimiter
add_run-requires-clause-sign c =
    (next_run (with_tokens (base no_inlines) c.requires.0) c.loop-run.openers c.args.offset c.args.runs.now
    c.loop-run.run-index no_delimiter c.loop-run.slots c.loop-run-test.true
    (c.loop-run.invariant c.requires.0 c.requires.1)).sign

pub add_run-requires-clause-state : goal.add_run-requires-clause-state
unfolding no_delimiter
add_run-requires-clause-state c =
    let at = next_run (with_tokens (base no_inlines) c.requires.0) c.loop-run.openers c.args.offset c.args.runs.now
    c.loop-run.run-index no_delimiter c.loop-run.slots c.loop-run-test.true
    (c.loop-run.invariant c.requires.0 c.requires.1) in
    (at.stack, at.tail, at.reading)

pub loop-run-preserved : goal.loop-run-preserved
unfolding no_delimiter
loop-run-preserved c = λ ts t.
    let all = with_tokens (base no_inlines) ts in
    after_run all c.loop-run.openers c.add_run.new.openers c.args.offset _ _ c.loop-run.slots c.add_run.new.slots
    (next_run all c.loop-run.openers c.args.offset c.args.runs.now c.loop-run.run-index no_delimiter c.loop-run.slots
    c.loop-run-test.true (c.loop-run.invariant ts t))
    c.in_ok-add_run.ensures

pub returns : goal.returns
returns c = λ ts t.
    after_last (with_tokens (base no_inlines) ts) c.loop-run.openers c.args.offset c.args.runs.now c.loop-run.run-index
    c.loop-run.slots (omega arith) (c.loop-run.invariant ts t)

pub overflow_sub-from : goal.overflow_sub-from
unfolding no_delimiter
overflow_sub-from c =
    (next_run (with_tokens (base no_inlines) c.requires.0) c.loop-run.openers c.args.offset c.args.runs.now
    c.loop-run.run-index no_delimiter c.loop-run.slots c.loop-run-test.true
    (c.loop-run.invariant c.requires.0 c.requires.1)).place

pub loop-run-init : goal.loop-run-init
loop-run-init c = λ ts t. at_first ts _ c.args.offset c.args.runs.now c.args.slots.now t c.new.ensures.items
    (unsearched 18 _ (record { index = 0; place = 0 }) refl (omega arith) refl)
