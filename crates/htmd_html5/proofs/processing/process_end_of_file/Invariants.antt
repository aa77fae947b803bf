-- What is left to process is the same in each turn.
use Rattle.htmd_html5.specs.Tokens.{end_of_file}
use Rattle.htmd_html5.proofs.ProcessingLemmas.{Rests}
use Rattle.htmd_html5.proofs.processing.process_end_of_file.Given as goal

abbrev pub invariant-loop-turn : goal.invariant-loop-turn
invariant-loop-turn l = Rests end_of_file l.fn.state l.state l._turn l._turn-end
