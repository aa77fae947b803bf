-- What is left to process is the same in each turn.
use Rattle.htmd_html5.specs.Tokens.{end_tag}
use Rattle.htmd_html5_state.specs.Names.{name_of}
use Rattle.htmd_html5.proofs.ProcessingLemmas.{Rests}
use Rattle.htmd_html5.proofs.processing.process_end.Given as goal

abbrev pub invariant-loop-turn : goal.invariant-loop-turn
invariant-loop-turn l = Rests (end_tag (name_of l.name)) l.fn.state l.state l._turn l._turn-end
