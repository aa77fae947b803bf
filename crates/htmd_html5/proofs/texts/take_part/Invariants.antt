-- What is left to take is the same in each turn.
use Rattle.htmd_html5.proofs.TextsLemmas.{Takes}
use Rattle.htmd_html5.proofs.texts.take_part.Given as goal

abbrev pub invariant-loop-turn : goal.invariant-loop-turn
invariant-loop-turn l = Takes l.text l.fn.state l.state l._turn l._turn-end
