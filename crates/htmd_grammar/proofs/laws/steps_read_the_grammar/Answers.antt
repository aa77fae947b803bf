use Rattle.htmd_grammar.proofs.Completeness.{complete}
use Rattle.htmd_grammar.proofs.ViablePrefixes.{refused, reached_front, sound_end}
use Rattle.htmd_grammar.proofs.laws.steps_read_the_grammar.Goals as goal

pub returns : goal.returns
returns c = record { complete = complete; sound = sound_end; refused = refused; fronts = reached_front }
