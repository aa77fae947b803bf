-- What is known of a node that is handed over by itself.
use Rattle.htmd_walk.proofs.dom_walker.Walk.alone.Goals as goal

pub returns-clause-here : goal.returns-clause-here
returns-clause-here g c = record {
  within = c.requires;
  group = tt;
  language = c.language_above.ensures;
  context = c.is_preformatted_alone.ensures.other;
}
