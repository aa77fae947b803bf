use Rattle.std.proofs.Common.{◌∙◌}
use Rattle.htmd_walk.proofs.LinkAttributesLemmas.{among_names}
use Rattle.htmd_walk.proofs.element_handler.link_attributes.is_among.Goals as goal

pub returns : goal.returns
returns c = c.contains.ensures.value ∙ among_names c.args.names.now c.args.name.now
