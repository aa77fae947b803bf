use Rattle.std.proofs.Common.{◌∙◌, ap}
use Rattle.htmd_flow.specs.Languages.{language_named}
use Rattle.htmd_flow.proofs.language.language_of_block.Goals as goal

pub returns-in-Some : goal.returns-in-Some
returns-in-Some c = c.unless_none.ensures ∙ ap language_named c.in-Some.ensures

pub returns-in-None : goal.returns-in-None
returns-in-None c = ap language_named c.in-None.ensures
