-- What is known of the name tells.
use Rattle.std.proofs.Common.{ap, ◌∙◌}
use Rattle.htmd_tree.specs.KnownNames.{is}
use Rattle.htmd_tree.specs.declared.reader.names.KnownName.TheVariants.{Outside}
use Rattle.htmd_tree.proofs.KnownNamesLemmas.{outside-is}
use Rattle.htmd_tree.proofs.reader.surroundings.is_outside.Goals as goal

pub returns : goal.returns
returns c = λ n e. c.is.ensures ∙ (ap (is Outside) e ∙ outside-is n)
