-- There are some, or none.
use Rattle.std.proofs.Common.{◌∙◌, ap, not}
use Rattle.htmd_selectors.specs.Views.{steps_in}
use Rattle.htmd.proofs.PageChangesLemmas.{are_some}
use Rattle.htmd.proofs.page_changes.are_given.Goals as goal

pub returns : goal.returns
returns c = ap not c.is_empty.ensures ∙ are_some (steps_in c.args.selectors.now)
