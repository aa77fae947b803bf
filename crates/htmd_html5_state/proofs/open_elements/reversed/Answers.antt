-- Elements turned round.
use Rattle.std.proofs.Common.{◌∙◌, ap}
use Rattle.htmd_html5_state.specs.OpenViews.{all_open_of, stack_of}
use Rattle.htmd_html5_state.proofs.StackLemmas.{turned-is, turned-back}
use Rattle.htmd_html5_state.proofs.open_elements.reversed.Goals as goal

pub returns-clause-turned : goal.returns-clause-turned
returns-clause-turned c = ap all_open_of c.reverse.ensures.items ∙ turned-is c.args.elements.items

pub returns-clause-back : goal.returns-clause-back
returns-clause-back c = ap stack_of c.reverse.ensures.items ∙ turned-back c.args.elements.items
