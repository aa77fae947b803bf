-- The first element that the program holds.
use Rattle.std.proofs.Common.{◌≡◌, ◌∙◌, sym, ap, arith}
use Rattle.htmd_html5_state.specs.OpenElements.{first_open}
use Rattle.htmd_html5_state.specs.OpenViews.{stack_of}
use Rattle.htmd_html5_state.proofs.StackLemmas.{first_open-at}
use Rattle.htmd_html5_state.proofs.open_elements.OpenElements.first_open.Goals as goal

pub returns-in-len1-up : goal.returns-in-len1-up
returns-in-len1-up c =
    sym (first_open-at c.as_slice.result.now c.first-item.result c.in-len1-up.len_at_least c.first-item.is)
    ∙ ap first_open (ap stack_of c.as_slice.ensures.value ∙ c.self.view_is)
