-- A text of the page of white space, or an item.
use Rattle.std.proofs.Common.{◌∙◌, sym, ap}
use Rattle.htmd_shown.specs.SimpleViews.{simple_of}
use Rattle.htmd_flow.specs.ItemViews.{goes_on}
use Rattle.htmd_flow.proofs.LeavesLemmas.{spaces_shown}
use Rattle.htmd_flow.proofs.NodesLemmas.{text_shape}
use Rattle.htmd_flow.proofs.items.goes_on.Goals as goal

pub returns-in-Text : goal.returns-in-Text
returns-in-Text c =
    c.are_spaces.ensures ∙ spaces_shown c.in-Text.text.now
    ∙ sym (ap (λ x. goes_on x) (ap simple_of c.in-Text.is ∙ text_shape c.in-Text.text))
