use Rattle.std.proofs.Common.{◌∙◌, rules, tests}
use Rattle.std.proofs.lemmas.Iterator.{YieldsList-from_slice}
use Rattle.std.proofs.lemmas.Iterator.Search.{any_from_yields_List}
use Rattle.htmd_document.specs.Formats.{of_element}
use Rattle.htmd_flow.specs.Contexts as contexts
use Rattle.htmd_flow.specs.PartViews.{around_of}
use Rattle.htmd_flow.proofs.LeavesLemmas.{any_around}
use Rattle.htmd_flow.proofs.place.holds_element.Goals as goal

pub returns : goal.returns
returns c =
    let xs = c.args.around.now in
    any_from_yields_List (λ a. (contexts.is_format (of_element c.args.element)) (around_of a)) _ _ c.any.result
    c.any.ensures.ran (YieldsList-from_slice xs cc)
    (λ x b q k. search (rules, tests))
    ∙ any_around (contexts.is_format (of_element c.args.element)) xs
