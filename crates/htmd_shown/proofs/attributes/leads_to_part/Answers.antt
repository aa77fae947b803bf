use Rattle.std.proofs.Common.{◌∙◌, sym, ap}
use Rattle.std.specs.Option.{option_copied}
use Rattle.htmd_shown.specs.Attributes.{leads_to_part}
use Rattle.htmd_shown.proofs.LeadsLemmas.{leads_there}
use Rattle.htmd_shown.proofs.attributes.leads_to_part.Goals as goal

pub returns-in-Some : goal.returns-in-Some
returns-in-Some c =
    c.is_to_part.ensures
    ∙ leads_there c.in-Some.text.now c.without_controls_around.result.now c.without_controls_around.ensures
    c.without_controls_around.utf8
    ∙ ap (λ v. leads_to_part (option_copied v)) (sym c.in-Some.is)
