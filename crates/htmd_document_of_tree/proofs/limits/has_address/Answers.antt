use Rattle.std.proofs.Common.{rules, tests, ◌∙◌}
use Rattle.std.proofs.lemmas.Iterator.{YieldsList-from_chars}
use Rattle.std.proofs.lemmas.Iterator.Search.{any_from_yields_List}
use Rattle.htmd_shown.specs.Attributes.{is_in_address}
use Rattle.htmd_document_of_tree.proofs.LimitsLemmas.{has-address}
use Rattle.htmd_document_of_tree.proofs.limits.has_address.Goals as goal

pub returns : goal.returns
returns c =
    let t = c.without_controls_around.result.now in
    any_from_yields_List is_in_address _ _ c.any.result c.any.ensures.ran
    (YieldsList-from_chars t c.without_controls_around.utf8 (cc)) (λ x b q k. search (rules, tests))
    ∙ has-address c.args.text.now t c.without_controls_around.ensures c.without_controls_around.utf8
