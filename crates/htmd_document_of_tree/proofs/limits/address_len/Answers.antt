use Rattle.std.proofs.Common.{rules, tests, ◌∙◌}
use Rattle.std.proofs.lemmas.Iterator.{YieldsList-from_chars}
use Rattle.std.proofs.lemmas.Iterator.Consumers.{YieldsList-from_filter, count_from_yields_List}
use Rattle.htmd_shown.specs.Attributes.{is_in_address}
use Rattle.htmd_document_of_tree.proofs.LimitsLemmas.{address-len}
use Rattle.htmd_document_of_tree.proofs.limits.address_len.Goals as goal

pub returns : goal.returns
returns c =
    let t = c.without_controls_around.result.now in
    count_from_yields_List c.filter.result _ c.count.ensures.ran
    (YieldsList-from_filter _ is_in_address (YieldsList-from_chars t c.without_controls_around.utf8 (cc))
    c.filter.ensures.closure (λ x r q k. search (rules, tests)))
    ∙ address-len c.args.text.now t c.without_controls_around.ensures c.without_controls_around.utf8
