use Rattle.std.proofs.Common.{◌∙◌, sym, ap}
use Rattle.htmd_shown.specs.SimpleViews.{simple_of}
use Rattle.htmd_flow.specs.TermViews.{with_parts}
use Rattle.htmd_flow.proofs.TermsLemmas.{kinds_in_group, parts_of_other}
use Rattle.htmd_flow.proofs.terms.TermKinds.with_part.Goals as goal

pub returns-then-is_group : goal.returns-then-is_group
returns-then-is_group c = c.with_nodes.ensures
    ∙ kinds_in_group c.args.self (simple_of c.args.node.now) c.content_of.result.now
    (sym c.is_group.ensures ∙ c.if-is_group.true) c.content_of.ensures

pub returns-else-is_group : goal.returns-else-is_group
returns-else-is_group c = c.with_node.ensures
    ∙ ap (with_parts c.args.self)
    (sym (parts_of_other (simple_of c.args.node.now) (sym c.is_group.ensures ∙ c.if-is_group.false)))
