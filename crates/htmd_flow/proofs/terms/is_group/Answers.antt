use Rattle.std.proofs.Common.{◌∙◌, ◌&&◌, sym, ap}
use Rattle.std.specs.List.{list_any}
use Rattle.htmd_shown.specs.Kinds.{content_of}
use Rattle.htmd_shown.specs.SimpleViews.{simple_of}
use Rattle.htmd_flow.specs.Levels.{list_of}
use Rattle.htmd_flow.specs.Terms.{is_term_or_meaning}
use Rattle.htmd_flow.proofs.NodesLemmas.{content_listed}
use Rattle.htmd_flow.proofs.terms.is_group.Goals as goal

pub returns-then-is_division : goal.returns-then-is_division
returns-then-is_division c =
    let tree = simple_of c.args.node.now in
    c.holds_terms.ensures
    ∙ ap (list_any is_term_or_meaning) (content_listed tree c.content_of.result.now c.content_of.ensures)
    ∙ sym (ap (λ b. b && list_any is_term_or_meaning (list_of (content_of tree)))
    (sym c.is_division.ensures ∙ c.if-is_division.true))
