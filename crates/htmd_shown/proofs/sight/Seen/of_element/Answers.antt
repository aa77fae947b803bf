use Rattle.std.proofs.Common.{◌∙◌, ap}
use Rattle.htmd_lexical.specs.Attributes.{pairs_of}
use Rattle.htmd_shown.specs.declared.facts.Facts.{Facts}
use Rattle.htmd_shown.specs.Belows.{facts_in}
use Rattle.htmd_shown.specs.SightViews.{nodes_of}
use Rattle.htmd_shown.specs.SimpleTrees.{element}
use Rattle.htmd_shown.proofs.BelowsLemmas.{below_facts}
use Rattle.htmd_shown.proofs.ShapesLemmas.{element_shape}
use Rattle.htmd_shown.proofs.sight.Seen.of_element.Goals as goal

pub returns-clause-value : goal.returns-clause-value
returns-clause-value c =
    element_shape c.args.node c.args.role c.facts.result c.args.attrs c.args.content.nodes
    ∙ ap (λ (f : Facts). element c.args.node c.args.role f (pairs_of c.args.attrs.now) (nodes_of c.args.content))
    (c.facts.ensures ∙ ap facts_in c.requires ∙ below_facts (nodes_of c.args.content))
