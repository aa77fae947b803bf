use Rattle.std.proofs.Common.{◌∙◌, sym, ap}
use Rattle.std.specs.Option.{option_map}
use Rattle.htmd_shown.specs.Shown.{followed_by}
use Rattle.htmd_shown.specs.SightViews.{node_of, nodes_of, raised_next}
use Rattle.htmd_shown.proofs.WalkLemmas.{none_after}
use Rattle.htmd_shown.proofs.sight.Content.push_next.Goals as goal

pub returns-in-None-clause-value : goal.returns-in-None-clause-value
returns-in-None-clause-value c =
    sym (none_after (nodes_of c.args.self.now))
    ∙ ap (λ s.
    followed_by (nodes_of c.args.self.now) (raised_next c.args.format c.args.parent (option_map node_of s)))
    (sym c.in-None.is)
