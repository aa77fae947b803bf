use Rattle.std.proofs.Common.{◌∙◌, ap, map}
use Rattle.std.proofs.lemmas.Result.{on_ok_weaker}
use Rattle.htmd_walk.specs.Choice.{no_handler}
use Rattle.htmd_walk.specs.Layers.{put_at}
use Rattle.htmd_walk.proofs.LayersLemmas.{put-with_handler}
use Rattle.htmd_walk.proofs.element_handler.layered.LayeredRegistrar.take_skipping.Goals as goal

pub returns-clause-ok : goal.returns-clause-ok
returns-clause-ok g c =
    let self = c.args.self.now in
    let plan = g.H.Answering.plan_named self.handler in
    let finish = g.H.Answering.finish_named self.handler in
    on_ok_weaker c.take_skipping.result
    (λ e. ap (λ k. put_at k self.index plan finish) e
    ∙ put-with_handler plan finish (g.R.Registry.config self.rest) self.index (map (λ t. t.now) c.args.tags.now)
    no_handler
    c.requires.ready.2) c.take_skipping.ensures.ok
