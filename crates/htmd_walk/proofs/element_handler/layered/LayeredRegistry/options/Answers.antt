use Rattle.htmd_walk.proofs.HandlersStayLemmas.{layer-stays}
use Rattle.htmd_walk.proofs.element_handler.layered.LayeredRegistry.options.Goals as goal

pub returns-clause-stay : goal.returns-clause-stay
returns-clause-stay g c =
    layer-stays (g.R.Registry.config c.args.self.now.rest) c.args.self.now.index
    (g.H.Answering.plan_named c.args.self.now.handler) (g.H.Answering.finish_named c.args.self.now.handler)
    c.options.ensures.stay
