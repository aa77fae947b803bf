use Rattle.std.proofs.Common.{◌∙◌, sym, codes}
use Rattle.htmd_walk.specs.Spans.{spans}
use Rattle.htmd_walk.proofs.PassingLemmas.{one_handler, none_after}
use Rattle.htmd_walk.proofs.dom_walker.Walk.has_span_handler_alone.Goals as goal

pub returns : goal.returns
returns g c = λ t.
    one_handler (g.R.Registry.config c.args.self.now.registry.now) (codes "span") c.in-Some.index spans
    c.in-Some.ensures.value
    (none_after c.find-2.result (sym c.is_some.ensures ∙ c.if-is_some.false) ∙ c.find-2.ensures.value)
    (c.is_span_handler_at.ensures t)
