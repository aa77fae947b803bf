use Rattle.std.proofs.Common.{◌∙◌}
use Rattle.htmd_walk.proofs.LayersLemmas.{put-made}
use Rattle.htmd.proofs.converter.HtmlToMarkdownBuilder.add_fn_handler.Goals as goal

pub returns-in-Ok-clause-ok : goal.returns-in-Ok-clause-ok
returns-in-Ok-clause-ok g c =
    c.new.ensures.config ∙ put-made g.R.Registry.config g.H.Answering.plan_named g.H.Answering.finish_named _ _ _ _ _
    c.in-Ok.ensures.ok c.in-Ok.ensures.index
