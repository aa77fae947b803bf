use Rattle.std.proofs.Common.{◌≡◌, ◌∙◌, sym, string_bytes}
use Rattle.std.proofs.lemmas.Result.{IfOk-weaker}
use Rattle.htmd_walk.specs.Layers.{put_at}
use Rattle.htmd_walk.specs.Markdown.{append_texts}
use Rattle.htmd_walk.proofs.LayersLemmas.{append_texts-put}
use Rattle.htmd_walk.proofs.element_handler.layered.LayeredRegistry.append.Goals as goal

pub returns : goal.returns
returns g c =
    let rest = c.args.self.now.rest in
    let plan = g.H.Answering.plan_named c.args.self.now.handler in
    let finish = g.H.Answering.finish_named c.args.self.now.handler in
    let i = c.args.self.now.index in
    IfOk-weaker c.append.result _
    (λ text. string_bytes text
    ≡ append_texts (put_at (g.R.Registry.config rest) i plan finish).handlers c.args.links.now)
    (λ text e. e ∙ sym (append_texts-put plan finish (g.R.Registry.config rest).handlers i c.args.links.now))
    c.append.ensures
