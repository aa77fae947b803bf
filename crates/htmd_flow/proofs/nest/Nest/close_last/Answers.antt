-- What is left to prove of `close_last`.
use Rattle.htmd_flow.proofs.NestLemmas.{close-frame}
use Rattle.htmd_flow.proofs.nest.Nest.close_last.Goals as goal

pub returns-clause-inlines : goal.returns-clause-inlines
returns-clause-inlines c = close-frame c.args.self.now.frames.items c.pop.new.self.items c.in-Some.frame
    c.args.self.now.content.items c.push.new.self.items c.wrap.result c.in-Some.ensures.items
    (rw c.replace-content.ensures.value at c.wrap.ensures)
    (rw c.replace-content.ensures.after at c.in_ok-push.ensures.items)
