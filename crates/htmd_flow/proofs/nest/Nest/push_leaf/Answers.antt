-- What is left to prove of `push_leaf`.
use Rattle.std.proofs.Common.{◌∙◌, sym, ap}
use Rattle.htmd_document.specs.DocumentViews.{inline_of, inlines_of}
use Rattle.htmd_flow.specs.NestViews.{frames_of, content_of, within}
use Rattle.htmd_flow.proofs.NestLemmas.{inlines-push}
use Rattle.htmd_flow.proofs.NestingLemmas.{joined-apart}
use Rattle.htmd_flow.proofs.nest.Nest.push_leaf.Goals as goal

pub returns-clause-inlines : goal.returns-clause-inlines
returns-clause-inlines c = ap (within (frames_of c.reach.new.self)) (ap inlines_of c.in_ok-push.ensures.items
    ∙ (inlines-push c.reach.new.self.content.items c.args.leaf
    ∙ sym (joined-apart (content_of c.reach.new.self) (inline_of c.args.leaf) c.requires.apart)))
    ∙ c.in_ok-reach.ensures.place (inline_of c.args.leaf)
