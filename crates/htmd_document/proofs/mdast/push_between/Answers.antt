-- What is left to prove of `push_between`.
use Rattle.htmd_document.proofs.MdastLemmas.{between-pushed}
use Rattle.htmd_document.proofs.mdast.push_between.Goals as goal

pub returns : goal.returns
returns c = between-pushed c.args.out.now.items c.push.new.self.items c.append.new.self.items c.push-2.new.self.items
    c.args.children.items _ _ c.args.before.now c.args.after.now c.in_ok-push.ensures.items c.in_ok-append.ensures.items
    c.in_ok-push-2.ensures.items c.in_ok-with_value.ensures c.in_ok-with_value-2.ensures
