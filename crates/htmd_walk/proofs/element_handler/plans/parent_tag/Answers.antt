use Rattle.std.proofs.Common.{sym, arith}
use Rattle.htmd_walk.proofs.element_handler.plans.parent_tag.Goals as goal

pub tag_name-requires : goal.tag_name-requires
tag_name-requires c =
    let up = c.in-Some.ensures.tree.under c.args.element.now.node c.in-Some.parent c.args.element.now.within
    (sym c.in-Some.ensures.value) in
    omega (arith, up.before, c.args.element.now.within)
