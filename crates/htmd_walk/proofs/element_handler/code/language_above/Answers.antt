use Rattle.std.proofs.Common.{sym, arith}
use Rattle.htmd_walk.proofs.element_handler.code.language_above.Goals as goal

pub language_inside-requires : goal.language_inside-requires
language_inside-requires c =
    let up = c.in-Some.ensures.tree.under c.args.node c.in-Some.parent c.requires (sym c.in-Some.ensures.value) in
    omega (arith, up.before, c.requires)
