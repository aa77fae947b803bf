-- The files that are copied, sorted, or none.
use Rattle.std.proofs.Common.{◌∙◌, ap, sym}
use Rattle.std.proofs.lemmas.Bool.{cond-true}
use Rattle.htmd_files.specs.FilePlans.{in_order}
use Rattle.htmd_files.proofs.OrderLemmas.{sorted_is}
use Rattle.htmd_files.proofs.planning.copies_among.Goals as goal

pub returns : goal.returns
returns c =
    sorted_is c.in_ok-copied.copied.items c.sort.new.self.items c.sort.ensures.permutation c.in_ok-sort.ensures.sorted
    ∙ ap in_order c.in_ok-copied.ensures
    ∙ sym (cond-true c.args.out.copies _ _ c.if-not-out.false)
