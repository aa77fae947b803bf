-- The pages, sorted.
use Rattle.std.proofs.Common.{◌∙◌, ap}
use Rattle.htmd_files.specs.FilePlans.{in_order}
use Rattle.htmd_files.proofs.OrderLemmas.{sorted_is}
use Rattle.htmd_files.proofs.planning.pages_among.Goals as goal

pub returns : goal.returns
returns c =
    sorted_is c.in_ok-paths.paths.items c.sort.new.self.items c.sort.ensures.permutation c.in_ok-sort.ensures.sorted
    ∙ ap in_order c.in_ok-paths.ensures
