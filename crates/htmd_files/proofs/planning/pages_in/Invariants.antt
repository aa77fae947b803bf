-- The pages so far, and those of the operands that are left.
use Rattle.std.proofs.Common.{◌≡◌, drop, map}
use Rattle.htmd_files.specs.FilePlans.{after, pages_in}
use Rattle.htmd_files.specs.PlanViews.{destination_of, operand_of, pages_of}
use Rattle.htmd_files.proofs.planning.pages_in.Given as goal

abbrev pub invariant-loop-operand : goal.invariant-loop-operand
invariant-loop-operand l =
    after (pages_of l.pages.items) (pages_in (destination_of l.out) (map operand_of (drop l.operand-index l.operands)))
    ≡ pages_in (destination_of l.out) (map operand_of l.operands)
