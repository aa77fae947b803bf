-- The first input that is an output is among those that are left.
use Rattle.std.proofs.Common.{◌≡◌, drop}
use Rattle.htmd_files.specs.FilePlans.{overwritten_in}
use Rattle.htmd_files.specs.PlanViews.{pages_of}
use Rattle.htmd_files.proofs.planning.check_inputs.Given as goal

abbrev pub invariant-loop-page : goal.invariant-loop-page
invariant-loop-page l =
    overwritten_in (pages_of l.pages) (pages_of (drop l.page-index l.pages))
    ≡ overwritten_in (pages_of l.pages) (pages_of l.pages)
