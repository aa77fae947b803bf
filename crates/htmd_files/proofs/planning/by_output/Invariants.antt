-- The pages so far by their outputs, and what is shared among those that are left.
use Rattle.std.proofs.Common.{◌≡◌, drop, take, []}
use Rattle.htmd_files.specs.FilePlans.{shared_after}
use Rattle.htmd_files.specs.PlanViews.{pages_of, HoldsOutputs}
use Rattle.htmd_files.proofs.planning.by_output.Given as goal

abbrev pub invariant-loop-page : goal.invariant-loop-page
invariant-loop-page l = record {
  holds : HoldsOutputs (pages_of (take l.page-index l.pages)) l.outputs;
  so_far : shared_after (pages_of (take l.page-index l.pages)) (pages_of (drop l.page-index l.pages))
      ≡ shared_after [] (pages_of l.pages);
}
