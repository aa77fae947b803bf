use Rattle.std.proofs.Common.{◌≡◌, drop}
use Rattle.htmd_walk.specs.ElementPlans.{are_markdown}
use Rattle.htmd_walk.specs.Views.{results_view}
use Rattle.htmd_walk.proofs.element_handler.plans.are_markdown.Given as goal

abbrev pub invariant-loop-content : goal.invariant-loop-content
invariant-loop-content l =
    are_markdown (results_view (drop l.content-index l.contents)) ≡ are_markdown (results_view l.contents)
