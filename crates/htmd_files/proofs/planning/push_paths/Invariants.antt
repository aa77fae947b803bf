-- The pages so far, and those of the paths that are left.
use Rattle.std.proofs.Common.{◌≡◌, ◌++◌, drop, map}
use Rattle.htmd_files.specs.FilePlans.{page_below}
use Rattle.htmd_files.specs.PlaceViews.{texts}
use Rattle.htmd_files.specs.PlanViews.{destination_of, pages_of}
use Rattle.htmd_files.proofs.planning.push_paths.Given as goal

abbrev pub invariant-loop-path : goal.invariant-loop-path
invariant-loop-path l =
    pages_of l.pages.items ++ map (page_below (destination_of l.out) l.folder) (texts (drop l.path-index l.paths))
    ≡ pages_of l.fn.pages.items ++ map (page_below (destination_of l.out) l.folder) (texts l.paths)
