-- The first page outside is among those that are left.
use Rattle.std.proofs.Common.{◌≡◌, drop}
use Rattle.std.specs.Prelude.{find}
use Rattle.htmd_files.specs.Paths.{place}
use Rattle.htmd_files.specs.FilePlans.{is_outside}
use Rattle.htmd_files.specs.PlaceViews.{place_in}
use Rattle.htmd_files.specs.PlanViews.{pages_of}
use Rattle.htmd_files.proofs.planning.check_below.Given as goal

abbrev pub invariant-loop-page : goal.invariant-loop-page
invariant-loop-page l = record {
  at_folder : place_in l.folder ≡ place l.out;
  so_far : find (is_outside l.out) (pages_of (drop l.page-index l.pages))
      ≡ find (is_outside l.out) (pages_of l.pages);
}
