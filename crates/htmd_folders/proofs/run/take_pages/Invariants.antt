-- The pages so far were taken.
use Rattle.std.proofs.Common.{◌≡◌, ◌+◌, take}
use Rattle.htmd_folders.specs.FolderConversions.{Takes}
use Rattle.htmd_folders.specs.Pages.{or_copy}
use Rattle.htmd_folders.proofs.run.take_pages.Given as goal

abbrev pub invariant-loop-page : goal.invariant-loop-page
invariant-loop-page g l = record {
  all : l.tally.converted + l.tally.copied + l.tally.up_to_date + l.tally.failed ≡ l.page-index;
  taken :
      Takes (or_copy (g.C.Conversion.becomes l.conversion)) l.options.keeps_newer (take l.page-index l.pages)
      (g.S.Store.changes l.initial.store) (g.S.Store.changes l.store) l.tally.up_to_date l.tally.failed;
}
