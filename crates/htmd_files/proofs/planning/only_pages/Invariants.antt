-- The pages so far, and those among the files that are left.
use Rattle.std.proofs.Common.{◌≡◌, ◌++◌, drop}
use Rattle.std.specs.Prelude.{filter}
use Rattle.htmd_files.specs.Names.{is_page}
use Rattle.htmd_files.specs.NameViews.{kind_of}
use Rattle.htmd_files.specs.PlaceViews.{texts}
use Rattle.htmd_files.specs.WordViews.{texts_of}
use Rattle.htmd_files.proofs.planning.only_pages.Given as goal

abbrev pub invariant-loop-file : goal.invariant-loop-file
invariant-loop-file l =
    texts l.paths.items ++ filter (is_page (kind_of l.kind)) (texts_of (drop l.file-index l.files))
    ≡ filter (is_page (kind_of l.kind)) (texts_of l.files)
