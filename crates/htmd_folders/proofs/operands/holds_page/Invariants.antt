-- None of the files so far is a page.
use Rattle.std.proofs.Common.{◌≡◌, drop}
use Rattle.std.specs.List.{list_any}
use Rattle.htmd_files.specs.Names.{is_page}
use Rattle.htmd_files.specs.NameViews.{kind_of}
use Rattle.htmd_files.specs.WordViews.{texts_of}
use Rattle.htmd_folders.proofs.operands.holds_page.Given as goal

abbrev pub invariant-loop-file : goal.invariant-loop-file
invariant-loop-file l =
    list_any (is_page (kind_of l.kind)) (texts_of l.files)
    ≡ list_any (is_page (kind_of l.kind)) (texts_of (drop l.file-index l.files))
