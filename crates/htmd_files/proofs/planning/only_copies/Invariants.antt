-- The files that are copied so far, and those among the files that are left.
use Rattle.std.proofs.Common.{◌≡◌, ◌++◌, drop}
use Rattle.std.specs.Prelude.{filter}
use Rattle.htmd_files.specs.FilePlans.{is_copied}
use Rattle.htmd_files.specs.NameViews.{kind_of}
use Rattle.htmd_files.specs.Paths.{is_within, place}
use Rattle.htmd_files.specs.PlaceViews.{place_in, texts}
use Rattle.htmd_files.specs.WordViews.{texts_of}
use Rattle.htmd_files.proofs.planning.only_copies.Given as goal

abbrev pub invariant-loop-file : goal.invariant-loop-file
invariant-loop-file l = record {
  within : l.holds_output ≡ is_within l.folder l.out;
  at_output : place_in l.output ≡ place l.out;
  so_far :
      texts l.copied.items ++ filter (is_copied (kind_of l.kind) l.holds_output (place_in l.output) l.folder)
      (texts_of (drop l.file-index l.files))
      ≡ filter (is_copied (kind_of l.kind) l.holds_output (place_in l.output) l.folder) (texts_of l.files);
}
