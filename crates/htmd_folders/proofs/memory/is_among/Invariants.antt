-- The files so far are others.
use Rattle.std.proofs.Common.{◌≡◌, drop}
use Rattle.htmd_files.specs.WordViews.{texts_of}
use Rattle.htmd_folders.specs.Listings.{times}
use Rattle.htmd_folders.proofs.memory.is_among.Given as goal

abbrev pub invariant-loop-file : goal.invariant-loop-file
invariant-loop-file l = times l.path (texts_of l.files) ≡ times l.path (texts_of (drop l.file-index l.files))
