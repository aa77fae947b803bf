-- Where the names so far lead, and where the rest leads from there.
use Rattle.std.proofs.Common.{◌≡◌, [], drop, length}
use Rattle.htmd_files.specs.Paths.{parts, is_absolute, led}
use Rattle.htmd_files.specs.PlaceViews.{names_back}
use Rattle.htmd_files.proofs.places.place_of.Given as goal

abbrev pub invariant-loop-name : goal.invariant-loop-name
invariant-loop-name l = record {
  start : l.place.is_absolute ≡ is_absolute l.path;
  so_far : led (is_absolute l.path) (names_back l.place) (drop (length l.yielded) (parts l.path))
      ≡ led (is_absolute l.path) [] (parts l.path);
}
