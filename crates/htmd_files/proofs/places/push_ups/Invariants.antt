-- The path so far, and what is left.
use Rattle.std.proofs.Common.{◌≡◌, ◌++◌, drop, string_bytes}
use Rattle.htmd_files.specs.PlaceViews.{texts}
use Rattle.htmd_files.specs.Relative.{ups}
use Rattle.htmd_files.proofs.places.push_ups.Given as goal

abbrev pub invariant-loop : goal.invariant-loop
invariant-loop l =
    string_bytes l.path ++ ups (texts (drop l.index l.names)) ≡ string_bytes l.fn.path ++ ups (texts l.names)
