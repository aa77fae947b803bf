-- The path so far, and what is left.
use Rattle.std.proofs.Common.{◌≡◌, ◌++◌, drop, string_bytes}
use Rattle.htmd_files.specs.PlaceViews.{texts}
use Rattle.htmd_files.specs.Paths.{with_slashes}
use Rattle.htmd_files.proofs.places.push_with_slashes.Given as goal

abbrev pub invariant-loop-name : goal.invariant-loop-name
invariant-loop-name l =
    string_bytes l.path ++ with_slashes (texts (drop l.name-index l.names))
    ≡ string_bytes l.fn.path ++ with_slashes (texts l.names)
