-- What the loop of `enter_folder` keeps.
use Rattle.std.proofs.Common.{◌≡◌, drop, length}
use Rattle.htmd_addresses.specs.PageViews.{names_of}
use Rattle.htmd_addresses.specs.Paths.{enter_all, folder_in, names_before}
use Rattle.htmd_addresses.proofs.paths.enter_folder.Given as goal

abbrev pub invariant-loop-name : goal.invariant-loop-name
invariant-loop-name l =
    enter_all (names_of l.folder.items) (drop (length l.yielded) (names_before l.fn.path))
    ≡ folder_in (names_of l.fn.folder.items) l.fn.path
