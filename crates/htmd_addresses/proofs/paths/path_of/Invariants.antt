-- What the loop of `path_of` keeps.
use Rattle.std.proofs.Common.{◌≡◌, ◌++◌, ◌∷◌, [], drop}
use Rattle.std.specs.List.{flat_map}
use Rattle.htmd_lexical.specs.Characters.{slash}
use Rattle.htmd_addresses.specs.PageViews.{names_of}
use Rattle.htmd_addresses.proofs.paths.path_of.Given as goal

abbrev pub invariant-loop-above : goal.invariant-loop-above
invariant-loop-above l =
    l.path.items ++ flat_map (λ s. s ++ slash ∷ []) (names_of (drop l.above-index l.folder))
    ≡ flat_map (λ s. s ++ slash ∷ []) (names_of l.folder)
