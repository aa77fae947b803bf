-- What names and places stand for.
use Rattle.std.specs.Prelude.{ℕ, List, map, reverse}
use Rattle.std.specs.Borrow.{Bor}
use Rattle.htmd_files.specs.declared.places.Place as held
use Rattle.htmd_files.specs.Paths.{Place}

abbrev pub texts : List (Bor (List ℕ)) → List (List ℕ)
texts names = map (λ name. name.now) names

abbrev pub place_in : held.Place → Place
place_in at = record { is_absolute = at.is_absolute; names = texts at.names.items }

-- its names, the last one first
abbrev pub names_back : held.Place → List (List ℕ)
names_back at = reverse (texts at.names.items)
