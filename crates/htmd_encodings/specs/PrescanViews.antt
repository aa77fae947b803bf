-- What the search finds, as the program holds it; only the contracts of private functions cite it.
use Rattle.std.specs.Prelude.{ℕ, Bool, ◌&&◌, List, drop, codes}
use Rattle.htmd_lexical.specs.CharacterClasses.{begins_in_any_case}
use Rattle.htmd_encodings.specs.declared.prescan.Found as held
use Rattle.htmd_encodings.specs.declared.prescan.Found.TheVariants.{Said, Onward}
use Rattle.htmd_encodings.specs.Prescan.{Found, said, onward, begins_with_gap}

abbrev pub found_of : held.Found → Found
found_of (Said encoding) = said encoding
found_of (Onward rest) = onward rest.now

-- a `meta` begins after a `<`
abbrev pub is_meta : List ℕ → Bool
is_meta s = begins_in_any_case (codes "meta") s && begins_with_gap (drop 4 s)
