-- Line ends: CR LF and a lone CR are a line feed (HTML Standard, 13.2.3.5).
use Rattle.std.specs.Prelude.{ℕ, ◌&&◌, ◌==◌, if◌then◌else◌, List, [], ◌∷◌}
use Rattle.htmd_lexical.specs.Characters.{line_feed, carriage_return}
use Rattle.htmd_lexical.specs.CharacterClasses.{first_is}

-- a text without references, where CR LF and a lone CR are a line feed
abbrev pub normalized : List ℕ → List ℕ
normalized [] = []
normalized (b ∷ s) =
    if b == carriage_return && first_is line_feed s
    then normalized s
    else (if b == carriage_return then line_feed else b) ∷ normalized s
