-- The byte order mark.
use Rattle.std.specs.Prelude.{ℕ, if◌then◌else◌, List, [], ◌∷◌, drop}
use Rattle.htmd_lexical.specs.CharacterClasses.{begins_with}

-- U+FEFF in UTF-8
abbrev pub byte_order_mark : List ℕ
byte_order_mark = 0xEF ∷ 0xBB ∷ 0xBF ∷ []

-- the text without a byte order mark at its beginning, which denotes nothing
abbrev pub behind_mark : List ℕ → List ℕ
behind_mark s = if begins_with byte_order_mark s then drop 3 s else s
