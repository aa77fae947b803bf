-- Bytes that the source looks for in a text before its characters.
use Rattle.std.specs.Prelude.{ℕ, Bool, false, ◌||◌, ◌&&◌, ◌==◌, nat_le, List, [], ◌∷◌}
use Rattle.htmd_lexical.specs.Characters.{null, carriage_return}

-- U+0000, and the byte that begins U+FEFF
abbrev pub is_unshown_byte : ℕ → Bool
is_unshown_byte b = (b == null) || (b == 0xEF)

abbrev pub is_return : ℕ → Bool
is_return b = b == carriage_return

-- the first byte is a visible ASCII character
abbrev pub begins_visibly : List ℕ → Bool
begins_visibly [] = false
begins_visibly (b ∷ s) = nat_le 33 b && nat_le b 126
