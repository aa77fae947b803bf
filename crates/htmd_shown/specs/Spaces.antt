-- White space of a paragraph.
use Rattle.std.specs.Prelude.{ℕ, Bool, true, false, ◌||◌, ◌&&◌, ◌==◌, not, if◌then◌else◌, List, [], ◌∷◌, ◌++◌}
use Rattle.std.specs.Char.{encode_utf8}
use Rattle.std.specs.Int.{is_in_range}
use Rattle.std.specs.List.{list_all}
use Rattle.std.specs.Str.{chars}
use Rattle.htmd_lexical.specs.Characters.{space}
use Rattle.htmd_lexical.specs.WhiteSpace.{is_ascii_white_space}

-- the characters past ASCII of the general category Zs (Unicode, 4.5)
abbrev pub is_wide_space : ℕ → Bool
is_wide_space c = (c == 0xA0) || (c == 0x1680) || is_in_range 0x2000 0x200A c || (c == 0x202F) || (c == 0x205F)
    || (c == 0x3000)

-- what can't stand at the inner side of a mark (CommonMark 0.31.2, 6.2: Unicode white space)
abbrev pub is_white : ℕ → Bool
is_white c = is_ascii_white_space c || is_wide_space c

abbrev pub is_not_white : ℕ → Bool
is_not_white c = not (is_white c)

-- white space alone
abbrev pub is_blank_text : List ℕ → Bool
is_blank_text s = list_all is_white (chars s)

-- white space as it is shown: a space for each of ASCII
abbrev pub shown_white : ℕ → ℕ
shown_white c = if is_ascii_white_space c then space else c

-- what stands between two things that show
pub record Gap : Type 0 where
  -- the white space in it after its last break
  pub white : List ℕ
  pub has_break : Bool
  -- whether all of that white space is code
  pub is_code : Bool

abbrev pub no_gap : Gap
no_gap = record { white = []; has_break = false; is_code = true }

abbrev pub ends_with_space : List ℕ → Bool
ends_with_space [] = false
ends_with_space (b ∷ []) = b == space
ends_with_space (b ∷ c ∷ s) = ends_with_space (c ∷ s)

-- with one more white space; a space after a space is left out
abbrev pub spaced : Gap → ℕ → Bool → Gap
spaced g c is_code =
    if is_ascii_white_space c && ends_with_space g.white
    then g
    else record g { white = g.white ++ encode_utf8 (shown_white c); is_code = g.is_code && is_code }

-- with one more break, which takes the white space before it
abbrev pub broken : Gap → Gap
broken g = record { white = []; has_break = true; is_code = true }
