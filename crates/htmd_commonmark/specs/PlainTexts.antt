-- Bytes that the source looks for in a text before it asks about each place.
use Rattle.std.specs.Prelude.{ℕ, Bool, ◌&&◌, ◌||◌, nat_le, codes}
use Rattle.htmd_lexical.specs.Characters.{left_square_bracket, grave_accent, is_one_of}

-- it gets a backslash in some places of lines: one of `[\]^_` and a backquote, which follow one another, and others
abbrev pub may_be_marked : ℕ → Bool
may_be_marked b = (nat_le left_square_bracket b && nat_le b grave_accent) || is_one_of (codes "!&*<~") b

-- it is escaped in some addresses
abbrev pub may_be_escaped : ℕ → Bool
may_be_escaped b = is_one_of (codes "&()<>\\") b
