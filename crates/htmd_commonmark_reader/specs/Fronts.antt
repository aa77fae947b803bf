-- Beginnings of texts, as the reader holds them.
use Rattle.std.specs.Prelude.{ℕ, ◌+◌, Bool, ◌==◌, if◌then◌else◌, List, ◌++◌, take, drop, Option, Some, None}
use Rattle.htmd_commonmark_reading.specs.Characters as spec
use Rattle.htmd_commonmark_reading.specs.LinkDefinitions.{open_after}
use Rattle.htmd_commonmark_reader.specs.declared.link_definitions.Front.{Front}

abbrev pub front_of : Front → spec.Front
front_of f = record { front = f.front.now; rest = f.rest.now }

-- a text at a place, and around the character there
abbrev pub split : List ℕ → ℕ → spec.Front
split s n = record { front = take n s; rest = drop n s }

abbrev pub around : List ℕ → ℕ → spec.Front
around s n = record { front = take n s; rest = drop (n + 1) s }

-- a beginning with a text before it
abbrev pub behind : List ℕ → Option spec.Front → Option spec.Front
behind s None = None
behind s (Some f) = Some (record { front = s ++ f.front; rest = f.rest })

-- the parentheses that are open after a character, which may be escaped
abbrev pub depth_after : ℕ → Bool → ℕ → ℕ
depth_after depth is_escaped c = if is_escaped then depth else open_after depth c

abbrev pub if_closed : ℕ → ℕ → Option ℕ
if_closed depth end = if depth == 0 then Some end else None
