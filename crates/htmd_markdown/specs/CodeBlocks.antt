-- What code blocks of both kinds hold.
use Rattle.std.specs.Prelude.{ℕ, ◌-◌, ◌==◌, if◌then◌else◌, List, length, take, slice_index}
use Rattle.htmd_lexical.specs.Characters.{line_feed}

-- the content of a code block without its one final line feed
abbrev pub code_of : List ℕ → List ℕ
code_of s = if slice_index s (length s - 1) == line_feed then take (length s - 1) s else s
