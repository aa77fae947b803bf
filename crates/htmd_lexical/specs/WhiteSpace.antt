-- White space of a text.
use Rattle.std.specs.Prelude.{ℕ, Bool, false, ◌||◌, ◌==◌, List, [], ◌∷◌}
use Rattle.std.specs.Char.{is_ascii_whitespace}
use Rattle.htmd_lexical.specs.Characters.{space, tab, line_feed, carriage_return}

-- ASCII white space of HTML: tab, line feed, form feed, carriage return and space (Infra standard, 4.5)
abbrev pub is_ascii_white_space : ℕ → Bool
is_ascii_white_space b = is_ascii_whitespace b

-- document white space, which has no form feed: tab, line feed, carriage return and space
abbrev pub is_document_white_space : ℕ → Bool
is_document_white_space b = (b == tab) || (b == line_feed) || (b == carriage_return) || (b == space)

-- the text begins with ASCII white space
abbrev pub begins_with_white_space : List ℕ → Bool
begins_with_white_space [] = false
begins_with_white_space (b ∷ s) = is_ascii_white_space b
