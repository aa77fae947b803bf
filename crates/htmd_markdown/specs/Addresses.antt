-- The address of a link or image as it is written (CommonMark 0.31.2, 6.3).
use Rattle.std.specs.Prelude.{◌≡◌, ℕ, Bool, ◌==◌, if◌then◌else◌, List, [], ◌++◌, slice_index, codes}
use Rattle.std.specs.List.{list_any}
use Rattle.htmd_lexical.specs.Characters.{space, backslash, is_one_of}
use Rattle.htmd_text.specs.EscapedPlaces.{with_backslashes}
use Rattle.htmd_text.specs.Unescape.{unescape}

-- the text with a backslash before each of these characters
abbrev pub escaped_among : List ℕ → List ℕ → List ℕ
escaped_among characters s = with_backslashes (λ k. is_one_of characters (slice_index s k)) 0 s

abbrev pub parentheses : List ℕ
parentheses = codes "()"

-- the address with its parentheses after backslashes
abbrev pub escaped_address : List ℕ → List ℕ
escaped_address address = escaped_among parentheses address

abbrev pub holds_space : List ℕ → Bool
holds_space address = list_any (λ b. b == space) address

-- A destination that holds a space stands between `<` and `>`.
abbrev pub opening_bracket : List ℕ → List ℕ
opening_bracket address = if holds_space address then codes "<" else []

abbrev pub closing_bracket : List ℕ → List ℕ
closing_bracket address = if holds_space address then codes ">" else []

abbrev pub holds_backslash : List ℕ → Bool
holds_backslash address = list_any (λ b. b == backslash) address

-- between these two texts stands the address, written so that its backslashes are read (CommonMark 0.31.2, 2.4) as it
pub record HoldsAddress (before address behind text : List ℕ) : Type 0 where
  pub written : List ℕ
  pub whole : text ≡ before ++ written ++ behind
  pub reads_back : unescape written ≡ address
