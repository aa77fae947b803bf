-- What the grammar is set to: which character references have a name, how deep a tree may be, and scripting.
use Rattle.std.specs.Prelude.{ℕ, Bool, if◌then◌else◌, List, [], ◌∷◌, Option, Some, None, codes}
use Rattle.std.specs.Str.{bytes_eq}

-- a name of a character reference, and the character's code point
pub record NamedCharacter : Type 0 where
  pub name : List ℕ
  pub character : ℕ

-- the character with this name
abbrev pub character_named : List NamedCharacter → List ℕ → Option ℕ
character_named [] n = None
character_named (entry ∷ entries) n = if bytes_eq n entry.name then Some entry.character
    else character_named entries n

pub record Rules : Type 0 where
  pub names : List NamedCharacter
  pub depth : ℕ
  pub scripting : Bool

-- ---- this project's

abbrev named : List ℕ → ℕ → NamedCharacter
named n c = record { name = n; character = c }

-- 44 of the names of the HTML Standard, 13.5
abbrev pub named_characters : List NamedCharacter
named_characters =
    named (codes "amp") 0x26 ∷ named (codes "lt") 0x3C ∷ named (codes "gt") 0x3E ∷ named (codes "quot") 0x22
    ∷ named (codes "apos") 0x27 ∷ named (codes "nbsp") 0xA0 ∷ named (codes "copy") 0xA9
    ∷ named (codes "reg") 0xAE
    ∷ named (codes "deg") 0xB0 ∷ named (codes "middot") 0xB7 ∷ named (codes "laquo") 0xAB
    ∷ named (codes "raquo") 0xBB
    ∷ named (codes "frac12") 0xBD ∷ named (codes "times") 0xD7 ∷ named (codes "agrave") 0xE0
    ∷ named (codes "auml") 0xE4 ∷ named (codes "ccedil") 0xE7 ∷ named (codes "egrave") 0xE8
    ∷ named (codes "eacute") 0xE9 ∷ named (codes "ouml") 0xF6 ∷ named (codes "uuml") 0xFC
    ∷ named (codes "szlig") 0xDF
    ∷ named (codes "ndash") 0x2013 ∷ named (codes "mdash") 0x2014 ∷ named (codes "lsquo") 0x2018
    ∷ named (codes "rsquo") 0x2019 ∷ named (codes "ldquo") 0x201C ∷ named (codes "rdquo") 0x201D
    ∷ named (codes "bull") 0x2022 ∷ named (codes "hellip") 0x2026 ∷ named (codes "euro") 0x20AC
    ∷ named (codes "trade") 0x2122 ∷ named (codes "iexcl") 0xA1 ∷ named (codes "cent") 0xA2
    ∷ named (codes "pound") 0xA3 ∷ named (codes "yen") 0xA5 ∷ named (codes "sect") 0xA7
    ∷ named (codes "plusmn") 0xB1
    ∷ named (codes "micro") 0xB5 ∷ named (codes "para") 0xB6 ∷ named (codes "iquest") 0xBF
    ∷ named (codes "aacute") 0xE1 ∷ named (codes "iacute") 0xED ∷ named (codes "ntilde") 0xF1 ∷ []

-- nodes stand at most this many levels below the Document
abbrev pub greatest_depth : ℕ
greatest_depth = 1024

abbrev pub project : Bool → Rules
project scripting = record { names = named_characters; depth = greatest_depth; scripting = scripting }
