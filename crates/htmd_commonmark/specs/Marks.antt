-- The marks of formats, and where each is written: where every reader takes it for one (CommonMark 0.29 to 0.31.2, 6.2,
-- and GitHub's strikethrough).
use Rattle.std.specs.Prelude.{ℕ, Bool, false, true, not, ◌&&◌, ◌||◌, ◌==◌, if◌then◌else◌, List, Option, Some, None}
use Rattle.std.specs.Prelude.{codes}
use Rattle.htmd_lexical.specs.Characters.{asterisk, tilde, underscore, less_than_sign, is_one_of}
use Rattle.htmd_document.specs.Formats.{Format, Emphasis, Strong, Deleted}
use Rattle.htmd_document.specs.Tags.{format_tag, end_of_format}
use Rattle.htmd_commonmark.specs.declared.marks.Sides.{Sides}
use Rattle.htmd_commonmark.specs.CharacterKinds.{is_space, is_word, is_apart}

-- what is written before a format's content and after it, and the first character of both
pub record Mark : Type 0 where
  pub sign : ℕ
  pub opener : List ℕ
  pub closer : List ℕ

-- the character is there, and is this one
abbrev pub is_character : ℕ → Option ℕ → Bool
is_character c None = false
is_character c (Some d) = d == c

-- it is there, and is one of the three signs
abbrev pub is_sign_there : Option ℕ → Bool
is_sign_there None = false
is_sign_there (Some c) = is_one_of (codes "*_~") c

-- nothing, or white space or punctuation in all readers
abbrev pub is_apart_there : Option ℕ → Bool
is_apart_there None = true
is_apart_there (Some c) = is_apart c

-- the mark would be one row with an equal sign beside it
abbrev pub meets_equal : ℕ → Sides → Bool
meets_equal sign s =
    is_character sign s.before && not s.is_escaped || s.is_last && is_character sign s.after

-- A mark stands between these two, as every reader sees it: white space isn't at its inner side, and where that isn't a
-- word's character, the outer one stands apart.
abbrev pub can_stand : Option ℕ → Option ℕ → Bool
can_stand None outer = false
can_stand (Some inner) outer = not (is_space inner) && (is_word inner || is_apart_there outer)

-- tildes beside other signs are read in different ways
abbrev pub is_disputed : ℕ → Sides → Bool
is_disputed sign s =
    if sign == tilde then is_sign_there s.before || is_sign_there s.after
    else is_character tilde s.before

-- an underscore is no mark in a word
abbrev pub is_in_word : ℕ → Sides → Bool
is_in_word sign s = (sign == underscore) && not (is_apart_there s.before && is_apart_there s.after)

-- the sign is a mark on both sides for every reader
abbrev pub fits : ℕ → Sides → Bool
fits sign s =
    not (meets_equal sign s)
    && (can_stand s.first s.before && can_stand s.last s.after)
    && not (is_disputed sign s)
    && not (is_in_word sign s)

-- these signs on both sides
abbrev pub row : ℕ → List ℕ → Mark
row sign signs = record { sign = sign; opener = signs; closer = signs }

-- a tag and its end tag
abbrev pub tags : List ℕ → List ℕ → Mark
tags opener closer = record { sign = less_than_sign; opener = opener; closer = closer }

-- formats that have no marks
abbrev pub is_always_tag : Format → Bool
is_always_tag Emphasis = false
is_always_tag Strong = false
is_always_tag Deleted = false
is_always_tag format = true

abbrev pub tags_of : Format → Mark
tags_of format = tags (format_tag format) (end_of_format format)

-- Asterisks or tildes where they fit, else underscores where those do, else tags.
abbrev pub mark_for : Format → Sides → Mark
mark_for Emphasis s =
    if fits asterisk s then row asterisk (codes "*")
    else if fits underscore s then row underscore (codes "_")
    else tags_of Emphasis
mark_for Strong s =
    if fits asterisk s then row asterisk (codes "**")
    else if fits underscore s then row underscore (codes "__")
    else tags_of Strong
mark_for Deleted s = if fits tilde s then row tilde (codes "~~") else tags_of Deleted
mark_for format s = tags_of format
