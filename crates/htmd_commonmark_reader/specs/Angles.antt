-- What `<` begins, as the reader holds it: by how long it is.
use Rattle.std.specs.Prelude.{◌≡◌, ℕ, ◌<◌, ◌≤◌, true, List, take, drop, length, Some, None}
use Rattle.htmd_lexical.specs.Characters.{greater_than_sign}
use Rattle.htmd_lexical.specs.CharacterClasses.{first_is}
use Rattle.htmd_commonmark_reading.specs.InlineTokens.{Piece, if_uri, if_email, if_tag}
use Rattle.htmd_commonmark_reading.specs.RawTags.{raw_tag}
use Rattle.htmd_commonmark_reader.specs.declared.inline_tokens.AngleToken.{AngleToken}
use Rattle.htmd_commonmark_reader.specs.declared.inline_tokens.AngleToken.TheVariants.{Uri, Email, Tag, Sign}

-- of the text behind the `<`
abbrev pub angle_of : List ℕ → AngleToken → Piece
angle_of s (Uri n) = if_uri (Some (take n s)) (if_tag None)
angle_of s (Email n) = if_email (Some (take n s)) (if_tag None)
angle_of s (Tag n) = if_tag (Some (take n s))
angle_of s Sign = if_tag None

-- the text is as long
abbrev pub IsWithin : List ℕ → AngleToken → Type 0
IsWithin s (Uri n) = n < length s
IsWithin s (Email n) = n < length s
IsWithin s (Tag n) = n ≤ length s
IsWithin s Sign = Unit {0}

-- what was found; behind an address there is a `>`
abbrev pub IsFound : List ℕ → AngleToken → Type 0
IsFound s (Uri n) = first_is greater_than_sign (drop n s) ≡ true
IsFound s (Email n) = first_is greater_than_sign (drop n s) ≡ true
IsFound s (Tag n) = Some (take n s) ≡ raw_tag s
IsFound s Sign = Unit {0}
