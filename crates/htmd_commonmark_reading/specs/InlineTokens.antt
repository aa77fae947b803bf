-- Code spans (CommonMark 0.31.2, 6.1) and autolinks (6.5).
use Rattle.std.specs.Prelude.{ℕ, suc, Bool, true, false, not, ◌&&◌, ◌||◌, ◌==◌, nat_lt, nat_le}
use Rattle.std.specs.Prelude.{if◌then◌else◌, List, [], ◌∷◌, ◌++◌, length, drop, reverse, replicate, codes}
use Rattle.std.specs.Prelude.{Option, Some, None}
use Rattle.std.specs.List.{list_all, slice_split}
use Rattle.std.specs.Char.{is_ascii_alphanumeric}
use Rattle.htmd_lexical.specs.Characters.{line_feed, space, hyphen, full_stop, colon, less_than_sign, greater_than_sign}
use Rattle.htmd_lexical.specs.Characters.{grave_accent, is_one_of}
use Rattle.htmd_lexical.specs.CharacterClasses.{is_empty, first_is, leading_run, behind_run}
use Rattle.htmd_commonmark_reading.specs.Characters.{dereferenced, in_front_of}
use Rattle.htmd_commonmark_reading.specs.Markup.{Inlines, no_inlines, link, raw, letters}
use Rattle.htmd_commonmark_reading.specs.RawTags.{raw_tag, begins_with_letter}

-- ---- code spans (6.1)

abbrev pub is_grave_accent : ℕ → Bool
is_grave_accent c = c == grave_accent

abbrev pub graves : ℕ → List ℕ
graves n = replicate n grave_accent

-- after a row of so many grave accents, and the character behind it, if that is none
abbrev pub after_graves : Bool → ℕ → ℕ → ℕ → Option (List ℕ) → Option (List ℕ)
after_graves true n k c rest = rest
after_graves false n k c rest =
    if n == k then Some [] else in_front_of (graves k) (in_front_of (c ∷ []) rest)

abbrev pub next_row : Bool → ℕ → ℕ
next_row true k = suc k
next_row false k = 0

-- What stands before the next row of exactly so many grave accents; so many stand right before the text.
abbrev pub before_graves : ℕ → ℕ → List ℕ → Option (List ℕ)
before_graves n k [] = if n == k then Some [] else None
before_graves n k (c ∷ s) =
    after_graves (is_grave_accent c) n k c (before_graves n (next_row (is_grave_accent c) k) s)

abbrev pub is_space : ℕ → Bool
is_space c = c == space

-- line endings are spaces
abbrev pub in_one_line : List ℕ → List ℕ
in_one_line [] = []
in_one_line (c ∷ s) = (if c == line_feed then space else c) ∷ in_one_line s

abbrev pub without_last : List ℕ → List ℕ
without_last s = reverse (drop 1 (reverse s))

-- a space at either end goes, unless all are spaces
abbrev pub code_text : List ℕ → List ℕ
code_text s =
    if first_is space s && first_is space (reverse s) && not (list_all is_space s)
    then without_last (drop 1 s)
    else s

-- ---- autolinks (6.5)

abbrev pub is_in_scheme : ℕ → Bool
is_in_scheme c = is_ascii_alphanumeric c || is_one_of (codes "+.-") c

-- no control, space, `<` or `>`
abbrev pub is_in_uri : ℕ → Bool
is_in_uri c = nat_lt space c && not ((c == 0x7F) || (c == less_than_sign) || (c == greater_than_sign))

abbrev pub if_closed : List ℕ → List ℕ → Option (List ℕ)
if_closed s rest = if first_is greater_than_sign rest then Some s else None

abbrev pub is_scheme : List ℕ → Bool
is_scheme s = begins_with_letter s && nat_le 2 (length s) && nat_le (length s) 32

-- after `<`: a scheme of 2 to 32 characters, a colon, and more up to `>`
abbrev pub uri : List ℕ → Option (List ℕ)
uri s =
    if is_scheme (leading_run is_in_scheme s) && first_is colon (behind_run is_in_scheme s)
    then if_closed (leading_run is_in_uri s) (behind_run is_in_uri s)
    else None

abbrev pub is_in_local_part : ℕ → Bool
is_in_local_part c = is_ascii_alphanumeric c || is_one_of (codes ".!#$%&'*+/=?^_`{|}~-") c

abbrev pub begins_alphanumeric : List ℕ → Bool
begins_alphanumeric [] = false
begins_alphanumeric (c ∷ s) = is_ascii_alphanumeric c

abbrev pub is_in_host : ℕ → Bool
is_in_host c = is_ascii_alphanumeric c || (c == hyphen) || (c == full_stop)

-- letters, digits and hyphens, at most 63, and no hyphen at an end
abbrev pub is_host_label : List ℕ → Bool
is_host_label s = begins_alphanumeric s && begins_alphanumeric (reverse s) && nat_le (length s) 63

abbrev pub is_full_stop : ℕ → Bool
is_full_stop c = c == full_stop

abbrev pub is_host : List ℕ → Bool
is_host s = list_all is_host_label (slice_split is_full_stop s)

abbrev pub email_with : List ℕ → List ℕ → List ℕ → Option (List ℕ)
email_with local host rest =
    if not (is_empty local) && is_host host then if_closed (local ++ codes "@" ++ host) rest else None

abbrev pub email_host : List ℕ → List ℕ → Option (List ℕ)
email_host local s =
    if is_at_sign s
    then email_with local (leading_run is_in_host (drop 1 s)) (behind_run is_in_host (drop 1 s))
    else None
  where
    is_at_sign : List ℕ → Bool
    is_at_sign [] = false
    is_at_sign (c ∷ t) = is_one_of (codes "@") c

-- after `<`: an e-mail address and `>`
abbrev pub email : List ℕ → Option (List ℕ)
email s = email_host (leading_run is_in_local_part s) (behind_run is_in_local_part s)

-- ---- what `<` begins

-- inlines, and how many characters of what follows `<` they take
pub record Piece : Type 0 where
  pub content : Inlines
  pub following : ℕ

abbrev pub link_to : List ℕ → List ℕ → Inlines
link_to address s = link address None (letters s no_inlines) no_inlines

abbrev pub if_tag : Option (List ℕ) → Piece
if_tag None = record { content = letters (less_than_sign ∷ []) no_inlines; following = 0 }
if_tag (Some s) = record { content = raw (less_than_sign ∷ s) no_inlines; following = length s }

abbrev pub if_email : Option (List ℕ) → Piece → Piece
if_email None other = other
if_email (Some s) other = record { content = link_to (codes "mailto:" ++ s) s; following = suc (length s) }

-- references in it stand for their characters
abbrev pub if_uri : Option (List ℕ) → Piece → Piece
if_uri None other = other
if_uri (Some s) other =
    record { content = link_to (dereferenced s) (dereferenced s); following = suc (length s) }

-- an autolink, raw HTML (6.6), or the sign itself
abbrev pub angle : List ℕ → Piece
angle s = if_uri (uri s) (if_email (email s) (if_tag (raw_tag s)))
