-- Raw HTML (CommonMark 0.31.2, 6.6): tags, comments, instructions, declarations and CDATA sections. Each is given as
-- what follows its `<`.
use Rattle.std.specs.Prelude.{ℕ, Bool, false, not, ◌&&◌, ◌||◌, ◌==◌, if◌then◌else◌}
use Rattle.std.specs.Prelude.{List, [], ◌∷◌, ◌++◌, drop, codes, Option, Some, None}
use Rattle.std.specs.Option.{option_or}
use Rattle.std.specs.Char.{is_ascii_alphabetic, is_ascii_alphanumeric}
use Rattle.htmd_lexical.specs.Characters.{quotation_mark, apostrophe, hyphen, slash, colon, equals_sign}
use Rattle.htmd_lexical.specs.Characters.{greater_than_sign, question_mark, underscore, is_one_of}
use Rattle.htmd_lexical.specs.CharacterClasses.{first_is, begins_with, leading_run, behind_run}
use Rattle.htmd_commonmark_reading.specs.Characters.{is_white, one_more, in_front_of}

-- ---- classes

abbrev pub is_in_tag_name : ℕ → Bool
is_in_tag_name c = is_ascii_alphanumeric c || (c == hyphen)

abbrev pub begins_attribute_name : ℕ → Bool
begins_attribute_name c = is_ascii_alphabetic c || (c == underscore) || (c == colon)

abbrev pub is_in_attribute_name : ℕ → Bool
is_in_attribute_name c = is_ascii_alphanumeric c || is_one_of (codes "_.:-") c

abbrev pub is_unquoted : ℕ → Bool
is_unquoted c = not (is_white c || is_one_of (codes "\"'=<>`") c)

abbrev pub begins_with_letter : List ℕ → Bool
begins_with_letter [] = false
begins_with_letter (c ∷ s) = is_ascii_alphabetic c

-- ---- open tags

-- where in an open tag a place is
pub data Place : Type 0 where
  in_tag_name : Place
  after_space : Place
  in_attribute_name : Place
  after_attribute_name : Place
  before_value : Place
  in_unquoted_value : Place
  in_quotes : (quote : ℕ) → Place
  after_quotes : Place
  after_slash : Place
  at_end : Place
  refused : Place

abbrev pub at_tag_end : ℕ → Place
at_tag_end c = if c == greater_than_sign then at_end else if c == slash then after_slash else refused

abbrev pub at_attribute_or_end : ℕ → Place
at_attribute_or_end c = if begins_attribute_name c then in_attribute_name else at_tag_end c

abbrev pub at_value : ℕ → Place
at_value c =
    if is_white c
    then before_value
    else if (c == quotation_mark) || (c == apostrophe)
    then in_quotes c
    else if is_unquoted c then in_unquoted_value else refused

-- the place after a character
abbrev pub place_after : ℕ → Place → Place
place_after c in_tag_name =
    if is_in_tag_name c then in_tag_name else if is_white c then after_space else at_tag_end c
place_after c after_space = if is_white c then after_space else at_attribute_or_end c
place_after c in_attribute_name =
    if is_in_attribute_name c
    then in_attribute_name
    else if is_white c then after_attribute_name else if c == equals_sign then before_value else at_tag_end c
place_after c after_attribute_name =
    if is_white c then after_attribute_name else if c == equals_sign then before_value else at_attribute_or_end c
place_after c before_value = at_value c
place_after c in_unquoted_value =
    if is_unquoted c
    then in_unquoted_value
    else if is_white c then after_space else if c == greater_than_sign then at_end else refused
place_after c (in_quotes quote) = if c == quote then after_quotes else in_quotes quote
place_after c after_quotes = if is_white c then after_space else at_tag_end c
place_after c after_slash = if c == greater_than_sign then at_end else refused
place_after c at_end = refused
place_after c refused = refused

-- the text so far, if a tag can end or go on so
abbrev pub with_place : Place → ℕ → Option (List ℕ) → Option (List ℕ)
with_place at_end c rest = Some (c ∷ [])
with_place refused c rest = None
with_place _ c rest = one_more c rest

-- the rest of an open tag up to its `>`
abbrev pub tag_rest : Place → List ℕ → Option (List ℕ)
tag_rest p [] = None
tag_rest p (c ∷ s) = with_place (place_after c p) c (tag_rest (place_after c p) s)

abbrev pub open_tag : List ℕ → Option (List ℕ)
open_tag s = if begins_with_letter s then tag_rest in_tag_name s else None

-- ---- the others

-- the text through the first of these signs
abbrev pub through : List ℕ → List ℕ → Option (List ℕ)
through signs [] = None
through signs (c ∷ s) = if begins_with signs (c ∷ s) then Some signs else one_more c (through signs s)

abbrev pub closing_tag_end : List ℕ → List ℕ → Option (List ℕ)
closing_tag_end name rest =
    if first_is greater_than_sign (behind_run is_white rest)
    then Some (name ++ leading_run is_white rest ++ (greater_than_sign ∷ []))
    else None

abbrev pub closing_tag : List ℕ → Option (List ℕ)
closing_tag s =
    if first_is slash s && begins_with_letter (drop 1 s)
    then in_front_of (slash ∷ [])
    (closing_tag_end (leading_run is_in_tag_name (drop 1 s)) (behind_run is_in_tag_name (drop 1 s)))
    else None

abbrev pub comment : List ℕ → Option (List ℕ)
comment s =
    if begins_with (codes "!-->") s
    then Some (codes "!-->")
    else if begins_with (codes "!--->") s
    then Some (codes "!--->")
    else if begins_with (codes "!--") s then in_front_of (codes "!--") (through (codes "-->") (drop 3 s)) else None

abbrev pub instruction : List ℕ → Option (List ℕ)
instruction s =
    if first_is question_mark s then in_front_of (question_mark ∷ []) (through (codes "?>") (drop 1 s)) else None

abbrev pub declaration : List ℕ → Option (List ℕ)
declaration s =
    if begins_with (codes "!") s && begins_with_letter (drop 1 s) then through (codes ">") s else None

abbrev pub cdata_section : List ℕ → Option (List ℕ)
cdata_section s =
    if begins_with (codes "![CDATA[") s then in_front_of (codes "![CDATA[") (through (codes "]]>") (drop 8 s)) else None

-- what a `<` begins, without that
abbrev pub raw_tag : List ℕ → Option (List ℕ)
raw_tag s =
    option_or (open_tag s) (option_or (closing_tag s) (option_or (comment s) (option_or (instruction s)
    (option_or (declaration s) (cdata_section s)))))
