-- Characters (CommonMark 0.31.2, 2.1), backslash escapes (2.4) and character references (2.5). A text is the list of
-- its UTF-8 bytes.
use Rattle.std.specs.Prelude.{ℕ, zero, suc, ◌+◌, Bool, true, false, not, ◌&&◌, ◌||◌, ◌==◌, nat_lt, nat_le}
use Rattle.std.specs.Prelude.{if◌then◌else◌, List, [], ◌∷◌, ◌++◌, length, drop, reverse, slice_get, codes}
use Rattle.std.specs.Prelude.{Option, Some, None}
use Rattle.std.specs.Str.{chars}
use Rattle.std.specs.Char.{encode_utf8, is_ascii_alphanumeric, is_ascii_digit, is_ascii_hexdigit, is_ascii_punctuation}
use Rattle.std.specs.Char.{is_ascii_whitespace}
use Rattle.unicode.specs.declared.properties.GeneralCategory.{GeneralCategory}
use Rattle.unicode.specs.declared.properties.GeneralCategory.TheVariants.{SpaceSeparator}
use Rattle.unicode.specs.declared.properties.GeneralCategoryGroup.TheVariants.{Punctuation, Symbol}
use Rattle.unicode.specs.GeneralCategory.{general_category}
use Rattle.unicode.specs.GeneralCategoryGroup.{in_group}
use Rattle.htmd_lexical.specs.Characters.{tab, line_feed, space, number_sign, ampersand, semicolon, backslash}
use Rattle.htmd_lexical.specs.Characters.{is_one_of}
use Rattle.htmd_lexical.specs.CharacterClasses.{is_empty, first_is, leading_run, behind_run}
use Rattle.htmd_lexical.specs.Numbers.{number, is_between}
use Rattle.htmd_html5_tokens.specs.NamedReferences.{named}

-- ---- classes (2.1)

abbrev pub is_space_or_tab : ℕ → Bool
is_space_or_tab c = (c == space) || (c == tab)

-- in a text without blank lines: spaces, tabs and line endings
abbrev pub is_white : ℕ → Bool
is_white c = is_space_or_tab c || (c == line_feed)

abbrev pub is_space_separator : GeneralCategory → Bool
is_space_separator SpaceSeparator = true
is_space_separator _ = false

-- Unicode whitespace: the category Zs, tab, line feed, form feed and carriage return
abbrev pub is_unicode_white : ℕ → Bool
is_unicode_white c =
    if nat_lt c 128 then is_ascii_whitespace c else is_space_separator (general_category c)

-- Unicode punctuation: the categories P and S, which of ASCII are the ASCII punctuation characters
abbrev pub is_unicode_punctuation : ℕ → Bool
is_unicode_punctuation c =
    if nat_lt c 128
    then is_ascii_punctuation c
    else in_group Punctuation (general_category c) || in_group Symbol (general_category c)

-- ---- ends of texts

-- the text without spaces and tabs at its beginning, and at both ends
abbrev pub past_blanks : List ℕ → List ℕ
past_blanks s = behind_run is_space_or_tab s

abbrev pub stripped_end : (ℕ → Bool) → List ℕ → List ℕ
stripped_end p s = reverse (behind_run p (reverse s))

abbrev pub stripped : List ℕ → List ℕ
stripped s = stripped_end is_space_or_tab (past_blanks s)

-- in UTF-8 a byte that goes on with a character
abbrev pub goes_on : ℕ → Bool
goes_on b = is_between 0x80 0xBF b

-- the character that a text begins with
abbrev pub first_character : List ℕ → Option ℕ
first_character [] = None
first_character (b ∷ s) = slice_get (chars (b ∷ leading_run goes_on s)) 0

-- the bytes of the last character; the text is given from its end to its beginning
abbrev pub last_bytes : List ℕ → List ℕ
last_bytes [] = []
last_bytes (b ∷ s) = if goes_on b then b ∷ last_bytes s else b ∷ []

-- the character that a text ends with; the text is given from its end to its beginning
abbrev pub last_character : List ℕ → Option ℕ
last_character before = first_character (reverse (last_bytes before))

-- ---- parts of a text

-- a beginning of a text, and what follows it
pub record Front : Type 0 where
  pub front : List ℕ
  pub rest : List ℕ

abbrev pub one_more : ℕ → Option (List ℕ) → Option (List ℕ)
one_more c None = None
one_more c (Some s) = Some (c ∷ s)

abbrev pub in_front_of : List ℕ → Option (List ℕ) → Option (List ℕ)
in_front_of s None = None
in_front_of s (Some t) = Some (s ++ t)

abbrev pub before_in_front : ℕ → Option Front → Option Front
before_in_front c None = None
before_in_front c (Some f) = Some (record { front = c ∷ f.front; rest = f.rest })

-- ---- backslash escapes (2.4) and character references (2.5)

-- what begins at a place: what it stands for, and how many of the bytes that follow belong to it
pub record Piece : Type 0 where
  pub meaning : List ℕ
  pub following : ℕ

abbrev pub itself : ℕ → Piece
itself c = record { meaning = c ∷ []; following = 0 }

abbrev pub replacement_character : ℕ
replacement_character = 0xFFFD

-- the character of a number: U+FFFD for 0, for a surrogate, and for what is above U+10FFFF
abbrev pub character_numbered : ℕ → ℕ
character_numbered n =
    if (n == 0) || nat_lt 0x10_FFFF n || is_between 0xD800 0xDFFF n then replacement_character else n

-- a reference by number: this many bytes, digits, at most so many of them, and `;`
abbrev pub numbered : ℕ → ℕ → ℕ → List ℕ → List ℕ → Option Piece
numbered base before most digits rest =
    if first_is semicolon rest && not (is_empty digits) && nat_le (length digits) most
    then Some (record {
      meaning = encode_utf8 (character_numbered (number base 0 digits));
      following = before + length digits + 1;
    })
    else None

-- after `&#`: one to seven decimal digits, or `x` or `X` and one to six hexadecimal digits
abbrev pub number_reference : List ℕ → Option Piece
number_reference [] = None
number_reference (c ∷ s) =
    if is_one_of (codes "xX") c
    then numbered 16 2 6 (leading_run is_ascii_hexdigit s) (behind_run is_ascii_hexdigit s)
    else numbered 10 1 7 (leading_run is_ascii_digit (c ∷ s)) (behind_run is_ascii_digit (c ∷ s))

abbrev pub name_meaning : ℕ → Option (List ℕ) → Option Piece
name_meaning n None = None
name_meaning n (Some characters) = Some (record { meaning = characters; following = suc n })

-- after `&`: one of HTML's names and `;`
abbrev pub name_reference : List ℕ → Option Piece
name_reference s =
    if first_is semicolon (behind_run is_ascii_alphanumeric s)
    then name_meaning (length (leading_run is_ascii_alphanumeric s)) (named (leading_run is_ascii_alphanumeric s))
    else None

-- after `&`
abbrev pub reference : List ℕ → Option Piece
reference s = if first_is number_sign s then number_reference (drop 1 s) else name_reference s

abbrev pub begins_with_punctuation : List ℕ → Bool
begins_with_punctuation [] = false
begins_with_punctuation (c ∷ s) = is_ascii_punctuation c

-- after a backslash: ASCII punctuation is escaped by it
abbrev pub escape : List ℕ → Piece
escape [] = itself backslash
escape (c ∷ s) = if is_ascii_punctuation c then record { meaning = c ∷ []; following = 1 } else itself backslash

abbrev pub piece_or : Option Piece → Piece → Piece
piece_or None other = other
piece_or (Some p) other = p

-- a character, or the reference that it begins
abbrev pub referenced : ℕ → List ℕ → Piece
referenced c s = if c == ampersand then piece_or (reference s) (itself c) else itself c

-- a character, or the escape or reference that it begins
abbrev pub escaped : ℕ → List ℕ → Piece
escaped c s = if c == backslash then escape s else referenced c s

-- a text with all that begins in it resolved; so many bytes of it have been
abbrev pub resolved : (ℕ → List ℕ → Piece) → ℕ → List ℕ → List ℕ
resolved piece n [] = []
resolved piece (suc n) (c ∷ s) = resolved piece n s
resolved piece zero (c ∷ s) = (piece c s).meaning ++ resolved piece (piece c s).following s

-- an address, title or info string with its escapes and references resolved
abbrev pub unescaped : List ℕ → List ℕ
unescaped s = resolved escaped 0 s

-- a text with its references resolved
abbrev pub dereferenced : List ℕ → List ℕ
dereferenced s = resolved referenced 0 s
