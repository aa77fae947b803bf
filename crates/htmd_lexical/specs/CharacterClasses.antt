-- Classes of characters, and how a text begins. A text is the list of its UTF-8 bytes; each character that the
-- grammar names is ASCII, and so one byte.
use Rattle.std.specs.Prelude.{ℕ, Bool, true, false, not, ◌&&◌, ◌||◌, ◌==◌, nat_lt, if◌then◌else◌, List, [], ◌∷◌}
use Rattle.std.specs.List.{list_any, list_all}
use Rattle.std.specs.Str.{bytes_eq}
use Rattle.std.specs.Char.{to_ascii_lowercase, is_ascii_alphabetic, is_ascii_alphanumeric, is_ascii_control}
use Rattle.htmd_lexical.specs.Characters.{quotation_mark, apostrophe, hyphen, full_stop, slash, colon, less_than_sign}
use Rattle.htmd_lexical.specs.Characters.{equals_sign, greater_than_sign, underscore, grave_accent}
use Rattle.htmd_lexical.specs.WhiteSpace.{is_ascii_white_space}

-- ---- how a text begins

abbrev pub is_empty : List ℕ → Bool
is_empty [] = true
is_empty (b ∷ s) = false

-- the text begins with this character
abbrev pub first_is : ℕ → List ℕ → Bool
first_is b [] = false
first_is b (c ∷ s) = c == b

-- the text begins with these characters
abbrev pub begins_with : List ℕ → List ℕ → Bool
begins_with [] s = true
begins_with (p ∷ ps) [] = false
begins_with (p ∷ ps) (b ∷ s) = (b == p) && begins_with ps s

-- the same in any ASCII case; the characters are given in lower case
abbrev pub begins_in_any_case : List ℕ → List ℕ → Bool
begins_in_any_case [] s = true
begins_in_any_case (p ∷ ps) [] = false
begins_in_any_case (p ∷ ps) (b ∷ s) = (to_ascii_lowercase b == p) && begins_in_any_case ps s

-- the longest beginning of characters that pass a test, and what follows it
abbrev pub leading_run : (ℕ → Bool) → List ℕ → List ℕ
leading_run p [] = []
leading_run p (b ∷ s) = if p b then b ∷ leading_run p s else []

abbrev pub behind_run : (ℕ → Bool) → List ℕ → List ℕ
behind_run p [] = []
behind_run p (b ∷ s) = if p b then behind_run p s else b ∷ s

-- the beginning up to the first place where the test holds for the rest, and that rest
abbrev pub up_to : (List ℕ → Bool) → List ℕ → List ℕ
up_to stop [] = []
up_to stop (b ∷ s) = if stop (b ∷ s) then [] else b ∷ up_to stop s

abbrev pub onward : (List ℕ → Bool) → List ℕ → List ℕ
onward stop [] = []
onward stop (b ∷ s) = if stop (b ∷ s) then b ∷ s else onward stop s

-- at some place the text goes on with these characters
abbrev pub holds : List ℕ → List ℕ → Bool
holds p [] = false
holds p (b ∷ s) = begins_with p (b ∷ s) || holds p s

-- the same in any ASCII case
abbrev pub holds_in_any_case : List ℕ → List ℕ → Bool
holds_in_any_case p [] = false
holds_in_any_case p (b ∷ s) = begins_in_any_case p (b ∷ s) || holds_in_any_case p s

-- no character of the text is this one
abbrev pub lacks : ℕ → List ℕ → Bool
lacks b s = list_all (λ c. not (c == b)) s

-- ---- classes

-- after the first letter of a tag name: letters, digits, `-`, `_`, `.`, `:`
abbrev pub is_tag_name_byte : ℕ → Bool
is_tag_name_byte b = is_ascii_alphanumeric b || (b == hyphen) || (b == underscore) || (b == full_stop) || (b == colon)

-- a tag name: an ASCII letter, and then such characters
abbrev pub is_tag_name : List ℕ → Bool
is_tag_name [] = false
is_tag_name (b ∷ s) = is_ascii_alphabetic b && list_all is_tag_name_byte s

-- in an attribute name: no ASCII white space or control, and none of `"`, `'`, `<`, `/`, `>`, `=`
abbrev pub is_attribute_name_byte : ℕ → Bool
is_attribute_name_byte b =
    not (is_ascii_white_space b || is_ascii_control b || (b == quotation_mark) || (b == apostrophe)
    || (b == less_than_sign)
    || (b == slash) || (b == greater_than_sign) || (b == equals_sign))

-- the text has one of the controls U+0080 to U+009F, which are two bytes in UTF-8
abbrev pub holds_control : List ℕ → Bool
holds_control [] = false
holds_control (b ∷ []) = false
holds_control (b ∷ c ∷ s) = ((b == 0xC2) && nat_lt c 0xA0) || holds_control (c ∷ s)

-- an attribute name: not empty
abbrev pub is_attribute_name : List ℕ → Bool
is_attribute_name s = not (is_empty s) && list_all is_attribute_name_byte s && not (holds_control s)

-- in an unquoted attribute value: no ASCII white space, and none of `"`, `'`, `<`, `>` and the grave accent
abbrev pub is_unquoted_byte : ℕ → Bool
is_unquoted_byte b =
    not (is_ascii_white_space b || (b == quotation_mark) || (b == apostrophe) || (b == less_than_sign)
    || (b == greater_than_sign) || (b == grave_accent))

-- ---- lists of names

-- the name is one of these
abbrev pub is_among : List (List ℕ) → List ℕ → Bool
is_among names n = list_any (bytes_eq n) names

-- no name is there twice
abbrev pub are_distinct : List (List ℕ) → Bool
are_distinct [] = true
are_distinct (n ∷ ns) = not (is_among ns n) && are_distinct ns
