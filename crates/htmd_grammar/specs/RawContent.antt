-- Elements that hold only text, up to their own end tag (HTML Standard, 13.1.2, raw text and escapable raw text
-- elements), and what is in them.
use Rattle.std.specs.Prelude.{ℕ, Bool, false, ◌&&◌, ◌||◌, ◌==◌, if◌then◌else◌, List, [], ◌∷◌, Option, Some, None, codes}
use Rattle.std.specs.Char.{is_ascii_alphabetic}
use Rattle.htmd_lexical.specs.Characters.{exclamation_mark, slash, less_than_sign, question_mark}
use Rattle.htmd_lexical.specs.CharacterClasses.{begins_with, holds_in_any_case, is_among}
use Rattle.htmd_lexical.specs.LineEnds.{normalized}
use Rattle.htmd_grammar.specs.Rules.{Rules}
use Rattle.htmd_grammar.specs.References.{decode, after_line_feed}
use Rattle.htmd_lexical.specs.EndTags.{begins_own_end}

-- text without references; `noscript` if scripting is on
abbrev pub holds_raw_text : Bool → List ℕ → Bool
holds_raw_text scripting n =
    is_among (codes "script" ∷ codes "style" ∷ codes "iframe" ∷ codes "noembed" ∷ codes "noframes"
    ∷ codes "xmp" ∷ []) n
    || (scripting && is_among (codes "noscript" ∷ []) n)

-- only text, with references or without
abbrev pub holds_text_alone : Bool → List ℕ → Bool
holds_text_alone scripting n = is_among (codes "title" ∷ codes "textarea" ∷ []) n || holds_raw_text scripting n

-- `<` before a letter, `/`, `!` or `?` begins markup; any other `<` is a character
abbrev pub is_markup : ℕ → ℕ → Bool
is_markup b c = (b == less_than_sign) && (is_ascii_alphabetic c || (c == slash) || (c == exclamation_mark)
    || (c == question_mark))

abbrev pub begins_markup : List ℕ → Bool
begins_markup [] = false
begins_markup (b ∷ []) = false
begins_markup (b ∷ c ∷ s) = is_markup b c

-- what ends a text in an element with this name
abbrev pub ends_text : Bool → List ℕ → List ℕ → Bool
ends_text scripting n s = if holds_text_alone scripting n then begins_own_end n s else begins_markup s

-- `<!--`, and later `<script` in any case
abbrev pub has_script_escape : List ℕ → Bool
has_script_escape [] = false
has_script_escape (b ∷ s) =
    (begins_with (codes "<!--") (b ∷ s) && holds_in_any_case (codes "<script") s) || has_script_escape s

-- what text without references denotes; a script has no such escape
abbrev pub raw_text_of : List ℕ → List ℕ → Option (List ℕ)
raw_text_of n s = if is_among (codes "script" ∷ []) n && has_script_escape s then None else Some (normalized s)

-- what a text in an element with this name denotes
abbrev pub text_of : Rules → List ℕ → List ℕ → Option (List ℕ)
text_of rules n s = if holds_raw_text rules.scripting n then raw_text_of n s else decode rules.names 0 s

-- what drops a line feed at the beginning of its content
abbrev pub drops_line_feed : List ℕ → Bool
drops_line_feed n = is_among (codes "pre" ∷ codes "textarea" ∷ []) n

-- the content of an element with this name, without that line feed
abbrev pub content_of : List ℕ → List ℕ → List ℕ
content_of n s = if drops_line_feed n then after_line_feed [] s else s
