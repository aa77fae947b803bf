-- Elements that hold only text, up to their own end tag (HTML Standard, 13.2.5.2 to 13.2.5.5 and 13.2.5.9 to
-- 13.2.5.31).
use Rattle.std.specs.Prelude.{ℕ, suc, Bool, false, ◌&&◌, ◌==◌, if◌then◌else◌, List, [], ◌∷◌, length, codes}
use Rattle.htmd_lexical.specs.Characters.{less_than_sign}
use Rattle.htmd_lexical.specs.CharacterClasses.{begins_with, up_to}
use Rattle.htmd_lexical.specs.EndTags.{goes_on_with_name, begins_own_end}
use Rattle.htmd_html5_tokens.specs.declared.contents.Reading.{Reading}
use Rattle.htmd_html5_tokens.specs.declared.contents.Reading.TheVariants.{EscapableRawText, RawText}
use Rattle.htmd_html5_tokens.specs.declared.raw_texts.Escape.{Escape}
use Rattle.htmd_html5_tokens.specs.declared.raw_texts.Escape.TheVariants.{Unescaped, Escaped, DoublyEscaped}
use Rattle.htmd_lexical.specs.declared.content_model.RawElement.{RawElement}
use Rattle.htmd_lexical.specs.declared.content_model.RawElement.TheVariants.{Title, Textarea, Style, Xmp, Iframe}
use Rattle.htmd_lexical.specs.declared.content_model.RawElement.TheVariants.{Noembed, Noframes, Noscript, Script}
use Rattle.htmd_lexical.specs.declared.content_model.RawElement.TheVariants.{Plaintext}

abbrev pub name_of_element : RawElement → List ℕ
name_of_element Title = codes "title"
name_of_element Textarea = codes "textarea"
name_of_element Style = codes "style"
name_of_element Xmp = codes "xmp"
name_of_element Iframe = codes "iframe"
name_of_element Noembed = codes "noembed"
name_of_element Noframes = codes "noframes"
name_of_element Noscript = codes "noscript"
name_of_element Script = codes "script"
name_of_element Plaintext = codes "plaintext"

-- `title` and `textarea` have references
abbrev pub reading_of : RawElement → Reading
reading_of Title = EscapableRawText
reading_of Textarea = EscapableRawText
reading_of _ = RawText

-- ---- scripts: `<!--` escapes a script, `-->` ends that; in an escaped one `<script` escapes it doubly, and `</script`
-- ends that

abbrev pub with_comment : Escape → Escape
with_comment Unescaped = Escaped
with_comment Escaped = Escaped
with_comment DoublyEscaped = DoublyEscaped

abbrev pub with_start : Escape → Escape
with_start Unescaped = Unescaped
with_start Escaped = DoublyEscaped
with_start DoublyEscaped = DoublyEscaped

abbrev pub with_end : Escape → Escape
with_end Unescaped = Unescaped
with_end Escaped = Escaped
with_end DoublyEscaped = Escaped

-- `<script`, and what ends the name of a tag
abbrev pub begins_script : List ℕ → Bool
begins_script [] = false
begins_script (b ∷ s) = b == less_than_sign && goes_on_with_name (codes "script") s

-- `</script`, and what ends the name of a tag
abbrev pub begins_script_end : List ℕ → Bool
begins_script_end s = begins_own_end (codes "script") s

-- how a script is escaped after the character with which this begins
abbrev pub escape_after : Escape → List ℕ → Escape
escape_after before s =
    if begins_with (codes "<!--") s then with_comment before
    else if begins_with (codes "-->") s then Unescaped
    else if begins_script_end s then with_end before
    else if begins_script s then with_start before
    else before

-- unless it is doubly escaped, its end tag ends a script
abbrev pub ends_script : Escape → List ℕ → Bool
ends_script Unescaped s = begins_script_end s
ends_script Escaped s = begins_script_end s
ends_script DoublyEscaped s = false

-- how many bytes of a script are left
abbrev pub script_len : Escape → List ℕ → ℕ
script_len before [] = 0
script_len before (b ∷ s) =
    if ends_script before (b ∷ s) then 0 else suc (script_len (escape_after before (b ∷ s)) s)

-- ---- how many bytes the element's text has

abbrev pub own_text_len : List ℕ → List ℕ → ℕ
own_text_len name s = length (up_to (begins_own_end name) s)

abbrev pub raw_text_len : RawElement → List ℕ → ℕ
raw_text_len Plaintext s = length s
raw_text_len Script s = script_len Unescaped s
raw_text_len element s = own_text_len (name_of_element element) s
