-- A text in one line: a backslash, a line feed, a carriage return, a tab and U+0000 are a backslash and a letter.
use Rattle.std.specs.Prelude.{ℕ, ◌==◌, if◌then◌else◌, List, codes}
use Rattle.std.specs.Char.{encode_utf8}
use Rattle.std.specs.List.{flat_map}
use Rattle.std.specs.Str.{chars}
use Rattle.htmd.specs.Characters.{null, tab, line_feed, carriage_return, backslash}

-- one character
abbrev pub encoded_char : ℕ → List ℕ
encoded_char c =
    if c == backslash then codes "\\\\"
    else (if c == line_feed then codes "\\n"
    else (if c == carriage_return then codes "\\r"
    else (if c == tab then codes "\\t"
    else (if c == null then codes "\\0" else encode_utf8 c))))

-- a text
abbrev pub encoded_text : List ℕ → List ℕ
encoded_text s = flat_map encoded_char (chars s)
