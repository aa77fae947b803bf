-- The places of a text that get a backslash, so that Markdown reads the text as it stands.
use Rattle.std.specs.Prelude.{ℕ, suc, ◌+◌, Bool, false, not, ◌&&◌, ◌||◌, ◌==◌, nat_eq, if◌then◌else◌, List, [], ◌∷◌}
use Rattle.std.specs.Prelude.{drop, slice_index, codes, Option, Some, None}
use Rattle.std.specs.List.{starts_with}
use Rattle.std.specs.Char.{is_ascii_alphabetic, is_ascii_digit}
use Rattle.htmd_lexical.specs.Characters.{space, exclamation_mark, slash, less_than_sign, question_mark, backslash}
use Rattle.htmd_lexical.specs.Characters.{is_one_of}
use Rattle.htmd_text.specs.ListMarkers.{is_atx_heading, ordered_item_dot}

-- a text with a backslash before each place that is escaped; its first byte is at place k
abbrev pub with_backslashes : (ℕ → Bool) → ℕ → List ℕ → List ℕ
with_backslashes marked k [] = []
with_backslashes marked k (b ∷ s) =
    if marked k
    then backslash ∷ b ∷ with_backslashes marked (suc k) s
    else b ∷ with_backslashes marked (suc k) s

-- After a `<`: an ASCII letter opens a tag, `/` and a letter an end tag, `?` a processing
-- instruction, `!` a declaration or a comment (CommonMark 0.31.2, 4.6 and 6.6). A `!` before
-- `[CDATA[` needs no backslash: its brackets are escaped.
abbrev pub opens_html : List ℕ → Bool
opens_html [] = false
opens_html (c ∷ s) =
    is_ascii_alphabetic c
    || (c == question_mark)
    || ((c == slash) && is_ascii_alphabetic (slice_index s 0))
    || ((c == exclamation_mark) && not (starts_with nat_eq s (codes "[CDATA[")))

-- the place of a `<` that opens HTML
abbrev pub is_html_opener : List ℕ → ℕ → Bool
is_html_opener s k = (slice_index s k == less_than_sign) && opens_html (drop (k + 1) s)

-- what follows the `<` of a CDATA section whose brackets are escaped
abbrev pub escaped_cdata : List ℕ
escaped_cdata = codes "!\\[CDATA\\["

-- the same, if brackets may have been escaped before
abbrev pub is_html_opener_alone : List ℕ → ℕ → Bool
is_html_opener_alone s k = is_html_opener s k && not (starts_with nat_eq (drop (k + 1) s) escaped_cdata)

-- The first character begins a block or underlines a heading (CommonMark 0.31.2, 4.2, 4.3, 4.5,
-- 5.1 and 5.2): `=`, `~` and `>` always, `-` and `+` before a space, `#` of an ATX heading.
abbrev pub begins_block : List ℕ → Bool
begins_block [] = false
begins_block (b ∷ s) =
    is_one_of (codes "=~>") b
    || (is_one_of (codes "-+") b && (slice_index s 0 == space))
    || is_atx_heading (b ∷ s)

-- the dot of an ordered list item whose number begins with an ASCII digit
abbrev pub numbered_item_dot : List ℕ → Option ℕ
numbered_item_dot s = if is_ascii_digit (slice_index s 0) then ordered_item_dot s else None

-- the option is this place
abbrev pub is_place : Option ℕ → ℕ → Bool
is_place None k = false
is_place (Some place) k = k == place

-- characters that Markdown reads anywhere in a line (CommonMark 0.31.2, 2.4, 6.1 to 6.4)
abbrev pub is_always_escaped : ℕ → Bool
is_always_escaped b = is_one_of (codes "\\*_`[]") b

-- the places of a text that get a backslash
abbrev pub is_escaped : List ℕ → ℕ → Bool
is_escaped s k =
    is_always_escaped (slice_index s k)
    || is_html_opener s k
    || ((k == 0) && begins_block s)
    || is_place (numbered_item_dot s) k

-- the text as Markdown that is read as the text
abbrev pub escaped_markdown : List ℕ → List ℕ
escaped_markdown s = with_backslashes (is_escaped s) 0 s

-- the text in which no `<` opens HTML
abbrev pub escaped_angle_brackets : List ℕ → List ℕ
escaped_angle_brackets s = with_backslashes (is_html_opener_alone s) 0 s

-- the text of a `pre` in which nothing opens a fence (CommonMark 0.31.2, 4.5)
abbrev pub escaped_pre_text : List ℕ → List ℕ
escaped_pre_text s = if is_one_of (codes "`~") (slice_index s 0) then backslash ∷ s else s
