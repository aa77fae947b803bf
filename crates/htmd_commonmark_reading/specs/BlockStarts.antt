-- The starts of blocks (CommonMark 0.31.2, 4.1, 4.2, 4.5, 4.6, 5.1 and 5.2).
use Rattle.std.specs.Prelude.{ℕ, zero, suc, ◌+◌, Bool, true, false, not, ◌&&◌, ◌||◌, ◌==◌, nat_le, if◌then◌else◌}
use Rattle.std.specs.Prelude.{List, [], ◌∷◌, length, drop, reverse, codes, Option, Some, None}
use Rattle.std.specs.List.{list_all, list_any}
use Rattle.std.specs.Char.{is_ascii_digit, is_ascii_alphanumeric}
use Rattle.std.specs.Str.{str_to_ascii_lowercase}
use Rattle.htmd_lexical.specs.Characters.{number_sign, asterisk, plus_sign, hyphen, slash, less_than_sign}
use Rattle.htmd_lexical.specs.Characters.{greater_than_sign, underscore, grave_accent, tilde, is_one_of}
use Rattle.htmd_lexical.specs.CharacterClasses.{first_is, begins_with, holds_in_any_case, leading_run, behind_run}
use Rattle.htmd_lexical.specs.CharacterClasses.{lacks, is_among}
use Rattle.htmd_lexical.specs.Numbers.{number}
use Rattle.htmd_commonmark_reading.specs.Characters.{is_space_or_tab, past_blanks, stripped}
use Rattle.htmd_commonmark_reading.specs.Lines.{Line, is_blank, is_blank_text, indent, cut, after_marker, marks}
use Rattle.htmd_commonmark_reading.specs.Boxes.{ClosedBlock, headed, rule, html, no_closed_blocks, closed_block}
use Rattle.htmd_commonmark_reading.specs.Boxes.{Container, quoting, listing, paragraph, indented, fenced, raw}
use Rattle.htmd_commonmark_reading.specs.Boxes.{ClosedBlocks, Open, nothing, leaf, within, Box, box, joined}
use Rattle.htmd_commonmark_reading.specs.RawTags.{begins_with_letter, open_tag, closing_tag, is_in_tag_name}

-- What a line stands under: nothing that it could go on with, a paragraph, or a paragraph in a container that the line
-- doesn't go on (a lazy continuation line, unless it begins a block).
pub data After : Type 0 where
  alone : After
  under : After
  lazy : After

abbrev pub is_alone : After → Bool
is_alone alone = true
is_alone under = false
is_alone lazy = false

abbrev pub is_under : After → Bool
is_under alone = false
is_under under = true
is_under lazy = false

-- what a line starts: nothing, a block that it is the whole of, or one that stays open
pub data Start : Type 0 where
  no_start : Start
  whole : (p : ClosedBlock) → Start
  first_line : (o : Open) → Start

-- ---- ATX headings (4.2)

abbrev pub is_number_sign : ℕ → Bool
is_number_sign c = c == number_sign

abbrev pub is_empty_or_blank : List ℕ → Bool
is_empty_or_blank [] = true
is_empty_or_blank (c ∷ s) = is_space_or_tab c

-- the closing sequence goes, if it is all, or white space stands before it; the text is given from its end
abbrev pub without_closing : List ℕ → List ℕ
without_closing backwards =
    if is_empty_or_blank (behind_run is_number_sign backwards)
    then past_blanks (behind_run is_number_sign backwards)
    else backwards

abbrev pub heading_text : List ℕ → List ℕ
heading_text s = reverse (without_closing (reverse (stripped s)))

abbrev pub heading_with : ℕ → List ℕ → Start
heading_with level rest =
    if nat_le level 6 && is_empty_or_blank rest then whole (headed level (heading_text rest)) else no_start

-- one to six `#`, and white space or the end of the line
abbrev pub heading_start : List ℕ → Start
heading_start s = heading_with (length (leading_run is_number_sign s)) (behind_run is_number_sign s)

-- ---- fences (4.5)

abbrev pub is_same : ℕ → ℕ → Bool
is_same c d = d == c

abbrev pub fence_with : ℕ → ℕ → ℕ → List ℕ → Start
fence_with columns sign count info =
    if nat_le 3 count && ((sign == tilde) || lacks grave_accent info)
    then first_line (leaf (fenced columns sign count (stripped info) []))
    else no_start

-- three or more of one sign; the info string after grave accents has none
abbrev pub fence_start : ℕ → ℕ → List ℕ → Start
fence_start columns sign s =
    fence_with columns sign (length (leading_run (is_same sign) s)) (behind_run (is_same sign) s)

-- a closing fence: at least as many of the sign, and nothing else
abbrev pub closes_fence : ℕ → ℕ → Line → Bool
closes_fence sign count l =
    nat_le (indent l) 3 && nat_le count (length (stripped l.text)) && list_all (is_same sign) (stripped l.text)

-- ---- HTML blocks (4.6)

-- names of elements that begin a block of the sixth kind
abbrev pub block_names : List (List ℕ)
block_names =
    codes "address" ∷ codes "article" ∷ codes "aside" ∷ codes "base" ∷ codes "basefont" ∷ codes "blockquote"
    ∷ codes "body" ∷ codes "caption" ∷ codes "center" ∷ codes "col" ∷ codes "colgroup" ∷ codes "dd"
    ∷ codes "details" ∷ codes "dialog" ∷ codes "dir" ∷ codes "div" ∷ codes "dl" ∷ codes "dt"
    ∷ codes "fieldset"
    ∷ codes "figcaption" ∷ codes "figure" ∷ codes "footer" ∷ codes "form" ∷ codes "frame" ∷ codes "frameset"
    ∷ codes "h1" ∷ codes "h2" ∷ codes "h3" ∷ codes "h4" ∷ codes "h5" ∷ codes "h6" ∷ codes "head"
    ∷ codes "header"
    ∷ codes "hr" ∷ codes "html" ∷ codes "iframe" ∷ codes "legend" ∷ codes "li" ∷ codes "link"
    ∷ codes "main"
    ∷ codes "menu" ∷ codes "menuitem" ∷ codes "nav" ∷ codes "noframes" ∷ codes "ol" ∷ codes "optgroup"
    ∷ codes "option" ∷ codes "p" ∷ codes "param" ∷ codes "search" ∷ codes "section" ∷ codes "summary"
    ∷ codes "table" ∷ codes "tbody" ∷ codes "td" ∷ codes "tfoot" ∷ codes "th" ∷ codes "thead"
    ∷ codes "title"
    ∷ codes "tr" ∷ codes "track" ∷ codes "ul" ∷ []

-- names of elements whose content is text, and which begin a block of the first kind
abbrev pub text_names : List (List ℕ)
text_names = codes "pre" ∷ codes "script" ∷ codes "style" ∷ codes "textarea" ∷ []

abbrev pub text_ends : List (List ℕ)
text_ends = codes "</pre>" ∷ codes "</script>" ∷ codes "</style>" ∷ codes "</textarea>" ∷ []

-- after `<`: the name of a tag in lower case, as far as letters and digits go, and what follows it
abbrev pub block_name : List ℕ → List ℕ
block_name s = str_to_ascii_lowercase (leading_run is_ascii_alphanumeric s)

abbrev pub block_name_rest : List ℕ → List ℕ
block_name_rest s = behind_run is_ascii_alphanumeric s

abbrev pub ends_name : List ℕ → Bool
ends_name s = is_empty_or_blank s || first_is greater_than_sign s

abbrev pub without_slash : List ℕ → List ℕ
without_slash s = if first_is slash s then drop 1 s else s

-- the first kind: an open tag of a text element
abbrev pub is_text_block : List ℕ → Bool
is_text_block s = is_among text_names (block_name s) && ends_name (block_name_rest s)

-- the sixth kind: a tag, complete or not, of an element that is a block
abbrev pub is_block_tag : List ℕ → Bool
is_block_tag s =
    is_among block_names (block_name s)
    && (ends_name (block_name_rest s) || begins_with (codes "/>") (block_name_rest s))

-- the name of a complete tag is none of a text element
abbrev pub is_of_text : List ℕ → Bool
is_of_text s = is_among text_names (str_to_ascii_lowercase (leading_run is_in_tag_name s))

abbrev pub fills : List ℕ → Option (List ℕ) → Bool
fills s None = false
fills s (Some tag) = is_blank_text (drop (length tag) s)

-- the seventh kind: a complete tag, alone in its line, but for an open tag of a text element
abbrev pub is_lone_tag : List ℕ → Bool
is_lone_tag s = (not (is_of_text s) && fills s (open_tag s)) || fills s (closing_tag s)

-- After `<`: what ends the block that begins so, by nothing if a blank line does. A block of the seventh kind doesn't
-- interrupt a paragraph.
abbrev pub block_ends : After → List ℕ → Option (List (List ℕ))
block_ends a s =
    if is_text_block s then Some text_ends
    else if begins_with (codes "!--") s then Some (codes "-->" ∷ [])
    else if begins_with (codes "?") s then Some (codes "?>" ∷ [])
    else if begins_with (codes "!") s && begins_with_letter (drop 1 s) then Some (codes ">" ∷ [])
    else if begins_with (codes "![CDATA[") s then Some (codes "]]>" ∷ [])
    else if is_block_tag (without_slash s) || (is_alone a && is_lone_tag s) then Some []
    else None

-- the line has one of these
abbrev pub has_end : List (List ℕ) → List ℕ → Bool
has_end ends s = list_any (λ e. holds_in_any_case e s) ends

abbrev pub html_with : List ℕ → Option (List (List ℕ)) → Start
html_with s None = no_start
html_with s (Some ends) =
    if has_end ends s then whole (html s) else first_line (leaf (raw ends (s ∷ [])))

-- a line, and what follows `<` in it
abbrev pub html_start : After → List ℕ → List ℕ → Start
html_start a s rest = html_with s (block_ends a rest)

-- ---- thematic breaks (4.1)

-- three or more of one sign, and spaces or tabs between them
abbrev pub is_rule : ℕ → List ℕ → Bool
is_rule c s = list_all (is_same c) (marks s) && nat_le 3 (length (marks s))

-- ---- containers (5.1 and 5.2)

abbrev pub first_paragraph : List ℕ → Open
first_paragraph s = leaf (paragraph [] (past_blanks s))

-- nothing is open in a box, and a line that isn't blank starts this there
abbrev pub opened : ClosedBlocks → Bool → Line → Start → Box
opened done g l no_start = box done g (first_paragraph l.text)
opened done g l (whole p) = box (joined done (closed_block g p no_closed_blocks)) false nothing
opened done g l (first_line o) = box done g o

abbrev pub within_box : Container → Box → Open
within_box kind b = within kind b.done b.gap b.inner

-- a container that begins with a line
abbrev pub fresh : Container → Line → Start → Open
fresh kind l s =
    within_box kind (if is_blank l then box no_closed_blocks false nothing else opened no_closed_blocks false l s)

-- the rest of a line after `>` and one column
abbrev pub behind_quote : Line → Line
behind_quote l = cut 1 (after_marker 1 l)

-- the columns between a marker and the content: one to four, or one if there are more or none follows
abbrev pub padding : Line → ℕ
padding l = if is_blank l then 1 else if nat_le (indent l) 4 then indent l else 1

abbrev pub behind_padding : Line → Line
behind_padding l = cut (padding l) l

-- under a paragraph an item must have text, and a number must be 1
abbrev pub may_begin : After → Option ℕ → Line → Bool
may_begin a None l = not (is_under a && is_blank l)
may_begin a (Some n) l = not (is_under a && (is_blank l || not (n == 1)))

-- A marker of so many characters, after so many columns, and what follows it, which starts this.
abbrev pub item_start : After → ℕ → Option ℕ → ℕ → Line → Start → Start
item_start a sign number before l s =
    if is_empty_or_blank l.text && may_begin a number l
    then first_line (fresh (listing sign number (before + padding l)) (behind_padding l) s)
    else no_start

abbrev pub unless_rule : ℕ → List ℕ → Start → Start
unless_rule c s other = if is_rule c s then whole rule else other

-- the digits of a number: one to nine, and `.` or `)` after them
abbrev pub digits : List ℕ → List ℕ
digits s = leading_run is_ascii_digit s

abbrev pub number_of : List ℕ → ℕ
number_of s = number 10 0 (digits s)

abbrev pub delimiter : List ℕ → ℕ
delimiter s = first_of (behind_run is_ascii_digit s)
  where
    first_of : List ℕ → ℕ
    first_of [] = 0
    first_of (c ∷ t) = c

abbrev pub if_numbered : List ℕ → Start → Start
if_numbered s other = if nat_le (length (digits s)) 9 && is_one_of (codes ".)") (delimiter s) then other else no_start

-- ---- all starts

-- what a character may start
pub data Sign : Type 0 where
  quote_sign : Sign
  heading_sign : Sign
  fence_sign : Sign
  tag_sign : Sign
  rule_sign : Sign
  bullet_or_rule : Sign
  bullet : Sign
  digit : Sign
  no_sign : Sign

abbrev pub sign : ℕ → Sign
sign c =
    if c == greater_than_sign then quote_sign
    else if c == number_sign then heading_sign
    else if (c == grave_accent) || (c == tilde) then fence_sign
    else if c == less_than_sign then tag_sign
    else if c == underscore then rule_sign
    else if (c == asterisk) || (c == hyphen) then bullet_or_rule
    else if c == plus_sign then bullet
    else if is_ascii_digit c then digit
    else no_sign

-- four columns are code, but under a paragraph (4.4)
abbrev pub code_start : After → Line → Start
code_start a l = if is_alone a then first_line (leaf (indented ((cut 4 l).text ∷ []))) else no_start

-- What a line starts. The first list has the line's characters but spaces and tabs, in order, and the number says how
-- many of them belong to a marker that was read.
abbrev pub started_by : List ℕ → ℕ → After → Line → Start
started_by [] n a l = no_start
started_by (c ∷ m) (suc n) a l = started_by m n a l
started_by (c ∷ m) zero a l =
    elim (nat_le (indent l) 3) [
      | false ↦ code_start a l
      | true ↦
          let b = cut (indent l) l in
          elim (sign c) [
            | quote_sign ↦ first_line (fresh quoting (behind_quote b) (started_by m zero alone (behind_quote b)))
            | heading_sign ↦ heading_start b.text
            | fence_sign ↦ fence_start (indent l) c b.text
            | tag_sign ↦ html_start a l.text (drop 1 b.text)
            | rule_sign ↦ unless_rule c b.text no_start
            | bullet_or_rule ↦
                let r = after_marker 1 b in
                unless_rule c b.text
                (item_start a c None (suc (indent l)) r (started_by m zero alone (behind_padding r)))
            | bullet ↦
                let r = after_marker 1 b in
                item_start a c None (suc (indent l)) r (started_by m zero alone (behind_padding r))
            | digit ↦
                let n = length (digits b.text) in
                let r = after_marker (suc n) b in
                if_numbered b.text
                (item_start a (delimiter b.text) (Some (number_of b.text)) (suc n + indent l) r
                (started_by m n alone (behind_padding r)))
            | no_sign ↦ no_start
          ]
    ]

abbrev pub started : After → Line → Start
started a l = started_by (marks l.text) 0 a l
