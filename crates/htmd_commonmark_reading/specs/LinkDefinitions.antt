-- Link labels, destinations and titles (CommonMark 0.31.2, 6.3), and the link reference definitions that a paragraph
-- begins with (4.7).
use Rattle.std.specs.Prelude.{ℕ, zero, suc, ◌-◌, pred, Bool, true, false, not, ◌&&◌, ◌||◌, ◌==◌, nat_lt, nat_le}
use Rattle.std.specs.Prelude.{if◌then◌else◌, List, [], ◌∷◌, length, drop, Option, Some, None}
use Rattle.std.specs.List.{flat_map}
use Rattle.std.specs.Char.{to_ascii_lowercase}
use Rattle.std.specs.Option.{option_or}
use Rattle.std.specs.Str.{chars}
use Rattle.unicode.specs.CaseFolding.{full_fold}
use Rattle.htmd_lexical.specs.Characters.{line_feed, space, quotation_mark, apostrophe, left_parenthesis}
use Rattle.htmd_lexical.specs.Characters.{right_parenthesis, colon, less_than_sign, greater_than_sign}
use Rattle.htmd_lexical.specs.Characters.{left_square_bracket, backslash, right_square_bracket}
use Rattle.htmd_lexical.specs.CharacterClasses.{is_empty, first_is, behind_run, lacks}
use Rattle.htmd_commonmark_reading.specs.Characters.{Front, is_white, stripped_end, past_blanks, before_in_front}
use Rattle.htmd_commonmark_reading.specs.Characters.{begins_with_punctuation, unescaped}

-- spaces, tabs and up to one line ending: no text has a blank line
abbrev pub past_white : List ℕ → List ℕ
past_white s = behind_run is_white s

-- ---- between two signs

-- The text up to a sign that no backslash stands before, and what follows that; none if another sign comes first.
abbrev pub until_sign : ℕ → ℕ → Bool → List ℕ → Option Front
until_sign stop refused is_escaped [] = None
until_sign stop refused true (c ∷ s) = before_in_front c (until_sign stop refused false s)
until_sign stop refused false (c ∷ s) =
    if c == stop
    then Some (record { front = []; rest = s })
    else if c == refused
    then None
    else before_in_front c (until_sign stop refused (c == backslash) s)

-- ---- labels

-- case folding (The Unicode Standard, 3.13); of ASCII it is lower case
abbrev pub folded : ℕ → List ℕ
folded c = if nat_lt c 128 then to_ascii_lowercase c ∷ [] else full_fold c

-- white space within a text as single spaces
abbrev pub single_spaced : List ℕ → List ℕ
single_spaced [] = []
single_spaced (c ∷ s) = if is_white c then first_space s (single_spaced s) else c ∷ single_spaced s
  where
    first_space : List ℕ → List ℕ → List ℕ
    first_space [] rest = space ∷ rest
    first_space (d ∷ t) rest = if is_white d then rest else space ∷ rest

abbrev pub label_text : List ℕ → List ℕ
label_text s = single_spaced (stripped_end is_white (past_white s))

-- A label as it is compared (6.3): the characters, case folded, without white space at the ends; nothing if there are
-- none or more than 999.
abbrev pub label_key : List ℕ → List ℕ
label_key s = if nat_lt 999 (length (chars s)) then [] else flat_map folded (chars (label_text s))

-- the label at the beginning of a text, between its brackets
abbrev pub label : List ℕ → Option Front
label [] = None
label (c ∷ s) =
    if c == left_square_bracket then until_sign right_square_bracket left_square_bracket false s else None

-- ---- destinations

abbrev pub on_one_line : Option Front → Option Front
on_one_line None = None
on_one_line (Some f) = if lacks line_feed f.front then Some f else None

-- between `<` and `>` on one line
abbrev pub pointed : List ℕ → Option Front
pointed s = on_one_line (until_sign greater_than_sign less_than_sign false s)

-- the parentheses that are open after a character
abbrev pub open_after : ℕ → ℕ → ℕ
open_after depth c =
    if c == left_parenthesis then suc depth else if c == right_parenthesis then pred depth else depth

-- a bare destination ends before a space, a control, and a parenthesis that closes none of its own
abbrev pub ends_bare : ℕ → ℕ → Bool
ends_bare depth c = nat_le c space || (c == 0x7F) || ((c == right_parenthesis) && (depth == 0))

abbrev pub closed_bare : ℕ → List ℕ → Option Front
closed_bare depth s = if depth == 0 then Some (record { front = []; rest = s }) else None

-- a bare destination, within so many open parentheses; the flag: its next character is escaped
abbrev pub bare : ℕ → Bool → List ℕ → Option Front
bare depth is_escaped [] = closed_bare depth []
bare depth true (c ∷ s) = before_in_front c (bare depth false s)
bare depth false (c ∷ s) =
    if ends_bare depth c
    then closed_bare depth (c ∷ s)
    else before_in_front c (bare (open_after depth c) ((c == backslash) && begins_with_punctuation s) s)

abbrev pub unless_front_is_empty : Option Front → Option Front
unless_front_is_empty None = None
unless_front_is_empty (Some f) = if is_empty f.front then None else Some f

-- the raw destination that a text begins with
abbrev pub destination : List ℕ → Option Front
destination [] = None
destination (c ∷ s) = if c == less_than_sign then pointed s else unless_front_is_empty (bare 0 false (c ∷ s))

-- ---- titles

-- between quotes of either kind, or parentheses
abbrev pub raw_title : List ℕ → Option Front
raw_title [] = None
raw_title (c ∷ s) =
    if (c == quotation_mark) || (c == apostrophe)
    then until_sign c c false s
    else if c == left_parenthesis
    then until_sign right_parenthesis left_parenthesis false s
    else None

-- the raw title after white space
abbrev pub title_after : List ℕ → Option Front
title_after [] = None
title_after (c ∷ s) = if is_white c then raw_title (past_white s) else None

-- ---- definitions

pub record Definition : Type 0 where
  pub key : List ℕ
  pub address : List ℕ
  pub title : Option (List ℕ)

pub record Defined : Type 0 where
  pub definition : Definition
  pub rest : List ℕ

-- what follows the rest of a line, if that is white
abbrev pub past_line : List ℕ → Option (List ℕ)
past_line s = line_end (past_blanks s)
  where
    line_end : List ℕ → Option (List ℕ)
    line_end [] = Some []
    line_end (c ∷ t) = if c == line_feed then Some t else None

abbrev pub defined_with : List ℕ → List ℕ → Option (List ℕ) → Option (List ℕ) → Option Defined
defined_with key address title None = None
defined_with key address title (Some rest) =
    Some (record { definition = record { key = key; address = unescaped address; title = title }; rest = rest })

abbrev pub with_title : List ℕ → List ℕ → Option Front → Option Defined
with_title key address None = None
with_title key address (Some t) = defined_with key address (Some (unescaped t.front)) (past_line t.rest)

-- after the destination: a title, unless something follows it in its line; else the line must end
abbrev pub after_destination : List ℕ → Option Front → Option Defined
after_destination key None = None
after_destination key (Some a) =
    option_or (with_title key a.front (title_after a.rest)) (defined_with key a.front None (past_line a.rest))

abbrev pub after_label : Option Front → Option Defined
after_label None = None
after_label (Some l) =
    if first_is colon l.rest && not (is_empty (label_key l.front))
    then after_destination (label_key l.front) (destination (past_white (drop 1 l.rest)))
    else None

-- the definition that a text begins with
abbrev pub definition : List ℕ → Option Defined
definition s = after_label (label s)

-- the definitions that a text begins with, and the rest without white space at its end
pub record Definitions : Type 0 where
  pub found : List Definition
  pub rest : List ℕ

abbrev pub no_more : List ℕ → Definitions
no_more s = record { found = []; rest = stripped_end is_white s }

abbrev pub and_then : Definition → Definitions → Definitions
and_then d ds = record { found = d ∷ ds.found; rest = ds.rest }

-- so many characters belong to a definition that was found
abbrev pub definitions_behind : ℕ → List ℕ → Definitions
definitions_behind n [] = no_more []
definitions_behind (suc n) (c ∷ s) = definitions_behind n s
definitions_behind zero (c ∷ s) =
    elim (definition (c ∷ s)) [
      | None ↦ no_more (c ∷ s)
      | Some d ↦ and_then d.definition (definitions_behind (length s - length d.rest) s)
    ]

abbrev pub definitions : List ℕ → Definitions
definitions s = definitions_behind 0 s
