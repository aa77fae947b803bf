-- Links, images (CommonMark 0.31.2, 6.3 and 6.4) and all inlines of a text (6, and appendix, phase 2): tokens from the
-- left, kept with the last bracket that is still open.
use Rattle.std.specs.Prelude.{ℕ, zero, suc, ◌+◌, ◌-◌, Bool, true, false, not, ◌&&◌, ◌||◌, ◌==◌, nat_le}
use Rattle.std.specs.Prelude.{if◌then◌else◌, List, [], ◌∷◌, ◌++◌, length, drop, take, codes, Option, Some, None}
use Rattle.std.specs.Option.{option_or}
use Rattle.std.specs.Str.{bytes_eq}
use Rattle.htmd_lexical.specs.Characters.{line_feed, space, exclamation_mark, ampersand, left_parenthesis}
use Rattle.htmd_lexical.specs.Characters.{right_parenthesis, asterisk, less_than_sign, left_square_bracket, backslash}
use Rattle.htmd_lexical.specs.Characters.{right_square_bracket, underscore, grave_accent, tilde}
use Rattle.htmd_lexical.specs.CharacterClasses.{is_empty, first_is, begins_with, leading_run, behind_run}
use Rattle.htmd_commonmark_reading.specs.Characters.{Front, Piece, is_space_or_tab, past_blanks, escape, referenced}
use Rattle.htmd_commonmark_reading.specs.Characters.{unescaped}
use Rattle.htmd_commonmark_reading.specs.BlockStarts.{is_same}
use Rattle.htmd_commonmark_reading.specs.LinkDefinitions.{Definition, label, label_key, past_white, destination}
use Rattle.htmd_commonmark_reading.specs.LinkDefinitions.{title_after}
use Rattle.htmd_commonmark_reading.specs.Markup.{Inlines, no_inlines, letter, code, link, image, line_break, letters}
use Rattle.htmd_commonmark_reading.specs.Markup.{signs}
use Rattle.htmd_commonmark_reading.specs.DelimiterRuns.{Token, finished, run, run_of, processed}
use Rattle.htmd_commonmark_reading.specs.InlineTokens.{is_grave_accent, before_graves, in_one_line, code_text, angle}
use Rattle.htmd_commonmark_reading.specs.InlineTokens as token

-- ---- where links lead (6.3)

-- the definitions of a document, in order
abbrev pub References : Type 0
References = List Definition

-- the address and title of a link, and the text behind it
pub record Target : Type 0 where
  pub address : List ℕ
  pub title : Option (List ℕ)
  pub rest : List ℕ

abbrev pub closed_target : List ℕ → Option (List ℕ) → List ℕ → Option Target
closed_target address title s =
    if first_is right_parenthesis s
    then Some (record { address = unescaped address; title = title; rest = drop 1 s })
    else None

abbrev pub target_title : List ℕ → List ℕ → Option Front → Option Target
target_title address s None = closed_target address None (past_white s)
target_title address s (Some t) = closed_target address (Some (unescaped t.front)) (past_white t.rest)

abbrev pub target_at : Option Front → Option Target
target_at None = None
target_at (Some a) = target_title a.front a.rest (title_after a.rest)

-- behind `(`: a destination and a title, each of which may be left out, and `)`
abbrev pub resource : List ℕ → Option Target
resource s =
    if first_is right_parenthesis (past_white s)
    then closed_target [] None (past_white s)
    else target_at (destination (past_white s))

abbrev pub inline_target : List ℕ → Option Target
inline_target s = if first_is left_parenthesis s then resource (drop 1 s) else None

-- of definitions with one label the first counts (4.7)
abbrev pub target_of : References → List ℕ → List ℕ → Option Target
target_of [] key s = None
target_of (d ∷ ds) key s =
    if bytes_eq d.key key
    then Some (record { address = d.address; title = d.title; rest = s })
    else target_of ds key s

-- a full reference has a label of its own; in a collapsed one that is empty, and in a shortcut there is none
abbrev pub reference_target : References → List ℕ → List ℕ → Option Front → Option Target
reference_target refs content s None = target_of refs (label_key content) s
reference_target refs content s (Some l) =
    if not (is_empty (label_key l.front))
    then target_of refs (label_key l.front) l.rest
    else target_of refs (label_key content) (if is_empty l.front then l.rest else s)

-- the target of a link with this text, by what stands behind its `]`
abbrev pub target : References → List ℕ → List ℕ → Option Target
target refs content s = option_or (inline_target s) (reference_target refs content s (label s))

-- ---- the stack of brackets

-- The tokens before the first bracket that is open; or the last such bracket: does it begin an image, may it still
-- begin a link, the text and the tokens behind it, and the stack before it.
pub data Brackets : Type 0 where
  outermost : (tokens : List Token) → Brackets
  bracket : (is_image is_active : Bool) (text : List ℕ) (tokens : List Token) (below : Brackets) → Brackets

abbrev pub and_tokens : Brackets → List Token → Brackets
and_tokens (outermost ts) us = outermost (ts ++ us)
and_tokens (bracket i a s ts below) us = bracket i a s (ts ++ us) below

-- no link holds a link
abbrev pub without_links : Brackets → Brackets
without_links (outermost ts) = outermost ts
without_links (bracket true a s ts below) = bracket true a s ts (without_links below)
without_links (bracket false a s ts below) = bracket false false s ts (without_links below)

-- the stack after a token, and how many more characters that takes
pub record Step : Type 0 where
  pub brackets : Brackets
  pub more : ℕ

abbrev pub no_step : Brackets → Step
no_step b = record { brackets = b; more = 0 }

abbrev pub token_step : Brackets → Inlines → ℕ → Step
token_step b x n = record { brackets = and_tokens b (finished x ∷ []); more = n }

abbrev pub letter_step : Brackets → ℕ → Step
letter_step b c = token_step b (letter c no_inlines) 0

abbrev pub piece_step : Brackets → Piece → Step
piece_step b p = token_step b (letters p.meaning no_inlines) p.following

abbrev pub sign_of : Bool → List ℕ
sign_of true = codes "!["
sign_of false = codes "["

-- a bracket that begins no link is text
abbrev pub as_text : Bool → List Token → Brackets → Step
as_text is_image ts below =
    no_step (and_tokens below
    (finished (letters (sign_of is_image) no_inlines) ∷ ts
    ++ (finished (letter right_square_bracket no_inlines) ∷ [])))

abbrev pub linked : Bool → List Token → Brackets → List ℕ → Option Target → Step
linked is_image ts below s None = as_text is_image ts below
linked true ts below s (Some t) =
    token_step below (image t.address t.title (processed ts) no_inlines) (length s - length t.rest)
linked false ts below s (Some t) =
    token_step (without_links below) (link t.address t.title (processed ts) no_inlines) (length s - length t.rest)

-- what stands between the beginning of a text and its end
abbrev pub before_end : List ℕ → List ℕ → List ℕ
before_end s end = take (length s - length end) s

-- a closing bracket, and the text behind it
abbrev pub closing_step : References → Brackets → List ℕ → Step
closing_step refs (outermost ts) s = letter_step (outermost ts) right_square_bracket
closing_step refs (bracket i false text ts below) s = as_text i ts below
closing_step refs (bracket i true text ts below) s =
    linked i ts below s (target refs (before_end text (right_square_bracket ∷ s)) s)

abbrev pub opening_step : Brackets → Bool → List ℕ → ℕ → Step
opening_step b is_image s n = record { brackets = bracket is_image true (drop n s) [] b; more = n }

abbrev pub exclamation_step : Brackets → List ℕ → Step
exclamation_step b s =
    if first_is left_square_bracket s then opening_step b true s 1 else letter_step b exclamation_mark

-- ---- line breaks (6.7 and 6.8)

abbrev pub blanks : List ℕ → ℕ
blanks s = length (leading_run is_space_or_tab s)

-- a soft break is a space; two spaces before it make it hard
abbrev pub break_step : Brackets → List ℕ → List ℕ → Step
break_step b before s =
    token_step b
    (if begins_with (codes "  ") before then line_break no_inlines else letter space no_inlines) (blanks s)

-- white space before a line's end goes
abbrev pub blank_step : Brackets → ℕ → List ℕ → Step
blank_step b c s = if first_is line_feed (past_blanks s) then no_step b else letter_step b c

-- a backslash before a line's end makes it hard, before punctuation it is an escape (2.4)
abbrev pub backslash_step : Brackets → List ℕ → Step
backslash_step b s =
    if first_is line_feed s
    then token_step b (line_break no_inlines) (suc (blanks (drop 1 s)))
    else piece_step b (escape s)

-- ---- code spans and delimiter runs

-- a row of so many grave accents and one more, and what follows it
abbrev pub code_with : Brackets → ℕ → Option (List ℕ) → Step
code_with b n None = token_step b (signs grave_accent (suc n) no_inlines) n
code_with b n (Some s) = token_step b (code (code_text (in_one_line s)) no_inlines) (n + length s + suc n)

abbrev pub code_step : Brackets → List ℕ → Step
code_step b s =
    let n = length (leading_run is_grave_accent s) in
    code_with b n (before_graves (suc n) 0 (behind_run is_grave_accent s))

-- three tildes and more are text
abbrev pub run_with : Brackets → ℕ → ℕ → List ℕ → List ℕ → Step
run_with b c n before after =
    if (c == tilde) && nat_le 2 n
    then token_step b (signs c (suc n) no_inlines) n
    else record { brackets = and_tokens b (run (run_of c (suc n) before after) ∷ []); more = n }

abbrev pub run_step : Brackets → ℕ → List ℕ → List ℕ → Step
run_step b c before s = run_with b c (length (leading_run (is_same c) s)) before (behind_run (is_same c) s)

abbrev pub angle_step : Brackets → token.Piece → Step
angle_step b p = token_step b p.content p.following

-- ---- all of it

-- what a character may begin
pub data Kind : Type 0 where
  blank : Kind
  line_end : Kind
  slash : Kind
  grave : Kind
  sign : Kind
  angle_bracket : Kind
  and_sign : Kind
  exclamation : Kind
  opening : Kind
  closing : Kind
  other : Kind

abbrev pub kind : ℕ → Kind
kind c =
    if is_space_or_tab c then blank
    else if c == line_feed then line_end
    else if c == backslash then slash
    else if c == grave_accent then grave
    else if (c == asterisk) || (c == underscore) || (c == tilde) then sign
    else if c == less_than_sign then angle_bracket
    else if c == ampersand then and_sign
    else if c == exclamation_mark then exclamation
    else if c == left_square_bracket then opening
    else if c == right_square_bracket then closing
    else other

-- The stack after the token that begins with a character. The texts: before that, from its end, and behind it.
abbrev pub step_of : Kind → References → Brackets → List ℕ → ℕ → List ℕ → Step
step_of blank refs b before c s = blank_step b c s
step_of line_end refs b before c s = break_step b before s
step_of slash refs b before c s = backslash_step b s
step_of grave refs b before c s = code_step b s
step_of sign refs b before c s = run_step b c before s
step_of angle_bracket refs b before c s = angle_step b (angle s)
step_of and_sign refs b before c s = piece_step b (referenced c s)
step_of exclamation refs b before c s = exclamation_step b s
step_of opening refs b before c s = opening_step b false s 0
step_of closing refs b before c s = closing_step refs b s
step_of other refs b before c s = letter_step b c

-- The stack after a text, so many of whose characters were read ahead.
abbrev pub scanned : References → List ℕ → ℕ → List ℕ → Brackets → Brackets
scanned refs [] n before b = b
scanned refs (c ∷ s) (suc n) before b = scanned refs s n (c ∷ before) b
scanned refs (c ∷ s) zero before b =
    let step = step_of (kind c) refs b before c s in
    scanned refs s step.more (c ∷ before) step.brackets

abbrev pub all_tokens : Brackets → List Token
all_tokens (outermost ts) = ts
all_tokens (bracket i a s ts below) = all_tokens below ++ (finished (letters (sign_of i) no_inlines) ∷ ts)

-- the inlines of a text
abbrev pub inlines : References → List ℕ → Inlines
inlines refs s = processed (all_tokens (scanned refs s 0 [] (outermost [])))
