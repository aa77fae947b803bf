-- How selectors are read from a text, byte by byte: one reading for each place in a selector (Selectors Level 4, 3).
use Rattle.std.specs.Prelude.{ℕ, suc, ◌-◌, min, Bool, false, true, not, ◌&&◌, ◌||◌, ◌==◌, nat_lt, nat_le, if◌then◌else◌}
use Rattle.std.specs.Prelude.{List, [], ◌∷◌, ◌++◌, length, codes, Option, Some, None, Result, Ok, Err}
use Rattle.std.specs.Char.{encode_utf8, is_ascii_alphanumeric, is_ascii_digit, is_ascii_hexdigit, to_ascii_lowercase}
use Rattle.std.specs.List.{list_any}
use Rattle.htmd_lexical.specs.Characters.{line_feed, form_feed, carriage_return, quotation_mark, number_sign}
use Rattle.htmd_lexical.specs.Characters.{asterisk, plus_sign, comma, hyphen, full_stop, equals_sign, greater_than_sign}
use Rattle.htmd_lexical.specs.Characters.{left_square_bracket, backslash, right_square_bracket, underscore}
use Rattle.htmd_lexical.specs.Characters.{apostrophe, vertical_bar, tilde, colon, left_parenthesis, right_parenthesis}
use Rattle.htmd_lexical.specs.Numbers.{number, is_between}
use Rattle.htmd_lexical.specs.WhiteSpace.{is_ascii_white_space}
use Rattle.htmd_selectors.specs.declared.selectors.Operator.{Operator}
use Rattle.htmd_selectors.specs.declared.selectors.Operator.TheVariants as operator
use Rattle.htmd_selectors.specs.declared.selectors.Peers.{Peers}
use Rattle.htmd_selectors.specs.declared.selectors.Peers.TheVariants as peers
use Rattle.htmd_selectors.specs.declared.selectors.Relation.{Relation}
use Rattle.htmd_selectors.specs.declared.selectors.Relation.TheVariants as relation
use Rattle.htmd_selectors.specs.declared.selectors.Row.{Row}
use Rattle.htmd_selectors.specs.declared.selectors.SelectorError.{SelectorError}
use Rattle.htmd_selectors.specs.declared.selectors.Side.{Side}
use Rattle.htmd_selectors.specs.declared.selectors.Side.TheVariants as side
use Rattle.htmd_selectors.specs.declared.series.Series.{Series}
use Rattle.htmd_selectors.specs.declared.selectors.SelectorError.TheVariants.{NoSelector, NoName, Unclosed, Unsupported}
use Rattle.htmd_selectors.specs.declared.reader.Escape.{Escape}
use Rattle.htmd_selectors.specs.declared.reader.Escape.TheVariants as escape
use Rattle.htmd_selectors.specs.declared.reader.Group.{Group}
use Rattle.htmd_selectors.specs.declared.reader.Group.TheVariants as group
use Rattle.htmd_selectors.specs.declared.reader.Position.{Position}
use Rattle.htmd_selectors.specs.declared.reader.Position.TheVariants as position
use Rattle.htmd_selectors.specs.declared.reader.WordKind.{WordKind}
use Rattle.htmd_selectors.specs.declared.reader.WordKind.TheVariants as part
use Rattle.htmd_selectors.specs.Matching.{same_name}
use Rattle.htmd_selectors.specs.SelectorSteps.{Condition, is_any, is_type, has_class, has_id, has_attribute, has_value}
use Rattle.htmd_selectors.specs.SelectorSteps.{is_first, is_last, is_only, is_empty, is_root, is_nth}
use Rattle.htmd_selectors.specs.SelectorSteps.{Test, asks, among, Step}
use Rattle.htmd_selectors.specs.SeriesReading.{series_of}

abbrev pub dollar_sign : ℕ
dollar_sign = 0x24

abbrev pub circumflex_accent : ℕ
circumflex_accent = 0x5E

abbrev pub small_letter_i : ℕ
small_letter_i = 0x69

abbrev pub small_letter_s : ℕ
small_letter_s = 0x73

-- what was read: the simple selectors, the relation of the next one, the name of an attribute and what its value is
-- compared by; the name or value that is being read, and whether it has an escape; the escape that is being read, and
-- its digits; the pseudo-class whose parentheses are open, its compounds that were read, and the conditions of the one
-- that is being read; and where in a selector the text goes on
pub record Reading : Type 0 where
  pub steps : List Step
  pub relation : Relation
  pub name : List ℕ
  pub operator : Operator
  pub word : List ℕ
  pub escaped : Bool
  pub escape : Escape
  pub digits : List ℕ
  pub group : Group
  pub compounds : List (List Condition)
  pub compound : List Condition
  pub position : Position

-- ---- names

-- letters, digits, `-`, `_`, and each byte of a character that isn't ASCII (CSS Syntax Level 3, 4.2)
abbrev pub is_name_byte : ℕ → Bool
is_name_byte b = is_ascii_alphanumeric b || (b == hyphen) || (b == underscore) || nat_le 128 b

-- a backslash begins an escape in a name, and goes on with it as such a byte does
abbrev pub extends_name : ℕ → Bool
extends_name b = is_name_byte b || (b == backslash)

-- what was read is no name: nothing, or a hyphen that no escape stands for
abbrev pub is_no_name : Bool → List ℕ → Bool
is_no_name escaped [] = true
is_no_name escaped (b ∷ []) = (b == hyphen) && not escaped
is_no_name escaped (b ∷ c ∷ s) = false

-- no digit stands first in a name, or after a first hyphen (CSS Syntax Level 3, 4.3.9)
abbrev pub may_follow : Bool → List ℕ → ℕ → Bool
may_follow escaped word b = not (is_ascii_digit b && is_no_name escaped word)

-- ---- escapes

-- numbers that stand for no character: 0, those above U+10FFFF, and surrogates
abbrev pub is_no_character : ℕ → Bool
is_no_character n = (n == 0) || nat_lt 0x10_FFFF n || is_between 0xD800 0xDFFF n

-- a number stands for its character, and one of no character for U+FFFD
abbrev pub character_numbered : ℕ → ℕ
character_numbered n = if is_no_character n then 0xFFFD else n

-- the character of hexadecimal digits; numbers from the limit on are all alike (CSS Syntax Level 3, 4.3.7)
unfoldable pub escaped_character : List ℕ → ℕ
escaped_character digits = character_numbered (min (number 16 0 digits) 0x11_0000)

abbrev pub is_line_end : ℕ → Bool
is_line_end b = (b == line_feed) || (b == carriage_return) || (b == form_feed)

-- ---- steps of the reading

-- a word begins
abbrev pub begin : Position → Reading → Reading
begin next r = record r { word = []; escaped = false; position = next }

abbrev pub push : ℕ → Reading → Reading
push b r = record r { word = r.word ++ b ∷ [] }

abbrev pub in_mode : Position → Reading → Reading
in_mode next r = record r { position = next }

-- a simple selector
abbrev pub add_step : Test → Reading → Reading
add_step test r = record r {
  steps = r.steps ++ (record { relation = r.relation; test = test }) ∷ [];
  relation = relation.Same;
  position = position.AfterSimple;
}

-- one in parentheses
abbrev pub add_inner : Condition → Reading → Reading
add_inner condition r = record r { compound = r.compound ++ condition ∷ []; position = position.AfterSimple }

abbrev pub add_in : Group → Condition → Reading → Reading
add_in group.Outside condition r = add_step (asks condition) r
add_in group.Is condition r = add_inner condition r
add_in group.Not condition r = add_inner condition r

abbrev pub add : Condition → Reading → Reading
add condition r = add_in r.group condition r

-- an escape begins
abbrev pub begin_escape : Reading → Reading
begin_escape r = record r { escape = escape.Begun; escaped = true }

-- a name goes on with this byte, or there is none where it would have begun
abbrev pub extend : ℕ → ℕ → Reading → Result Reading SelectorError
extend place b r =
    if b == backslash then Ok (begin_escape r)
    else (if may_follow r.escaped r.word b then Ok (push b r) else Err (NoName (place - length r.word)))

-- a name was read, or the reading ends where it would have begun
abbrev pub named : ℕ → Reading → Result Reading SelectorError → Result Reading SelectorError
named place r next = if is_no_name r.escaped r.word then Err (NoName (place - length r.word)) else next

-- ---- compounds

-- `>`, `+` and `~` relate a compound to the one before it (Selectors Level 4, 15)
abbrev pub begins_relation : ℕ → Bool
begins_relation b = (b == greater_than_sign) || (b == plus_sign) || (b == tilde)

-- `.`, `#`, `[` or `:` begins a simple selector
abbrev pub begin_simple : ℕ → ℕ → Reading → Result Reading SelectorError
begin_simple place b r =
    if b == full_stop then Ok (begin (position.InWord part.Class) r)
    else (if b == number_sign then Ok (begin (position.InWord part.Id) r)
    else (if b == left_square_bracket then Ok (begin position.BeforeName r)
    else (if b == colon then Ok (begin position.InPseudo r)
    else (if begins_relation b || (b == comma) then Err (NoSelector place) else Err (Unsupported place)))))

-- a type too, where a compound begins
abbrev pub begin_compound : ℕ → ℕ → Reading → Result Reading SelectorError
begin_compound place b r =
    if b == asterisk then Ok (add is_any r)
    else (if extends_name b then extend place b (begin (position.InWord part.Tag) r) else begin_simple place b r)

-- a relation, white space and a comma end a compound
abbrev pub ends_compound : ℕ → Bool
ends_compound b = begins_relation b || (b == comma) || is_ascii_white_space b

abbrev pub before_next : Relation → Reading → Reading
before_next next r = record r { relation = next; position = position.BeforeCompound }

abbrev pub end_compound : ℕ → Reading → Reading
end_compound b r =
    if b == greater_than_sign then before_next relation.Child r
    else (if b == plus_sign then before_next relation.Next r
    else (if b == tilde then before_next relation.After r
    else (if b == comma then before_next relation.Start r
    else in_mode position.AfterCompound r)))

abbrev pub before_compound : ℕ → ℕ → Reading → Result Reading SelectorError
before_compound place b r = if is_ascii_white_space b then Ok r else begin_compound place b r

-- the compound that was read in parentheses
abbrev pub end_part : Reading → Reading
end_part r = record r { compounds = r.compounds ++ r.compound ∷ []; compound = [] }

-- what stands in parentheses, as one step
abbrev pub close : Bool → Reading → Reading
close negated r =
    add_step (among negated r.compounds) (record r { compounds = []; group = group.Outside })

-- white space, a comma and `)` end a compound in parentheses, in which no other element has a compound
abbrev pub ends_part : ℕ → Bool
ends_part b = (b == right_parenthesis) || (b == comma) || is_ascii_white_space b

abbrev pub end_part_by : Bool → ℕ → Reading → Reading
end_part_by negated b r =
    if b == right_parenthesis then close negated (end_part r)
    else (if b == comma then in_mode position.BeforeCompound (end_part r)
    else in_mode position.AfterCompound r)

abbrev pub after_simple_part : Bool → ℕ → ℕ → Reading → Result Reading SelectorError
after_simple_part negated place b r =
    if ends_part b then Ok (end_part_by negated b r)
    else (if begins_relation b then Err (Unsupported place) else begin_simple place b r)

abbrev pub after_simple_in : Group → ℕ → ℕ → Reading → Result Reading SelectorError
after_simple_in group.Outside place b r =
    if ends_compound b then Ok (end_compound b r) else begin_simple place b r
after_simple_in group.Is place b r = after_simple_part false place b r
after_simple_in group.Not place b r = after_simple_part true place b r

abbrev pub after_simple : ℕ → ℕ → Reading → Result Reading SelectorError
after_simple place b r = after_simple_in r.group place b r

abbrev pub after_part : Bool → ℕ → ℕ → Reading → Result Reading SelectorError
after_part negated place b r =
    if ends_part b then Ok (end_part_by negated b r) else Err (Unsupported place)

-- a compound after white space alone is of an element below
abbrev pub after_compound_in : Group → ℕ → ℕ → Reading → Result Reading SelectorError
after_compound_in group.Outside place b r =
    if ends_compound b then Ok (end_compound b r)
    else begin_compound place b (record r { relation = relation.Below })
after_compound_in group.Is place b r = after_part false place b r
after_compound_in group.Not place b r = after_part true place b r

abbrev pub after_compound : ℕ → ℕ → Reading → Result Reading SelectorError
after_compound place b r = after_compound_in r.group place b r

abbrev pub condition_of : WordKind → List ℕ → Condition
condition_of part.Tag name = is_type name
condition_of part.Class name = has_class name
condition_of part.Id name = has_id name

-- a type, or a name after `.` or `#`
abbrev pub in_word : WordKind → ℕ → ℕ → Reading → Result Reading SelectorError
in_word kind place b r =
    if extends_name b then extend place b r
    else named place r (after_simple place b (add (condition_of kind r.word) (record r { word = [] })))

-- ---- pseudo-classes

-- the group that parentheses after a name begin (Selectors Level 4, 4.2 to 4.4)
abbrev pub group_named : List ℕ → Group
group_named name =
    if same_name name (codes "not") then group.Not
    else (if same_name name (codes "is") || same_name name (codes "where") then group.Is else group.Outside)

abbrev pub begin_group : Group → Reading → Reading
begin_group inner r = record r { group = inner; position = position.BeforeCompound }

-- parentheses begin outside of others
abbrev pub open_group : ℕ → Group → Group → Reading → Result Reading SelectorError
open_group start group.Outside group.Outside r = Err (Unsupported start)
open_group start group.Outside group.Is r = Ok (begin_group group.Is r)
open_group start group.Outside group.Not r = Ok (begin_group group.Not r)
open_group start group.Is inner r = Err (Unsupported start)
open_group start group.Not inner r = Err (Unsupported start)

-- pseudo-classes without parentheses, of all elements of a parent and of those with the same name (Selectors Level 4,
-- 14.3 and 14.4)
abbrev pub peer_class : List ℕ → Option Condition
peer_class name =
    if same_name name (codes "first-child") then Some (is_first peers.All)
    else (if same_name name (codes "last-child") then Some (is_last peers.All)
    else (if same_name name (codes "only-child") then Some (is_only peers.All)
    else (if same_name name (codes "first-of-type") then Some (is_first peers.SameName)
    else (if same_name name (codes "last-of-type") then Some (is_last peers.SameName)
    else (if same_name name (codes "only-of-type") then Some (is_only peers.SameName) else None)))))

-- all pseudo-classes without parentheses (Selectors Level 4, 14)
abbrev pub pseudo_class : List ℕ → Option Condition
pseudo_class name =
    if same_name name (codes "empty") then Some is_empty
    else (if same_name name (codes "root") then Some is_root else peer_class name)

abbrev pub after_pseudo_class : Option Condition → ℕ → ℕ → Reading → Result Reading SelectorError
after_pseudo_class (Some condition) place b r = after_simple place b (add condition r)
after_pseudo_class None place b r = Err (Unsupported (place - length r.word - 1))

abbrev pub row_by : Peers → Side → Row
row_by peers side = record { peers = peers; side = side }

-- those of places in a row (Selectors Level 4, 14.3 and 14.4)
abbrev pub row_named : List ℕ → Option Row
row_named name =
    if same_name name (codes "nth-child") then Some (row_by peers.All side.First)
    else (if same_name name (codes "nth-last-child") then Some (row_by peers.All side.Last)
    else (if same_name name (codes "nth-of-type") then Some (row_by peers.SameName side.First)
    else (if same_name name (codes "nth-last-of-type") then Some (row_by peers.SameName side.Last) else None)))

-- parentheses after a name
abbrev pub open_by : Option Row → ℕ → Reading → Result Reading SelectorError
open_by (Some row) start r = Ok (begin (position.InSeries row) r)
open_by None start r = open_group start r.group (group_named r.word) r

abbrev pub add_series : Row → Option Series → ℕ → Reading → Result Reading SelectorError
add_series row (Some series) place r = Ok (add (is_nth row series) r)
add_series row None place r = Err (Unsupported (place - length r.word))

-- all up to `)` says which places
abbrev pub in_series : Row → ℕ → ℕ → Reading → Result Reading SelectorError
in_series row place b r =
    if b == right_parenthesis then add_series row (series_of r.word) place r else Ok (push b r)

abbrev pub after_pseudo : ℕ → ℕ → Reading → Result Reading SelectorError
after_pseudo place b r =
    if b == left_parenthesis then open_by (row_named r.word) (place - length r.word - 1) r
    else after_pseudo_class (pseudo_class r.word) place b r

abbrev pub in_pseudo : ℕ → ℕ → Reading → Result Reading SelectorError
in_pseudo place b r = if extends_name b then extend place b r else named place r (after_pseudo place b r)

-- ---- attributes

-- the sign of an operator before its `=`
abbrev pub operator_of : ℕ → Option Operator
operator_of b =
    if b == tilde then Some operator.Includes
    else (if b == vertical_bar then Some operator.Dash
    else (if b == circumflex_accent then Some operator.Prefix
    else (if b == dollar_sign then Some operator.Suffix
    else (if b == asterisk then Some operator.Substring else None))))

abbrev pub before_equals : ℕ → Option Operator → Reading → Result Reading SelectorError
before_equals place (Some operator) r = Ok (record r { operator = operator; position = position.BeforeEquals })
before_equals place None r = Err (Unclosed place)

abbrev pub after_name : ℕ → ℕ → Reading → Result Reading SelectorError
after_name place b r =
    if b == equals_sign then Ok (begin position.BeforeValue (record r { operator = operator.Equals }))
    else (if b == right_square_bracket then Ok (add (has_attribute r.name) (record r { name = [] }))
    else (if is_ascii_white_space b then Ok (in_mode position.AfterName r)
    else before_equals place (operator_of b) r))

abbrev pub in_name : ℕ → ℕ → Reading → Result Reading SelectorError
in_name place b r =
    if extends_name b then extend place b (in_mode position.InName r)
    else named place r (after_name place b (record r { name = r.word; word = [] }))

abbrev pub before_name : ℕ → ℕ → Reading → Result Reading SelectorError
before_name place b r = if is_ascii_white_space b then Ok r else in_name place b r

-- `=` after the sign of an operator
abbrev pub at_equals : ℕ → ℕ → Reading → Result Reading SelectorError
at_equals place b r = if b == equals_sign then Ok (begin position.BeforeValue r) else Err (Unsupported place)

-- the values of these attributes are the same with ASCII letters in either case (HTML, 4.16.2)
abbrev pub caseless_names : List (List ℕ)
caseless_names =
    codes "accept" ∷ codes "accept-charset" ∷ codes "align" ∷ codes "alink" ∷ codes "axis" ∷
    codes "bgcolor" ∷ codes "charset" ∷ codes "checked" ∷ codes "clear" ∷ codes "codetype" ∷ codes "color" ∷
    codes "compact" ∷ codes "declare" ∷ codes "defer" ∷ codes "dir" ∷ codes "direction" ∷ codes "disabled" ∷
    codes "enctype" ∷ codes "face" ∷ codes "frame" ∷ codes "hreflang" ∷ codes "http-equiv" ∷ codes "lang" ∷
    codes "language" ∷ codes "link" ∷ codes "media" ∷ codes "method" ∷ codes "multiple" ∷ codes "nohref" ∷
    codes "noresize" ∷ codes "noshade" ∷ codes "nowrap" ∷ codes "readonly" ∷ codes "rel" ∷ codes "rev" ∷
    codes "rules" ∷ codes "scope" ∷ codes "scrolling" ∷ codes "selected" ∷ codes "shape" ∷ codes "target" ∷
    codes "text" ∷ codes "type" ∷ codes "valign" ∷ codes "valuetype" ∷ codes "vlink" ∷ []

abbrev pub is_caseless_name : List ℕ → Bool
is_caseless_name name = list_any (λ known. same_name known name) caseless_names

-- an attribute with a value
abbrev pub add_value : Bool → Reading → Reading
add_value caseless r =
    add (has_value r.name (record { operator = r.operator; caseless = caseless }) r.word)
    (record r { name = []; word = [] })

abbrev pub is_letter : ℕ → ℕ → Bool
is_letter small b = to_ascii_lowercase b == small

-- `i`: the case doesn't count; `s`: it does; else the name says so (Selectors Level 4, 6.3)
abbrev pub after_value : ℕ → ℕ → Reading → Result Reading SelectorError
after_value place b r =
    if b == right_square_bracket then Ok (add_value (is_caseless_name r.name) r)
    else (if is_ascii_white_space b then Ok (in_mode position.AfterValue r)
    else (if is_letter small_letter_i b then Ok (in_mode (position.AfterFlag true) r)
    else (if is_letter small_letter_s b then Ok (in_mode (position.AfterFlag false) r)
    else Err (Unclosed place))))

abbrev pub after_flag : Bool → ℕ → ℕ → Reading → Result Reading SelectorError
after_flag caseless place b r =
    if b == right_square_bracket then Ok (add_value caseless r)
    else (if is_ascii_white_space b then Ok r else Err (Unclosed place))

-- a value without quotation marks is a name
abbrev pub in_value : ℕ → ℕ → Reading → Result Reading SelectorError
in_value place b r =
    if extends_name b then extend place b (in_mode position.InValue r)
    else named place r (after_value place b r)

abbrev pub before_value : ℕ → ℕ → Reading → Result Reading SelectorError
before_value place b r =
    if (b == quotation_mark) || (b == apostrophe) then Ok (in_mode (position.InQuotes b) r)
    else (if is_ascii_white_space b then Ok r else in_value place b r)

-- a value in quotation marks, in one line
abbrev pub in_quotes : ℕ → ℕ → ℕ → Reading → Result Reading SelectorError
in_quotes mark place b r =
    if b == mark then Ok (in_mode position.AfterValue r)
    else (if b == backslash then Ok (begin_escape r)
    else (if is_line_end b then Err (Unsupported place) else Ok (push b r)))

-- ---- the text

-- the byte at a place is read, outside of escapes
abbrev pub read_by : Position → ℕ → ℕ → Reading → Result Reading SelectorError
read_by position.BeforeCompound place b r = before_compound place b r
read_by (position.InWord kind) place b r = in_word kind place b r
read_by position.InPseudo place b r = in_pseudo place b r
read_by (position.InSeries row) place b r = in_series row place b r
read_by position.AfterSimple place b r = after_simple place b r
read_by position.AfterCompound place b r = after_compound place b r
read_by position.BeforeName place b r = before_name place b r
read_by position.InName place b r = in_name place b r
read_by position.AfterName place b r = after_name place b r
read_by position.BeforeValue place b r = before_value place b r
read_by position.InValue place b r = in_value place b r
read_by position.BeforeEquals place b r = at_equals place b r
read_by (position.InQuotes mark) place b r = in_quotes mark place b r
read_by position.AfterValue place b r = after_value place b r
read_by (position.AfterFlag caseless) place b r = after_flag caseless place b r

-- the line goes on in the next one in quotation marks
abbrev pub in_next_line : Position → ℕ → Reading → Result Reading SelectorError
in_next_line position.BeforeCompound place r = Err (Unsupported place)
in_next_line (position.InWord kind) place r = Err (Unsupported place)
in_next_line position.InPseudo place r = Err (Unsupported place)
in_next_line (position.InSeries row) place r = Err (Unsupported place)
in_next_line position.AfterSimple place r = Err (Unsupported place)
in_next_line position.AfterCompound place r = Err (Unsupported place)
in_next_line position.BeforeName place r = Err (Unsupported place)
in_next_line position.InName place r = Err (Unsupported place)
in_next_line position.AfterName place r = Err (Unsupported place)
in_next_line position.BeforeEquals place r = Err (Unsupported place)
in_next_line position.BeforeValue place r = Err (Unsupported place)
in_next_line position.InValue place r = Err (Unsupported place)
in_next_line (position.InQuotes mark) place r = Ok (record r { escape = escape.Outside })
in_next_line position.AfterValue place r = Err (Unsupported place)
in_next_line (position.AfterFlag caseless) place r = Err (Unsupported place)

-- after a backslash: hexadecimal digits, or any character, which stands for itself
abbrev pub after_backslash : ℕ → ℕ → Reading → Result Reading SelectorError
after_backslash place b r =
    if is_ascii_hexdigit b then Ok (record r { digits = b ∷ []; escape = escape.Digits })
    else (if is_line_end b then in_next_line r.position place r
    else Ok (push b (record r { escape = escape.Outside })))

-- the digits of an escape stand for their character
abbrev pub end_digits : Reading → Reading
end_digits r = record r {
  word = r.word ++ encode_utf8 (escaped_character r.digits);
  digits = [];
  escape = escape.Outside;
}

-- six digits at most, and white space that belongs to them
abbrev pub in_digits : ℕ → ℕ → Reading → Result Reading SelectorError
in_digits place b r =
    if is_ascii_hexdigit b && nat_lt (length r.digits) 6 then Ok (record r { digits = r.digits ++ b ∷ [] })
    else (if is_ascii_white_space b then Ok (end_digits r) else read_by r.position place b (end_digits r))

abbrev pub read_in : Escape → ℕ → ℕ → Reading → Result Reading SelectorError
read_in escape.Outside place b r = read_by r.position place b r
read_in escape.Begun place b r = after_backslash place b r
read_in escape.Digits place b r = in_digits place b r

unfoldable pub read : ℕ → ℕ → Reading → Result Reading SelectorError
read place b r = read_in r.escape place b r

abbrev pub read_next : ℕ → ℕ → Result Reading SelectorError → Result Reading SelectorError
read_next place b (Ok r) = read place b r
read_next place b (Err e) = Err e

-- a text from a place on
abbrev pub read_all : ℕ → List ℕ → Result Reading SelectorError → Result Reading SelectorError
read_all place [] r = r
read_all place (b ∷ s) r = read_all (suc place) s (read_next place b r)

abbrev pub nothing_read : Reading
nothing_read = record {
  steps = [];
  relation = relation.Start;
  name = [];
  operator = operator.Equals;
  word = [];
  escaped = false;
  escape = escape.Outside;
  digits = [];
  group = group.Outside;
  compounds = [];
  compound = [];
  position = position.BeforeCompound;
}

-- the text ends where a selector may begin, or something is left open
abbrev pub finished : Position → ℕ → List Step → Result (List Step) SelectorError
finished position.BeforeCompound place steps = Ok steps
finished (position.InWord kind) place steps = Err (Unclosed place)
finished position.InPseudo place steps = Err (Unclosed place)
finished (position.InSeries row) place steps = Err (Unclosed place)
finished position.AfterSimple place steps = Err (Unclosed place)
finished position.AfterCompound place steps = Err (Unclosed place)
finished position.BeforeName place steps = Err (Unclosed place)
finished position.InName place steps = Err (Unclosed place)
finished position.AfterName place steps = Err (Unclosed place)
finished position.BeforeValue place steps = Err (Unclosed place)
finished position.InValue place steps = Err (Unclosed place)
finished position.BeforeEquals place steps = Err (Unclosed place)
finished (position.InQuotes mark) place steps = Err (Unclosed place)
finished position.AfterValue place steps = Err (Unclosed place)
finished (position.AfterFlag caseless) place steps = Err (Unclosed place)

abbrev pub finished_in : Group → Position → ℕ → List Step → Result (List Step) SelectorError
finished_in group.Outside position place steps = finished position place steps
finished_in group.Is position place steps = Err (Unclosed place)
finished_in group.Not position place steps = Err (Unclosed place)

abbrev pub steps_read : ℕ → Result Reading SelectorError → Result (List Step) SelectorError
steps_read place (Ok r) = finished_in r.group r.position place r.steps
steps_read place (Err e) = Err e

-- the simple selectors of a text, which is read as if a comma stood after it
abbrev pub steps_of_text : List ℕ → Result (List Step) SelectorError
steps_of_text s = steps_read (length s) (read_all 0 (s ++ comma ∷ []) (Ok nothing_read))
