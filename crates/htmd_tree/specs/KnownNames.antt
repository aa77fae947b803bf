-- What the rules of nesting know of a name. Private functions alone are said by it.
use Rattle.std.specs.Prelude.{ℕ, Bool, true, false, ◌==◌, if◌then◌else◌, List, [], ◌∷◌, codes}
use Rattle.htmd_lexical.specs.CharacterClasses.{is_among}
use Rattle.htmd_tree.specs.declared.reader.names.KnownName.{KnownName}
use Rattle.htmd_tree.specs.declared.reader.names.KnownName.TheVariants.{Outside, RawText, Xmp, NoScript, Text, Block}
use Rattle.htmd_tree.specs.declared.reader.names.KnownName.TheVariants.{Heading, P, A, Button, Form, NoBr, Li, ItemList}
use Rattle.htmd_tree.specs.declared.reader.names.KnownName.TheVariants.{Description, Dl, Select, OptGroup, OptionTag}
use Rattle.htmd_tree.specs.declared.reader.names.KnownName.TheVariants.{Table, Caption, ColGroup, Rows, Row, Cell, Col}
use Rattle.htmd_tree.specs.declared.reader.names.KnownName.TheVariants.{Other}

-- blocks that no rule tells from other blocks
abbrev pub block_names : List (List ℕ)
block_names =
    codes "address" ∷ codes "article" ∷ codes "aside" ∷ codes "blockquote" ∷ codes "center" ∷
    codes "details" ∷ codes "dialog" ∷ codes "div" ∷ codes "fieldset" ∷ codes "figcaption" ∷
    codes "figure" ∷ codes "footer" ∷ codes "header" ∷ codes "hgroup" ∷ codes "hr" ∷ codes "main" ∷
    codes "nav" ∷ codes "pre" ∷ codes "search" ∷ codes "section" ∷ codes "summary" ∷ []

abbrev pub heading_names : List (List ℕ)
heading_names = codes "h1" ∷ codes "h2" ∷ codes "h3" ∷ codes "h4" ∷ codes "h5" ∷ codes "h6" ∷ []

-- a name that is neither of text alone nor of a table
unfoldable pub known_by_itself : List ℕ → KnownName
known_by_itself n =
    if is_among heading_names n then Heading
    else if is_among (codes "p" ∷ []) n then P
    else if is_among (codes "a" ∷ []) n then A
    else if is_among (codes "button" ∷ []) n then Button
    else if is_among (codes "form" ∷ []) n then Form
    else if is_among (codes "nobr" ∷ []) n then NoBr
    else if is_among (codes "li" ∷ []) n then Li
    else if is_among (codes "ul" ∷ codes "ol" ∷ codes "menu" ∷ codes "dir" ∷ []) n then ItemList
    else if is_among (codes "dd" ∷ codes "dt" ∷ []) n then Description
    else if is_among (codes "dl" ∷ []) n then Dl
    else if is_among (codes "select" ∷ []) n then Select
    else if is_among (codes "optgroup" ∷ []) n then OptGroup
    else if is_among (codes "option" ∷ []) n then OptionTag
    else if is_among block_names n then Block
    else Other

-- a name that has a place, and not of text alone
unfoldable pub known_in_table : List ℕ → KnownName
known_in_table n =
    if is_among (codes "table" ∷ []) n then Table
    else if is_among (codes "caption" ∷ []) n then Caption
    else if is_among (codes "colgroup" ∷ []) n then ColGroup
    else if is_among (codes "thead" ∷ codes "tbody" ∷ codes "tfoot" ∷ []) n then Rows
    else if is_among (codes "tr" ∷ []) n then Row
    else if is_among (codes "td" ∷ codes "th" ∷ []) n then Cell
    else if is_among (codes "col" ∷ []) n then Col
    else known_by_itself n

-- elements that have no place at all
abbrev pub outside_names : List (List ℕ)
outside_names =
    codes "html" ∷ codes "head" ∷ codes "body" ∷ codes "frameset" ∷ codes "frame" ∷ codes "template" ∷
    codes "plaintext" ∷ codes "listing" ∷ codes "image" ∷ []

-- elements that hold text without references, with scripting on or off
abbrev pub raw_text_names : List (List ℕ)
raw_text_names = codes "script" ∷ codes "style" ∷ codes "iframe" ∷ codes "noembed" ∷ codes "noframes" ∷ []

unfoldable pub known_name : List ℕ → KnownName
known_name n =
    if is_among outside_names n then Outside
    else if is_among raw_text_names n then RawText
    else if is_among (codes "xmp" ∷ []) n then Xmp
    else if is_among (codes "noscript" ∷ []) n then NoScript
    else if is_among (codes "title" ∷ codes "textarea" ∷ []) n then Text
    else known_in_table n

abbrev pub number : KnownName → ℕ
number Outside = 0
number RawText = 1
number Xmp = 2
number NoScript = 3
number Text = 4
number Block = 5
number Heading = 6
number P = 7
number A = 8
number Button = 9
number Form = 10
number NoBr = 11
number Li = 12
number ItemList = 13
number Description = 14
number Dl = 15
number Select = 16
number OptGroup = 17
number OptionTag = 18
number Table = 19
number Caption = 20
number ColGroup = 21
number Rows = 22
number Row = 23
number Cell = 24
number Col = 25
number Other = 26

-- names of this kind
abbrev pub is : KnownName → KnownName → Bool
is kind known = number known == number kind

-- text without references, with scripting on or off
abbrev pub holds_raw_text : KnownName → Bool
holds_raw_text RawText = true
holds_raw_text Xmp = true
holds_raw_text _ = false

-- what may not stand under an open `p`
abbrev pub closes_paragraph : KnownName → Bool
closes_paragraph Xmp = true
closes_paragraph Block = true
closes_paragraph Heading = true
closes_paragraph P = true
closes_paragraph Form = true
closes_paragraph Li = true
closes_paragraph ItemList = true
closes_paragraph Description = true
closes_paragraph Dl = true
closes_paragraph Table = true
closes_paragraph _ = false

-- what is in a `table` only
abbrev pub is_table_part : KnownName → Bool
is_table_part Caption = true
is_table_part ColGroup = true
is_table_part Rows = true
is_table_part _ = false

-- what holds only parts of a table
abbrev pub holds_parts : KnownName → Bool
holds_parts Table = true
holds_parts ColGroup = true
holds_parts Rows = true
holds_parts Row = true
holds_parts _ = false

-- `optgroup` and `option`
abbrev pub is_part_of_select : KnownName → Bool
is_part_of_select OptGroup = true
is_part_of_select OptionTag = true
is_part_of_select _ = false
