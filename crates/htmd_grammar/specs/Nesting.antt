-- Where an element may stand: what the HTML Standard's parser would open, close or move by itself is no part of the
-- grammar.
use Rattle.std.specs.Prelude.{ℕ, Bool, false, not, ◌&&◌, ◌||◌, if◌then◌else◌, List, [], ◌∷◌, codes}
use Rattle.std.specs.List.{list_any}
use Rattle.htmd_lexical.specs.CharacterClasses.{is_among}
use Rattle.htmd_grammar.specs.RawContent.{holds_text_alone}

-- the names of the ancestors of a node, innermost first; that of the Document is `html`
abbrev pub Context : Type 0
Context = List (List ℕ)

abbrev pub parent_name : Context → List ℕ
parent_name [] = []
parent_name (n ∷ c) = n

-- an element with one of these names is open
abbrev pub is_open : List (List ℕ) → Context → Bool
is_open names c = list_any (is_among names) c

-- outward from the parent, one of the first names is met before any of the others
abbrev pub is_met_before : List (List ℕ) → List (List ℕ) → Context → Bool
is_met_before names bounds [] = false
is_met_before names bounds (n ∷ c) = is_among names n || (not (is_among bounds n) && is_met_before names bounds c)

-- tags that have no place at all
abbrev pub is_outside : List ℕ → Bool
is_outside n =
    is_among (codes "html" ∷ codes "head" ∷ codes "body" ∷ codes "frameset" ∷ codes "frame" ∷ codes "template"
    ∷ codes "plaintext" ∷ codes "listing" ∷ codes "image" ∷ []) n

-- ---- paragraphs, headings, and what doesn't stand in itself

-- what may not stand under an open `p`
abbrev pub closes_paragraph : List ℕ → Bool
closes_paragraph n =
    is_among (codes "address" ∷ codes "article" ∷ codes "aside" ∷ codes "blockquote" ∷ codes "center"
    ∷ codes "dd"
    ∷ codes "details" ∷ codes "dialog" ∷ codes "dir" ∷ codes "div" ∷ codes "dl" ∷ codes "dt"
    ∷ codes "fieldset"
    ∷ codes "figcaption" ∷ codes "figure" ∷ codes "footer" ∷ codes "form" ∷ codes "h1" ∷ codes "h2"
    ∷ codes "h3"
    ∷ codes "h4" ∷ codes "h5" ∷ codes "h6" ∷ codes "header" ∷ codes "hgroup" ∷ codes "hr" ∷ codes "li"
    ∷ codes "main"
    ∷ codes "menu" ∷ codes "nav" ∷ codes "ol" ∷ codes "p" ∷ codes "pre" ∷ codes "search" ∷ codes "section"
    ∷ codes "summary" ∷ codes "table" ∷ codes "ul" ∷ codes "xmp" ∷ []) n

-- what may not stand under an element with its own name
abbrev pub excludes_itself : List ℕ → Bool
excludes_itself n =
    is_among (codes "a" ∷ codes "button" ∷ codes "form" ∷ codes "nobr" ∷ codes "select" ∷ codes "option"
    ∷ []) n

abbrev pub is_heading : List ℕ → Bool
is_heading n = is_among (codes "h1" ∷ codes "h2" ∷ codes "h3" ∷ codes "h4" ∷ codes "h5" ∷ codes "h6" ∷ []) n

abbrev pub is_optgroup : List ℕ → Bool
is_optgroup n = is_among (codes "optgroup" ∷ []) n

abbrev pub is_option : List ℕ → Bool
is_option n = is_among (codes "option" ∷ []) n

abbrev pub fits_open_elements : Context → List ℕ → Bool
fits_open_elements c n =
    not (closes_paragraph n && is_open (codes "p" ∷ []) c)
    && not (excludes_itself n && is_open (n ∷ []) c)
    && not (is_optgroup n && is_open (codes "optgroup" ∷ codes "option" ∷ []) c)
    && not (is_heading n && is_heading (parent_name c))

-- ---- lists

-- `li` stands in an `li`, and `dd` and `dt` in one of these, only through a list of its own
abbrev pub fits_lists : Context → List ℕ → Bool
fits_lists c n =
    not (is_among (codes "li" ∷ []) n
    && is_met_before (codes "li" ∷ []) (codes "ul" ∷ codes "ol" ∷ codes "menu" ∷ codes "dir" ∷ []) c)
    && not (is_among (codes "dd" ∷ codes "dt" ∷ []) n
    && is_met_before (codes "dd" ∷ codes "dt" ∷ []) (codes "dl" ∷ []) c)

-- ---- tables

abbrev pub is_table : List ℕ → Bool
is_table n = is_among (codes "table" ∷ []) n

abbrev pub is_tbody : List ℕ → Bool
is_tbody n = is_among (codes "tbody" ∷ []) n

abbrev pub is_row : List ℕ → Bool
is_row n = is_among (codes "tr" ∷ []) n

-- what is in a `table` only, and ends an implied `tbody`
abbrev pub is_table_part : List ℕ → Bool
is_table_part n =
    is_among (codes "caption" ∷ codes "colgroup" ∷ codes "thead" ∷ codes "tbody" ∷ codes "tfoot" ∷ []) n

abbrev pub holds_rows : List ℕ → Bool
holds_rows n = is_among (codes "thead" ∷ codes "tbody" ∷ codes "tfoot" ∷ []) n

-- between the parts of a table there are only these parts, comments and ASCII white space
abbrev pub holds_parts : List ℕ → Bool
holds_parts n =
    is_among (codes "table" ∷ codes "thead" ∷ codes "tbody" ∷ codes "tfoot" ∷ codes "tr" ∷ codes "colgroup"
    ∷ []) n

abbrev pub fits_table : List ℕ → List ℕ → Bool
fits_table parent n =
    if is_table_part n then is_table parent
    else if is_row n then holds_rows parent
    else if is_among (codes "td" ∷ codes "th" ∷ []) n then is_row parent
    else if is_among (codes "col" ∷ []) n then is_among (codes "colgroup" ∷ []) parent
    else not (holds_parts parent)

-- ---- `select`

abbrev pub fits_select : List ℕ → List ℕ → Bool
fits_select parent n =
    if is_among (codes "select" ∷ []) parent then is_option n || is_optgroup n
    else if is_optgroup parent then is_option n
    else not (is_option parent)

-- ---- all of them

-- an element with this name may stand here
unfoldable pub is_allowed : Bool → Context → List ℕ → Bool
is_allowed scripting c n =
    not (is_outside n)
    && not (holds_text_alone scripting (parent_name c))
    && fits_table (parent_name c) n
    && fits_select (parent_name c) n
    && fits_open_elements c n
    && fits_lists c n
