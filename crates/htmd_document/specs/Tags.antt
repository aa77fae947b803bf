-- Tags of HTML, as they are in the Markdown of a document and in its mdast.
use Rattle.std.specs.Prelude.{ℕ, ◌==◌, if◌then◌else◌, List, [], ◌∷◌, ◌++◌, codes}
use Rattle.std.specs.Char.{encode_utf8, is_ascii}
use Rattle.std.specs.List.{flat_map}
use Rattle.htmd_lexical.specs.Characters.{ampersand, less_than_sign, greater_than_sign, quotation_mark, vertical_bar}
use Rattle.htmd_lexical.specs.Characters.{right_square_bracket}
use Rattle.htmd_document.specs.Documents.{BlockAttribute}
use Rattle.htmd_document.specs.Formats.{Format, Emphasis, Strong, Deleted, Superscript, Subscript, Inserted, Underlined}
use Rattle.htmd_document.specs.Formats.{Marked, Small, Keyboard, Abbreviation}
use Rattle.htmd_document.specs.declared.document.AttributeName.{AttributeName}
use Rattle.htmd_document.specs.declared.document.AttributeName.TheVariants as attribute
use Rattle.htmd_document.specs.declared.document.BlockElement.{BlockElement}
use Rattle.htmd_document.specs.declared.document.BlockElement.TheVariants as element

-- ---- values of attributes, and texts beside tags

-- what stands for a byte of an attribute's value: a character reference for what would end the value or the tag, for
-- the bar of a table's cell and for a bracket, with which a definition of a link could begin
abbrev pub in_value : ℕ → List ℕ
in_value b =
    if b == ampersand then codes "&amp;"
    else (if b == less_than_sign then codes "&lt;"
    else (if b == greater_than_sign then codes "&gt;"
    else (if b == quotation_mark then codes "&quot;"
    else (if b == vertical_bar then codes "&#124;"
    else (if b == right_square_bracket then codes "&#93;" else b ∷ [])))))

abbrev pub escaped_value : List ℕ → List ℕ
escaped_value s = flat_map in_value s

-- the same of a character
abbrev pub in_value_char : ℕ → List ℕ
in_value_char c = if is_ascii c then in_value c else encode_utf8 c

-- what stands for a byte of a text between the tags of a line
abbrev pub in_text : ℕ → List ℕ
in_text b = if b == ampersand then codes "&amp;" else (if b == less_than_sign then codes "&lt;" else b ∷ [])

abbrev pub escaped_text : List ℕ → List ℕ
escaped_text s = flat_map in_text s

-- the same of a character
abbrev pub in_text_char : ℕ → List ℕ
in_text_char c = if is_ascii c then in_text c else encode_utf8 c

-- ---- anchors

-- the tag that begins an anchor with this id, and the one that ends it
abbrev pub anchor_tag : List ℕ → List ℕ
anchor_tag id = codes "<a id=\"" ++ escaped_value id ++ codes "\">"

abbrev pub end_of_anchor : List ℕ
end_of_anchor = codes "</a>"

-- a place that links with `#` and this id lead to
abbrev pub anchor : List ℕ → List ℕ
anchor id = anchor_tag id ++ end_of_anchor

-- ---- formats

abbrev pub abbreviation_tag : List ℕ → List ℕ
abbreviation_tag title = codes "<abbr title=\"" ++ escaped_value title ++ codes "\">"

-- the tag that begins a format, and the one that ends it
abbrev pub format_tag : Format → List ℕ
format_tag Emphasis = codes "<em>"
format_tag Strong = codes "<strong>"
format_tag Deleted = codes "<del>"
format_tag Superscript = codes "<sup>"
format_tag Subscript = codes "<sub>"
format_tag Inserted = codes "<ins>"
format_tag Underlined = codes "<u>"
format_tag Marked = codes "<mark>"
format_tag Small = codes "<small>"
format_tag Keyboard = codes "<kbd>"
format_tag (Abbreviation title) = abbreviation_tag title

abbrev pub end_of_format : Format → List ℕ
end_of_format Emphasis = codes "</em>"
end_of_format Strong = codes "</strong>"
end_of_format Deleted = codes "</del>"
end_of_format Superscript = codes "</sup>"
end_of_format Subscript = codes "</sub>"
end_of_format Inserted = codes "</ins>"
end_of_format Underlined = codes "</u>"
end_of_format Marked = codes "</mark>"
end_of_format Small = codes "</small>"
end_of_format Keyboard = codes "</kbd>"
end_of_format (Abbreviation title) = codes "</abbr>"

-- ---- elements around blocks

abbrev pub element_name : BlockElement → List ℕ
element_name element.Details = codes "details"
element_name element.Summary = codes "summary"
element_name element.Terms = codes "dl"
element_name element.Term = codes "dt"
element_name element.Meaning = codes "dd"
element_name element.Figure = codes "figure"
element_name element.FigureCaption = codes "figcaption"
element_name element.Table = codes "table"
element_name element.Caption = codes "caption"
element_name element.Row = codes "tr"
element_name element.Cell = codes "td"
element_name element.HeaderCell = codes "th"

abbrev pub attribute_name : AttributeName → List ℕ
attribute_name attribute.Open = codes "open"
attribute_name attribute.Border = codes "border"
attribute_name attribute.ColumnSpan = codes "colspan"
attribute_name attribute.RowSpan = codes "rowspan"
attribute_name attribute.Align = codes "align"

abbrev pub attribute_text : BlockAttribute → List ℕ
attribute_text a = codes " " ++ attribute_name a.name ++ codes "=\"" ++ escaped_value a.value ++ codes "\""

-- the tag that begins an element with these attributes, and the one that ends it
abbrev pub element_tag : BlockElement → List BlockAttribute → List ℕ
element_tag name attributes = codes "<" ++ element_name name ++ flat_map attribute_text attributes ++ codes ">"

abbrev pub end_of_element : BlockElement → List ℕ
end_of_element name = codes "</" ++ element_name name ++ codes ">"

-- an element with nothing but this text in it
abbrev pub element_line : BlockElement → List BlockAttribute → List ℕ → List ℕ
element_line name attributes s = element_tag name attributes ++ escaped_text s ++ end_of_element name
