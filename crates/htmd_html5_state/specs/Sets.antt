-- Sets of names, and what bounds a scope (HTML Standard, 13.2.4.2).
use Rattle.std.specs.Prelude.{ℕ, Bool, true, false, not, ◌&&◌, ◌||◌, List, [], ◌∷◌, codes}
use Rattle.std.specs.Str.{bytes_eq}
use Rattle.htmd_lexical.specs.CharacterClasses.{is_among}
use Rattle.htmd_html5_state.specs.Names.{ElementNameValue, html, svg, math, known, other, same_tag}
use Rattle.htmd_html5_state.specs.declared.sets.NameSet.{NameSet}
use Rattle.htmd_html5_state.specs.declared.sets.NameSet.TheVariants.{Only, Headings, DescriptionParts, Cells}
use Rattle.htmd_html5_state.specs.declared.sets.NameSet.TheVariants.{TableSections, Options, ImpliedEnd}
use Rattle.htmd_html5_state.specs.declared.sets.NameSet.TheVariants.{ImpliedEndInRuby, Fostering, TableContext}
use Rattle.htmd_html5_state.specs.declared.sets.NameSet.TheVariants.{TableBodyContext, TableRowContext}
use Rattle.htmd_html5_state.specs.declared.sets.Scope.{Scope}
use Rattle.htmd_html5_state.specs.declared.sets.Scope.TheVariants.{Default, ListItem, Button as ButtonScope}
use Rattle.htmd_html5_state.specs.declared.sets.Scope.TheVariants.{Table as TableScope, Select}
use Rattle.htmd_html5_state.specs.declared.sets.Scope.TheVariants.{Template as TemplateScope, Special, Items}
use Rattle.htmd_html5_state.specs.declared.names.TagName.{TagName}
use Rattle.htmd_html5_state.specs.declared.names.TagName.TheVariants.{Address, Applet, Area, Article, Aside, Base}
use Rattle.htmd_html5_state.specs.declared.names.TagName.TheVariants.{BaseFont, BgSound, BlockQuote, Body, Br, Button}
use Rattle.htmd_html5_state.specs.declared.names.TagName.TheVariants.{Caption, Center, Col, ColGroup, Dd, Details, Dir}
use Rattle.htmd_html5_state.specs.declared.names.TagName.TheVariants.{Div, Dl, Dt, Embed, FieldSet, FigCaption, Figure}
use Rattle.htmd_html5_state.specs.declared.names.TagName.TheVariants.{Footer, Form, Frame, FrameSet, H1, H2, H3, H4, H5}
use Rattle.htmd_html5_state.specs.declared.names.TagName.TheVariants.{H6, Head, Header, HGroup, Hr, Html, Iframe, Img}
use Rattle.htmd_html5_state.specs.declared.names.TagName.TheVariants.{Input, KeyGen, Li, Link, Listing, Main, Marquee}
use Rattle.htmd_html5_state.specs.declared.names.TagName.TheVariants.{Menu, Meta, Nav, NoEmbed, NoFrames, NoScript}
use Rattle.htmd_html5_state.specs.declared.names.TagName.TheVariants.{Object, Ol, OptGroup, OptionTag, P, Param}
use Rattle.htmd_html5_state.specs.declared.names.TagName.TheVariants.{PlainText, Pre, Rb, Rp, Rt, Rtc, Script, Search}
use Rattle.htmd_html5_state.specs.declared.names.TagName.TheVariants.{Section, Select, Source, Style, Summary, Table}
use Rattle.htmd_html5_state.specs.declared.names.TagName.TheVariants.{TBody, Td, Template, TextArea, TFoot, Th, THead}
use Rattle.htmd_html5_state.specs.declared.names.TagName.TheVariants.{Title, Tr, Track, Ul, Wbr, Xmp}

-- ---- sets of known names

-- headings
abbrev pub is_heading : TagName → Bool
is_heading H1 = true
is_heading H2 = true
is_heading H3 = true
is_heading H4 = true
is_heading H5 = true
is_heading H6 = true
is_heading _ = false

-- elements whose end tags are implied (13.2.6.3)
abbrev pub ends_by_implication : TagName → Bool
ends_by_implication Dd = true
ends_by_implication Dt = true
ends_by_implication Li = true
ends_by_implication OptGroup = true
ends_by_implication OptionTag = true
ends_by_implication P = true
ends_by_implication Rb = true
ends_by_implication Rp = true
ends_by_implication Rt = true
ends_by_implication Rtc = true
ends_by_implication _ = false

-- elements in which a node goes to a foster parent (13.2.6.1)
abbrev pub is_fostering : TagName → Bool
is_fostering Table = true
is_fostering TBody = true
is_fostering TFoot = true
is_fostering THead = true
is_fostering Tr = true
is_fostering _ = false

-- special elements (13.2.4.2)
abbrev pub is_special : TagName → Bool
is_special Address = true
is_special Applet = true
is_special Area = true
is_special Article = true
is_special Aside = true
is_special Base = true
is_special BaseFont = true
is_special BgSound = true
is_special BlockQuote = true
is_special Body = true
is_special Br = true
is_special Button = true
is_special Caption = true
is_special Center = true
is_special Col = true
is_special ColGroup = true
is_special Dd = true
is_special Details = true
is_special Dir = true
is_special Div = true
is_special Dl = true
is_special Dt = true
is_special Embed = true
is_special FieldSet = true
is_special FigCaption = true
is_special Figure = true
is_special Footer = true
is_special Form = true
is_special Frame = true
is_special FrameSet = true
is_special H1 = true
is_special H2 = true
is_special H3 = true
is_special H4 = true
is_special H5 = true
is_special H6 = true
is_special Head = true
is_special Header = true
is_special HGroup = true
is_special Hr = true
is_special Html = true
is_special Iframe = true
is_special Img = true
is_special Input = true
is_special KeyGen = true
is_special Li = true
is_special Link = true
is_special Listing = true
is_special Main = true
is_special Marquee = true
is_special Menu = true
is_special Meta = true
is_special Nav = true
is_special NoEmbed = true
is_special NoFrames = true
is_special NoScript = true
is_special Object = true
is_special Ol = true
is_special P = true
is_special Param = true
is_special PlainText = true
is_special Pre = true
is_special Script = true
is_special Search = true
is_special Section = true
is_special Select = true
is_special Source = true
is_special Style = true
is_special Summary = true
is_special Table = true
is_special TBody = true
is_special Td = true
is_special Template = true
is_special TextArea = true
is_special TFoot = true
is_special Th = true
is_special THead = true
is_special Title = true
is_special Tr = true
is_special Track = true
is_special Ul = true
is_special Wbr = true
is_special Xmp = true
is_special _ = false

-- elements that end a scope (13.2.4.2)
abbrev pub bounds_scope : TagName → Bool
bounds_scope Applet = true
bounds_scope Caption = true
bounds_scope Html = true
bounds_scope Marquee = true
bounds_scope Object = true
bounds_scope Table = true
bounds_scope Td = true
bounds_scope Template = true
bounds_scope Th = true
bounds_scope _ = false

abbrev pub is_description_part : TagName → Bool
is_description_part Dd = true
is_description_part Dt = true
is_description_part _ = false

abbrev pub is_cell : TagName → Bool
is_cell Td = true
is_cell Th = true
is_cell _ = false

abbrev pub is_table_section : TagName → Bool
is_table_section TBody = true
is_table_section TFoot = true
is_table_section THead = true
is_table_section _ = false

abbrev pub is_option : TagName → Bool
is_option OptGroup = true
is_option OptionTag = true
is_option _ = false

-- the bounds of a table's scope, too
abbrev pub is_table_context : TagName → Bool
is_table_context Html = true
is_table_context Table = true
is_table_context Template = true
is_table_context _ = false

abbrev pub is_table_body_context : TagName → Bool
is_table_body_context Html = true
is_table_body_context Template = true
is_table_body_context tag = is_table_section tag

abbrev pub is_table_row_context : TagName → Bool
is_table_row_context Html = true
is_table_row_context Template = true
is_table_row_context Tr = true
is_table_row_context _ = false

-- what a start tag of `rp` or `rt` ends by implication
abbrev pub ends_in_ruby : TagName → Bool
ends_in_ruby Rtc = false
ends_in_ruby tag = ends_by_implication tag

abbrev pub has : NameSet → TagName → Bool
has (Only tag) = same_tag tag
has Headings = is_heading
has DescriptionParts = is_description_part
has Cells = is_cell
has TableSections = is_table_section
has Options = is_option
has ImpliedEnd = ends_by_implication
has ImpliedEndInRuby = ends_in_ruby
has Fostering = is_fostering
has TableContext = is_table_context
has TableBodyContext = is_table_body_context
has TableRowContext = is_table_row_context

-- the name is in the set; no name of foreign content is
abbrev pub is_of : NameSet → ElementNameValue → Bool
is_of set (html (known tag)) = has set tag
is_of set (html (other s)) = false
is_of set (svg s) = false
is_of set (math s) = false

-- ---- foreign content (13.2.6)

-- MathML text integration points
abbrev pub is_math_text : List ℕ → Bool
is_math_text s = is_among (codes "mi" ∷ codes "mo" ∷ codes "mn" ∷ codes "ms" ∷ codes "mtext" ∷ []) s

-- HTML integration points of SVG
abbrev pub is_svg_point : List ℕ → Bool
is_svg_point s = is_among (codes "foreignObject" ∷ codes "desc" ∷ codes "title" ∷ []) s

-- ---- scopes

abbrev pub bounds_list_item : TagName → Bool
bounds_list_item Ol = true
bounds_list_item Ul = true
bounds_list_item tag = bounds_scope tag

abbrev pub bounds_button : TagName → Bool
bounds_button Button = true
bounds_button tag = bounds_scope tag

-- what stops the walk that a start tag of `li`, or of `dd` or `dt`, begins
abbrev pub stops_items : TagName → Bool
stops_items Address = false
stops_items Div = false
stops_items P = false
stops_items tag = is_special tag

abbrev pub is_template : TagName → Bool
is_template Template = true
is_template _ = false

abbrev pub bounds_known : Scope → TagName → Bool
bounds_known Default tag = bounds_scope tag
bounds_known ListItem tag = bounds_list_item tag
bounds_known ButtonScope tag = bounds_button tag
bounds_known TableScope tag = is_table_context tag
bounds_known Select tag = not (is_option tag)
bounds_known TemplateScope tag = is_template tag
bounds_known Special tag = is_special tag
bounds_known Items tag = stops_items tag

abbrev pub has_foreign_bounds : Scope → Bool
has_foreign_bounds TableScope = false
has_foreign_bounds TemplateScope = false
has_foreign_bounds _ = true

-- all names but those of options bound the scope of a `select`
abbrev pub is_select : Scope → Bool
is_select Select = true
is_select _ = false

abbrev pub is_math_bound : List ℕ → Bool
is_math_bound s = is_math_text s || bytes_eq s (codes "annotation-xml")

-- an element with this name bounds the scope
abbrev pub bounds : Scope → ElementNameValue → Bool
bounds scope (html (known tag)) = bounds_known scope tag
bounds scope (html (other s)) = is_select scope
bounds scope (svg s) = is_select scope || (has_foreign_bounds scope && is_svg_point s)
bounds scope (math s) = is_select scope || (has_foreign_bounds scope && is_math_bound s)
