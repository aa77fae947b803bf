-- The names of elements: of HTML those that a rule mentions, and all others; and those of foreign content.
use Rattle.std.specs.Prelude.{ℕ, Bool, false, ◌==◌, if◌then◌else◌, List, [], ◌∷◌, codes, string_bytes, Option}
use Rattle.std.specs.Prelude.{Some, None, find}
use Rattle.std.specs.Str.{bytes_eq}
use Rattle.htmd_html5_state.specs.declared.names.HtmlName.{HtmlName}
use Rattle.htmd_html5_state.specs.declared.names.HtmlName.TheVariants.{Known, Other}
use Rattle.htmd_html5_state.specs.declared.names.ElementName.{ElementName}
use Rattle.htmd_html5_state.specs.declared.names.ElementName.TheVariants.{Html as HtmlElement, Svg as SvgElement}
use Rattle.htmd_html5_state.specs.declared.names.ElementName.TheVariants.{Math as MathElement}
use Rattle.htmd_html5_state.specs.declared.names.TagName.{TagName}
use Rattle.htmd_html5_state.specs.declared.names.TagName.TheVariants.{A, Address, Applet, Area, Article, Aside, B, Base}
use Rattle.htmd_html5_state.specs.declared.names.TagName.TheVariants.{BaseFont, BgSound, Big, BlockQuote, Body, Br}
use Rattle.htmd_html5_state.specs.declared.names.TagName.TheVariants.{Button, Caption, Center, Code, Col, ColGroup, Dd}
use Rattle.htmd_html5_state.specs.declared.names.TagName.TheVariants.{Details, Dialog, Dir, Div, Dl, Dt, Em, Embed}
use Rattle.htmd_html5_state.specs.declared.names.TagName.TheVariants.{FieldSet, FigCaption, Figure, Font, Footer, Form}
use Rattle.htmd_html5_state.specs.declared.names.TagName.TheVariants.{Frame, FrameSet, H1, H2, H3, H4, H5, H6, Head}
use Rattle.htmd_html5_state.specs.declared.names.TagName.TheVariants.{Header, HGroup, Hr, Html, I, Iframe, Image, Img}
use Rattle.htmd_html5_state.specs.declared.names.TagName.TheVariants.{Input, KeyGen, Li, Link, Listing, Main}
use Rattle.htmd_html5_state.specs.declared.names.TagName.TheVariants.{MalignMark, Marquee, Math, Menu, Meta, MGlyph}
use Rattle.htmd_html5_state.specs.declared.names.TagName.TheVariants.{Nav, NoBr, NoEmbed, NoFrames, NoScript, Object}
use Rattle.htmd_html5_state.specs.declared.names.TagName.TheVariants.{Ol, OptGroup, OptionTag, P, Param, PlainText, Pre}
use Rattle.htmd_html5_state.specs.declared.names.TagName.TheVariants.{Rb, Rp, Rt, Rtc, Ruby, S, Script, Search, Section}
use Rattle.htmd_html5_state.specs.declared.names.TagName.TheVariants.{Select, Small, Source, Span, Strike, Strong}
use Rattle.htmd_html5_state.specs.declared.names.TagName.TheVariants.{Style, Sub, Summary, Sup, Svg, Table, TBody, Td}
use Rattle.htmd_html5_state.specs.declared.names.TagName.TheVariants.{Template, TextArea, TFoot, Th, THead, Title, Tr}
use Rattle.htmd_html5_state.specs.declared.names.TagName.TheVariants.{Track, Tt, U, Ul, Var, Wbr, Xmp}

-- a name of HTML
pub data NameValue : Type 0 where
  known : TagName → NameValue
  other : List ℕ → NameValue

-- the name of an element, with its namespace
pub data ElementNameValue : Type 0 where
  html : NameValue → ElementNameValue
  svg : List ℕ → ElementNameValue
  math : List ℕ → ElementNameValue

-- ---- how they are spelled

abbrev pub spelling : TagName → List ℕ
spelling A = codes "a"
spelling Address = codes "address"
spelling Applet = codes "applet"
spelling Area = codes "area"
spelling Article = codes "article"
spelling Aside = codes "aside"
spelling B = codes "b"
spelling Base = codes "base"
spelling BaseFont = codes "basefont"
spelling BgSound = codes "bgsound"
spelling Big = codes "big"
spelling BlockQuote = codes "blockquote"
spelling Body = codes "body"
spelling Br = codes "br"
spelling Button = codes "button"
spelling Caption = codes "caption"
spelling Center = codes "center"
spelling Code = codes "code"
spelling Col = codes "col"
spelling ColGroup = codes "colgroup"
spelling Dd = codes "dd"
spelling Details = codes "details"
spelling Dialog = codes "dialog"
spelling Dir = codes "dir"
spelling Div = codes "div"
spelling Dl = codes "dl"
spelling Dt = codes "dt"
spelling Em = codes "em"
spelling Embed = codes "embed"
spelling FieldSet = codes "fieldset"
spelling FigCaption = codes "figcaption"
spelling Figure = codes "figure"
spelling Font = codes "font"
spelling Footer = codes "footer"
spelling Form = codes "form"
spelling Frame = codes "frame"
spelling FrameSet = codes "frameset"
spelling H1 = codes "h1"
spelling H2 = codes "h2"
spelling H3 = codes "h3"
spelling H4 = codes "h4"
spelling H5 = codes "h5"
spelling H6 = codes "h6"
spelling Head = codes "head"
spelling Header = codes "header"
spelling HGroup = codes "hgroup"
spelling Hr = codes "hr"
spelling Html = codes "html"
spelling I = codes "i"
spelling Iframe = codes "iframe"
spelling Image = codes "image"
spelling Img = codes "img"
spelling Input = codes "input"
spelling KeyGen = codes "keygen"
spelling Li = codes "li"
spelling Link = codes "link"
spelling Listing = codes "listing"
spelling Main = codes "main"
spelling MalignMark = codes "malignmark"
spelling Marquee = codes "marquee"
spelling Math = codes "math"
spelling Menu = codes "menu"
spelling Meta = codes "meta"
spelling MGlyph = codes "mglyph"
spelling Nav = codes "nav"
spelling NoBr = codes "nobr"
spelling NoEmbed = codes "noembed"
spelling NoFrames = codes "noframes"
spelling NoScript = codes "noscript"
spelling Object = codes "object"
spelling Ol = codes "ol"
spelling OptGroup = codes "optgroup"
spelling OptionTag = codes "option"
spelling P = codes "p"
spelling Param = codes "param"
spelling PlainText = codes "plaintext"
spelling Pre = codes "pre"
spelling Rb = codes "rb"
spelling Rp = codes "rp"
spelling Rt = codes "rt"
spelling Rtc = codes "rtc"
spelling Ruby = codes "ruby"
spelling S = codes "s"
spelling Script = codes "script"
spelling Search = codes "search"
spelling Section = codes "section"
spelling Select = codes "select"
spelling Small = codes "small"
spelling Source = codes "source"
spelling Span = codes "span"
spelling Strike = codes "strike"
spelling Strong = codes "strong"
spelling Style = codes "style"
spelling Sub = codes "sub"
spelling Summary = codes "summary"
spelling Sup = codes "sup"
spelling Svg = codes "svg"
spelling Table = codes "table"
spelling TBody = codes "tbody"
spelling Td = codes "td"
spelling Template = codes "template"
spelling TextArea = codes "textarea"
spelling TFoot = codes "tfoot"
spelling Th = codes "th"
spelling THead = codes "thead"
spelling Title = codes "title"
spelling Tr = codes "tr"
spelling Track = codes "track"
spelling Tt = codes "tt"
spelling U = codes "u"
spelling Ul = codes "ul"
spelling Var = codes "var"
spelling Wbr = codes "wbr"
spelling Xmp = codes "xmp"

abbrev pub text_of_name : NameValue → List ℕ
text_of_name (known tag) = spelling tag
text_of_name (other s) = s

-- the name without its namespace, as it stands in the tree
abbrev pub text_of_element_name : ElementNameValue → List ℕ
text_of_element_name (html name) = text_of_name name
text_of_element_name (svg s) = s
text_of_element_name (math s) = s

-- the known names that begin with this letter
abbrev pub names_with : ℕ → List TagName
names_with b =
    if b == 97 then A ∷ Address ∷ Applet ∷ Area ∷ Article ∷ Aside ∷ []
    else
    if b == 98 then B ∷ Base ∷ BaseFont ∷ BgSound ∷ Big ∷ BlockQuote ∷ Body ∷ Br ∷ Button ∷ []
    else
    if b == 99 then Caption ∷ Center ∷ Code ∷ Col ∷ ColGroup ∷ []
    else
    if b == 100 then Dd ∷ Details ∷ Dialog ∷ Dir ∷ Div ∷ Dl ∷ Dt ∷ []
    else
    if b == 101 then Em ∷ Embed ∷ []
    else
    if b == 102 then FieldSet ∷ FigCaption ∷ Figure ∷ Font ∷ Footer ∷ Form ∷ Frame ∷ FrameSet ∷ []
    else
    if b == 104 then H1 ∷ H2 ∷ H3 ∷ H4 ∷ H5 ∷ H6 ∷ Head ∷ Header ∷ HGroup ∷ Hr ∷ Html ∷ []
    else
    if b == 105 then I ∷ Iframe ∷ Image ∷ Img ∷ Input ∷ []
    else
    if b == 107 then KeyGen ∷ []
    else
    if b == 108 then Li ∷ Link ∷ Listing ∷ []
    else
    if b == 109 then Main ∷ MalignMark ∷ Marquee ∷ Math ∷ Menu ∷ Meta ∷ MGlyph ∷ []
    else
    if b == 110 then Nav ∷ NoBr ∷ NoEmbed ∷ NoFrames ∷ NoScript ∷ []
    else
    if b == 111 then Object ∷ Ol ∷ OptGroup ∷ OptionTag ∷ []
    else
    if b == 112 then P ∷ Param ∷ PlainText ∷ Pre ∷ []
    else
    if b == 114 then Rb ∷ Rp ∷ Rt ∷ Rtc ∷ Ruby ∷ []
    else
    if b == 115 then S ∷ Script ∷ Search ∷ Section ∷ Select ∷ Small ∷ Source ∷ Span ∷ Strike
    ∷ Strong ∷ Style ∷ Sub ∷ Summary ∷ Sup ∷ Svg ∷ []
    else
    if b == 116 then Table ∷ TBody ∷ Td ∷ Template ∷ TextArea ∷ TFoot ∷ Th ∷ THead ∷ Title ∷ Tr
    ∷ Track ∷ Tt ∷ []
    else
    if b == 117 then U ∷ Ul ∷ []
    else
    if b == 118 then Var ∷ []
    else
    if b == 119 then Wbr ∷ []
    else
    if b == 120 then Xmp ∷ []
    else []

abbrev pub is_spelled : List ℕ → TagName → Bool
is_spelled s tag = bytes_eq s (spelling tag)

abbrev pub known_or : List ℕ → Option TagName → NameValue
known_or s None = other s
known_or s (Some tag) = known tag

abbrev pub known_name : List ℕ → Option TagName
known_name [] = None
known_name (b ∷ s) = find (is_spelled (b ∷ s)) (names_with b)

-- the name that is spelled like this, in lower case
abbrev pub name_of_text : List ℕ → NameValue
name_of_text s = known_or s (known_name s)

-- ---- which are equal

abbrev pub same_tag : TagName → TagName → Bool
same_tag t u = bytes_eq (spelling t) (spelling u)

abbrev pub same_name : NameValue → NameValue → Bool
same_name (known t) (known u) = same_tag t u
same_name (known t) (other v) = false
same_name (other s) (known u) = false
same_name (other s) (other v) = bytes_eq s v

abbrev pub same_element_name : ElementNameValue → ElementNameValue → Bool
same_element_name (html n) (html m) = same_name n m
same_element_name (svg s) (svg v) = bytes_eq s v
same_element_name (math s) (math v) = bytes_eq s v
same_element_name _ _ = false

abbrev pub is_tag : TagName → ElementNameValue → Bool
is_tag tag (html (known t)) = same_tag t tag
is_tag tag (html (other s)) = false
is_tag tag (svg s) = false
is_tag tag (math s) = false

-- ---- what the program's names are

abbrev pub name_of : HtmlName → NameValue
name_of (Known tag) = known tag
name_of (Other s) = other (string_bytes s)

abbrev pub element_name_of : ElementName → ElementNameValue
element_name_of (HtmlElement name) = html (name_of name)
element_name_of (SvgElement s) = svg (string_bytes s)
element_name_of (MathElement s) = math (string_bytes s)
