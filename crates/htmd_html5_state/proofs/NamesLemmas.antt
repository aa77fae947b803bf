-- Names and how they are spelled.
use Rattle.std.proofs.Common.{◌≡◌, ℕ, List, Some, refl, sym, ap, ◌∙◌, length}
use Rattle.std.proofs.lemmas.Slice.Eq.{HasBytesAt, text_from_reads}
use Rattle.htmd_html5_state.specs.Names.{spelling, known_name}
use Rattle.htmd_html5_state.specs.declared.names.TagName.{TagName}
use Rattle.htmd_html5_state.specs.declared.names.TagName.TheVariants.{A, Address, Applet, Area, Article, Aside, B, Base}
use Rattle.htmd_html5_state.specs.declared.names.TagName.TheVariants.{BaseFont, BgSound, Big, BlockQuote, Body, Br}
use Rattle.htmd_html5_state.specs.declared.names.TagName.TheVariants.{Button, Caption, Center, Code, Col, ColGroup, Dd}
use Rattle.htmd_html5_state.specs.declared.names.TagName.TheVariants.{Details, Dialog, Dir, Div, Dl, Dt, Em, Embed}
use Rattle.htmd_html5_state.specs.declared.names.TagName.TheVariants.{FieldSet, FigCaption, Figure, Font, Footer, Form}
use Rattle.htmd_html5_state.specs.declared.names.TagName.TheVariants.{Frame, FrameSet, H1, H2, H3, H4, H5, H6, Head}
use Rattle.htmd_html5_state.specs.declared.names.TagName.TheVariants.{Header, HGroup, Hr, Html, I, Iframe, Image, Img}
use Rattle.htmd_html5_state.specs.declared.names.TagName.TheVariants.{Input, KeyGen, Li, Link, Listing, Main}
use Rattle.htmd_html5_state.specs.declared.names.TagName.TheVariants.{MalignMark, Marquee, Math, Menu, Meta, MGlyph}
use Rattle.htmd_html5_state.specs.declared.names.TagName.TheVariants.{Nav, NoBr, NoEmbed, NoFrames, NoScript, Object}
use Rattle.htmd_html5_state.specs.declared.names.TagName.TheVariants.{Ol, OptGroup, OptionTag, P, Param, PlainText, Pre}
use Rattle.htmd_html5_state.specs.declared.names.TagName.TheVariants.{Rb, Rp, Rt, Rtc, Ruby, S, Script, Search, Section}
use Rattle.htmd_html5_state.specs.declared.names.TagName.TheVariants.{Select, Small, Source, Span, Strike, Strong}
use Rattle.htmd_html5_state.specs.declared.names.TagName.TheVariants.{Style, Sub, Summary, Sup, Svg, Table, TBody, Td}
use Rattle.htmd_html5_state.specs.declared.names.TagName.TheVariants.{Template, TextArea, TFoot, Th, THead, Title, Tr}
use Rattle.htmd_html5_state.specs.declared.names.TagName.TheVariants.{Track, Tt, U, Ul, Var, Wbr, Xmp}

-- each name is found by its spelling
pub known_name-spelling : (tag : TagName) → known_name (spelling tag) ≡ Some tag
known_name-spelling A = refl
known_name-spelling Address = refl
known_name-spelling Applet = refl
known_name-spelling Area = refl
known_name-spelling Article = refl
known_name-spelling Aside = refl
known_name-spelling B = refl
known_name-spelling Base = refl
known_name-spelling BaseFont = refl
known_name-spelling BgSound = refl
known_name-spelling Big = refl
known_name-spelling BlockQuote = refl
known_name-spelling Body = refl
known_name-spelling Br = refl
known_name-spelling Button = refl
known_name-spelling Caption = refl
known_name-spelling Center = refl
known_name-spelling Code = refl
known_name-spelling Col = refl
known_name-spelling ColGroup = refl
known_name-spelling Dd = refl
known_name-spelling Details = refl
known_name-spelling Dialog = refl
known_name-spelling Dir = refl
known_name-spelling Div = refl
known_name-spelling Dl = refl
known_name-spelling Dt = refl
known_name-spelling Em = refl
known_name-spelling Embed = refl
known_name-spelling FieldSet = refl
known_name-spelling FigCaption = refl
known_name-spelling Figure = refl
known_name-spelling Font = refl
known_name-spelling Footer = refl
known_name-spelling Form = refl
known_name-spelling Frame = refl
known_name-spelling FrameSet = refl
known_name-spelling H1 = refl
known_name-spelling H2 = refl
known_name-spelling H3 = refl
known_name-spelling H4 = refl
known_name-spelling H5 = refl
known_name-spelling H6 = refl
known_name-spelling Head = refl
known_name-spelling Header = refl
known_name-spelling HGroup = refl
known_name-spelling Hr = refl
known_name-spelling Html = refl
known_name-spelling I = refl
known_name-spelling Iframe = refl
known_name-spelling Image = refl
known_name-spelling Img = refl
known_name-spelling Input = refl
known_name-spelling KeyGen = refl
known_name-spelling Li = refl
known_name-spelling Link = refl
known_name-spelling Listing = refl
known_name-spelling Main = refl
known_name-spelling MalignMark = refl
known_name-spelling Marquee = refl
known_name-spelling Math = refl
known_name-spelling Menu = refl
known_name-spelling Meta = refl
known_name-spelling MGlyph = refl
known_name-spelling Nav = refl
known_name-spelling NoBr = refl
known_name-spelling NoEmbed = refl
known_name-spelling NoFrames = refl
known_name-spelling NoScript = refl
known_name-spelling Object = refl
known_name-spelling Ol = refl
known_name-spelling OptGroup = refl
known_name-spelling OptionTag = refl
known_name-spelling P = refl
known_name-spelling Param = refl
known_name-spelling PlainText = refl
known_name-spelling Pre = refl
known_name-spelling Rb = refl
known_name-spelling Rp = refl
known_name-spelling Rt = refl
known_name-spelling Rtc = refl
known_name-spelling Ruby = refl
known_name-spelling S = refl
known_name-spelling Script = refl
known_name-spelling Search = refl
known_name-spelling Section = refl
known_name-spelling Select = refl
known_name-spelling Small = refl
known_name-spelling Source = refl
known_name-spelling Span = refl
known_name-spelling Strike = refl
known_name-spelling Strong = refl
known_name-spelling Style = refl
known_name-spelling Sub = refl
known_name-spelling Summary = refl
known_name-spelling Sup = refl
known_name-spelling Svg = refl
known_name-spelling Table = refl
known_name-spelling TBody = refl
known_name-spelling Td = refl
known_name-spelling Template = refl
known_name-spelling TextArea = refl
known_name-spelling TFoot = refl
known_name-spelling Th = refl
known_name-spelling THead = refl
known_name-spelling Title = refl
known_name-spelling Tr = refl
known_name-spelling Track = refl
known_name-spelling Tt = refl
known_name-spelling U = refl
known_name-spelling Ul = refl
known_name-spelling Var = refl
known_name-spelling Wbr = refl
known_name-spelling Xmp = refl

-- a text with the bytes of a spelling
pub spelled_so : (tag : TagName) (s : List ℕ) → length s ≡ length (spelling tag) → HasBytesAt s 0 (spelling tag)
    → known_name s ≡ Some tag
spelled_so tag s l h = ap known_name (text_from_reads s (spelling tag) l h) ∙ known_name-spelling tag

pub same_spelling : (t u : TagName) → spelling t ≡ spelling u → t ≡ u
same_spelling t u e = some_same (sym (known_name-spelling t) ∙ (ap known_name e ∙ known_name-spelling u))
  where
    some_same : {t u : TagName} → Some t ≡ Some u → t ≡ u
    some_same e = cc
