-- The names that a rule speaks of, by number. No public clause cites it.
use Rattle.std.specs.Prelude.{ℕ, List, [], ◌∷◌}
use Rattle.htmd_html5_state.specs.declared.names.TagName.{TagName}
use Rattle.htmd_html5_state.specs.declared.names.TagName.TheVariants.{A, Address, Applet, Area, Article, Aside, B, Base}
use Rattle.htmd_html5_state.specs.declared.names.TagName.TheVariants.{BaseFont, BgSound, Big, BlockQuote, Body, Br}
use Rattle.htmd_html5_state.specs.declared.names.TagName.TheVariants.{Button, Caption, Center, Code, Col, ColGroup, Dd}
use Rattle.htmd_html5_state.specs.declared.names.TagName.TheVariants.{Details, Dialog, Dir, Div, Dl, Dt, Em, Embed}
use Rattle.htmd_html5_state.specs.declared.names.TagName.TheVariants.{FieldSet, FigCaption, Figure, Font, Footer, Form}
use Rattle.htmd_html5_state.specs.declared.names.TagName.TheVariants.{Frame, FrameSet, H1, H2, H3, H4, H5, H6, Head}
use Rattle.htmd_html5_state.specs.declared.names.TagName.TheVariants.{Header, HGroup, Hr, Html, I, Iframe, Image, Img}
use Rattle.htmd_html5_state.specs.declared.names.TagName.TheVariants.{Input, KeyGen, Li, Link, Listing, Main}
use Rattle.htmd_html5_state.specs.declared.names.TagName.TheVariants.{MalignMark, Marquee, Math, Menu, Meta, MGlyph}
use Rattle.htmd_html5_state.specs.declared.names.TagName.TheVariants.{Nav, NoBr, NoEmbed, NoFrames, NoScript, Object}
use Rattle.htmd_html5_state.specs.declared.names.TagName.TheVariants.{Ol, OptGroup, OptionTag, P, Param, PlainText, Pre}
use Rattle.htmd_html5_state.specs.declared.names.TagName.TheVariants.{Rb, Rp, Rt, Rtc, Ruby, S, Script, Search, Section}
use Rattle.htmd_html5_state.specs.declared.names.TagName.TheVariants.{Select, Small, Source, Span, Strike, Strong}
use Rattle.htmd_html5_state.specs.declared.names.TagName.TheVariants.{Style, Sub, Summary, Sup, Svg, Table, TBody, Td}
use Rattle.htmd_html5_state.specs.declared.names.TagName.TheVariants.{Template, TextArea, TFoot, Th, THead, Title, Tr}
use Rattle.htmd_html5_state.specs.declared.names.TagName.TheVariants.{Track, Tt, U, Ul, Var, Wbr, Xmp}

abbrev pub number : TagName → ℕ
number A = 0
number Address = 1
number Applet = 2
number Area = 3
number Article = 4
number Aside = 5
number B = 6
number Base = 7
number BaseFont = 8
number BgSound = 9
number Big = 10
number BlockQuote = 11
number Body = 12
number Br = 13
number Button = 14
number Caption = 15
number Center = 16
number Code = 17
number Col = 18
number ColGroup = 19
number Dd = 20
number Details = 21
number Dialog = 22
number Dir = 23
number Div = 24
number Dl = 25
number Dt = 26
number Em = 27
number Embed = 28
number FieldSet = 29
number FigCaption = 30
number Figure = 31
number Font = 32
number Footer = 33
number Form = 34
number Frame = 35
number FrameSet = 36
number H1 = 37
number H2 = 38
number H3 = 39
number H4 = 40
number H5 = 41
number H6 = 42
number Head = 43
number Header = 44
number HGroup = 45
number Hr = 46
number Html = 47
number I = 48
number Iframe = 49
number Image = 50
number Img = 51
number Input = 52
number KeyGen = 53
number Li = 54
number Link = 55
number Listing = 56
number Main = 57
number MalignMark = 58
number Marquee = 59
number Math = 60
number Menu = 61
number Meta = 62
number MGlyph = 63
number Nav = 64
number NoBr = 65
number NoEmbed = 66
number NoFrames = 67
number NoScript = 68
number Object = 69
number Ol = 70
number OptGroup = 71
number OptionTag = 72
number P = 73
number Param = 74
number PlainText = 75
number Pre = 76
number Rb = 77
number Rp = 78
number Rt = 79
number Rtc = 80
number Ruby = 81
number S = 82
number Script = 83
number Search = 84
number Section = 85
number Select = 86
number Small = 87
number Source = 88
number Span = 89
number Strike = 90
number Strong = 91
number Style = 92
number Sub = 93
number Summary = 94
number Sup = 95
number Svg = 96
number Table = 97
number TBody = 98
number Td = 99
number Template = 100
number TextArea = 101
number TFoot = 102
number Th = 103
number THead = 104
number Title = 105
number Tr = 106
number Track = 107
number Tt = 108
number U = 109
number Ul = 110
number Var = 111
number Wbr = 112
number Xmp = 113

-- all of them
abbrev pub tags : List TagName
tags =
    A ∷ Address ∷ Applet ∷ Area ∷ Article ∷ Aside ∷ B ∷ Base ∷ BaseFont ∷ BgSound ∷ Big ∷
    BlockQuote ∷ Body ∷ Br ∷ Button ∷ Caption ∷ Center ∷ Code ∷ Col ∷ ColGroup ∷ Dd ∷ Details ∷
    Dialog ∷ Dir ∷ Div ∷ Dl ∷ Dt ∷ Em ∷ Embed ∷ FieldSet ∷ FigCaption ∷ Figure ∷ Font ∷
    Footer ∷ Form ∷ Frame ∷ FrameSet ∷ H1 ∷ H2 ∷ H3 ∷ H4 ∷ H5 ∷ H6 ∷ Head ∷ Header ∷ HGroup ∷
    Hr ∷ Html ∷ I ∷ Iframe ∷ Image ∷ Img ∷ Input ∷ KeyGen ∷ Li ∷ Link ∷ Listing ∷ Main ∷
    MalignMark ∷ Marquee ∷ Math ∷ Menu ∷ Meta ∷ MGlyph ∷ Nav ∷ NoBr ∷ NoEmbed ∷ NoFrames ∷
    NoScript ∷ Object ∷ Ol ∷ OptGroup ∷ OptionTag ∷ P ∷ Param ∷ PlainText ∷ Pre ∷ Rb ∷ Rp ∷
    Rt ∷ Rtc ∷ Ruby ∷ S ∷ Script ∷ Search ∷ Section ∷ Select ∷ Small ∷ Source ∷ Span ∷ Strike ∷
    Strong ∷ Style ∷ Sub ∷ Summary ∷ Sup ∷ Svg ∷ Table ∷ TBody ∷ Td ∷ Template ∷ TextArea ∷
    TFoot ∷ Th ∷ THead ∷ Title ∷ Tr ∷ Track ∷ Tt ∷ U ∷ Ul ∷ Var ∷ Wbr ∷ Xmp ∷ []
