-- How the tag with a text is found: among those that begin like it. Private functions alone are said by it.
use Rattle.std.specs.Prelude.{ℕ, ◌==◌, if◌then◌else◌, List, [], ◌∷◌, Option, None, Some}
use Rattle.std.specs.Str.{bytes_eq}
use Rattle.htmd_nodes.specs.declared.tag.Tag.{Tag}
use Rattle.htmd_nodes.specs.declared.tag.Tag.TheVariants as tag
use Rattle.htmd_nodes.specs.Tags.{tag_text}

-- the first of these tags with this text
abbrev pub one_of : List Tag → List ℕ → Option Tag
one_of [] text = None
one_of (t ∷ ts) text = if bytes_eq text (tag_text t) then Some t else one_of ts text

unfoldable pub a_tags : List Tag
a_tags =
    tag.A ∷ tag.Abbr ∷ tag.Address ∷ tag.Annotation ∷ tag.AnnotationXml ∷ tag.Area ∷ tag.Article ∷
    tag.Aside ∷ tag.Audio ∷ []

unfoldable pub b_tags : List Tag
b_tags =
    tag.B ∷ tag.Base ∷ tag.Basefont ∷ tag.Bdi ∷ tag.Bdo ∷ tag.Bgsound ∷ tag.Blockquote ∷ tag.Body ∷
    tag.Br ∷ tag.Button ∷ []

unfoldable pub c_tags : List Tag
c_tags = tag.Canvas ∷ tag.Caption ∷ tag.Center ∷ tag.Cite ∷ tag.Code ∷ tag.Col ∷ tag.Colgroup ∷ []

unfoldable pub d_tags : List Tag
d_tags =
    tag.Datalist ∷ tag.Dd ∷ tag.Del ∷ tag.Details ∷ tag.Dfn ∷ tag.Dialog ∷ tag.Dir ∷ tag.Div ∷
    tag.Dl ∷ tag.Dt ∷ []

unfoldable pub e_tags : List Tag
e_tags = tag.Em ∷ tag.Embed ∷ []

unfoldable pub f_tags : List Tag
f_tags =
    tag.Fieldset ∷ tag.Figcaption ∷ tag.Figure ∷ tag.Font ∷ tag.Footer ∷ tag.Form ∷ tag.Frame ∷
    tag.Frameset ∷ []

unfoldable pub h_tags : List Tag
h_tags =
    tag.H1 ∷ tag.H2 ∷ tag.H3 ∷ tag.H4 ∷ tag.H5 ∷ tag.H6 ∷ tag.Head ∷ tag.Header ∷ tag.Hgroup ∷
    tag.Hr ∷ tag.Html ∷ []

unfoldable pub i_tags : List Tag
i_tags = tag.I ∷ tag.Iframe ∷ tag.Image ∷ tag.Img ∷ tag.Input ∷ tag.Ins ∷ []

unfoldable pub k_tags : List Tag
k_tags = tag.Kbd ∷ tag.Keygen ∷ []

unfoldable pub l_tags : List Tag
l_tags = tag.Label ∷ tag.Legend ∷ tag.Li ∷ tag.Link ∷ tag.Listing ∷ []

unfoldable pub m_tags : List Tag
m_tags =
    tag.Main ∷ tag.Map ∷ tag.Mark ∷ tag.Math ∷ tag.Menu ∷ tag.Menuitem ∷ tag.Meta ∷ tag.Meter ∷
    tag.Mi ∷ tag.Mn ∷ tag.Mo ∷ tag.Mrow ∷ tag.Msub ∷ tag.Msubsup ∷ tag.Msup ∷ tag.Mtext ∷ []

unfoldable pub n_tags : List Tag
n_tags = tag.Nav ∷ tag.Nobr ∷ tag.Noembed ∷ tag.Noframes ∷ tag.Noscript ∷ []

unfoldable pub o_tags : List Tag
o_tags = tag.Object ∷ tag.Ol ∷ tag.Optgroup ∷ tag.Option ∷ []

unfoldable pub p_tags : List Tag
p_tags = tag.P ∷ tag.Param ∷ tag.Path ∷ tag.Picture ∷ tag.Plaintext ∷ tag.Pre ∷ []

unfoldable pub q_tags : List Tag
q_tags = tag.Q ∷ []

unfoldable pub r_tags : List Tag
r_tags = tag.Rp ∷ tag.Rt ∷ tag.Ruby ∷ []

unfoldable pub s_tags : List Tag
s_tags =
    tag.S ∷ tag.Samp ∷ tag.Script ∷ tag.Search ∷ tag.Section ∷ tag.Select ∷ tag.Semantics ∷
    tag.Small ∷ tag.Source ∷ tag.Span ∷ tag.Strike ∷ tag.Strong ∷ tag.Style ∷ tag.Sub ∷ tag.Summary ∷
    tag.Sup ∷ tag.Svg ∷ []

unfoldable pub t_tags : List Tag
t_tags =
    tag.Table ∷ tag.Tbody ∷ tag.Td ∷ tag.Template ∷ tag.Textarea ∷ tag.Tfoot ∷ tag.Th ∷ tag.Thead ∷
    tag.Time ∷ tag.Title ∷ tag.Tr ∷ tag.Track ∷ tag.Tt ∷ []

unfoldable pub u_tags : List Tag
u_tags = tag.U ∷ tag.Ul ∷ []

unfoldable pub v_tags : List Tag
v_tags = tag.Var ∷ tag.Video ∷ []

unfoldable pub w_tags : List Tag
w_tags = tag.Wbr ∷ []

unfoldable pub x_tags : List Tag
x_tags = tag.Xmp ∷ []

-- a text that begins with this byte
unfoldable pub tag_beginning : ℕ → List ℕ → Option Tag
tag_beginning first text =
    if first == 97 then one_of a_tags text
    else if first == 98 then one_of b_tags text
    else if first == 99 then one_of c_tags text
    else if first == 100 then one_of d_tags text
    else if first == 101 then one_of e_tags text
    else if first == 102 then one_of f_tags text
    else if first == 104 then one_of h_tags text
    else if first == 105 then one_of i_tags text
    else if first == 107 then one_of k_tags text
    else if first == 108 then one_of l_tags text
    else if first == 109 then one_of m_tags text
    else if first == 110 then one_of n_tags text
    else if first == 111 then one_of o_tags text
    else if first == 112 then one_of p_tags text
    else if first == 113 then one_of q_tags text
    else if first == 114 then one_of r_tags text
    else if first == 115 then one_of s_tags text
    else if first == 116 then one_of t_tags text
    else if first == 117 then one_of u_tags text
    else if first == 118 then one_of v_tags text
    else if first == 119 then one_of w_tags text
    else if first == 120 then one_of x_tags text
    else None

unfoldable pub tag_of : List ℕ → Option Tag
tag_of [] = None
tag_of (first ∷ rest) = tag_beginning first (first ∷ rest)
