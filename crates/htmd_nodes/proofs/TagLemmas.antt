-- Each tag is found by its text.
use denote.Enum.Bare.{sameb, same_true, same_false}
use Rattle.std.proofs.Common.{◌≡◌, ℕ, List, Option, None, Some, IfNone, true, refl, sym, ap, ◌∙◌, bytes_eq}
use Rattle.htmd_lexical.proofs.BytesLemmas.{same_bytes, bytes_same}
use Rattle.htmd_lexical.proofs.Cases.{test}
use Rattle.htmd_nodes.specs.contracts.tag.Tag.{the_type}
use Rattle.htmd_nodes.specs.declared.tag.Tag.{Tag}
use Rattle.htmd_nodes.specs.declared.tag.Tag.TheVariants as tag
use Rattle.htmd_nodes.specs.Tags.{tag_text, HasNoTag}
use Rattle.htmd_nodes.specs.TagLookup.{tag_of, tag_beginning, a_tags, b_tags, c_tags, d_tags, e_tags, f_tags, h_tags}
use Rattle.htmd_nodes.specs.TagLookup.{i_tags, k_tags, l_tags, m_tags, n_tags, o_tags, p_tags, q_tags, r_tags, s_tags}
use Rattle.htmd_nodes.specs.TagLookup.{t_tags, u_tags, v_tags, w_tags, x_tags}

found : (t : Tag) → tag_of (tag_text t) ≡ Some t
unfolding tag_of tag_beginning a_tags b_tags c_tags d_tags e_tags f_tags h_tags i_tags k_tags l_tags m_tags n_tags
    o_tags p_tags q_tags r_tags s_tags t_tags u_tags v_tags w_tags x_tags
found tag.A = refl
found tag.Abbr = refl
found tag.Address = refl
found tag.Annotation = refl
found tag.AnnotationXml = refl
found tag.Area = refl
found tag.Article = refl
found tag.Aside = refl
found tag.Audio = refl
found tag.B = refl
found tag.Base = refl
found tag.Basefont = refl
found tag.Bdi = refl
found tag.Bdo = refl
found tag.Bgsound = refl
found tag.Blockquote = refl
found tag.Body = refl
found tag.Br = refl
found tag.Button = refl
found tag.Canvas = refl
found tag.Caption = refl
found tag.Center = refl
found tag.Cite = refl
found tag.Code = refl
found tag.Col = refl
found tag.Colgroup = refl
found tag.Datalist = refl
found tag.Dd = refl
found tag.Del = refl
found tag.Details = refl
found tag.Dfn = refl
found tag.Dialog = refl
found tag.Dir = refl
found tag.Div = refl
found tag.Dl = refl
found tag.Dt = refl
found tag.Em = refl
found tag.Embed = refl
found tag.Fieldset = refl
found tag.Figcaption = refl
found tag.Figure = refl
found tag.Font = refl
found tag.Footer = refl
found tag.Form = refl
found tag.Frame = refl
found tag.Frameset = refl
found tag.H1 = refl
found tag.H2 = refl
found tag.H3 = refl
found tag.H4 = refl
found tag.H5 = refl
found tag.H6 = refl
found tag.Head = refl
found tag.Header = refl
found tag.Hgroup = refl
found tag.Hr = refl
found tag.Html = refl
found tag.I = refl
found tag.Iframe = refl
found tag.Image = refl
found tag.Img = refl
found tag.Input = refl
found tag.Ins = refl
found tag.Kbd = refl
found tag.Keygen = refl
found tag.Label = refl
found tag.Legend = refl
found tag.Li = refl
found tag.Link = refl
found tag.Listing = refl
found tag.Main = refl
found tag.Map = refl
found tag.Mark = refl
found tag.Math = refl
found tag.Menu = refl
found tag.Menuitem = refl
found tag.Meta = refl
found tag.Meter = refl
found tag.Mi = refl
found tag.Mn = refl
found tag.Mo = refl
found tag.Mrow = refl
found tag.Msub = refl
found tag.Msubsup = refl
found tag.Msup = refl
found tag.Mtext = refl
found tag.Nav = refl
found tag.Nobr = refl
found tag.Noembed = refl
found tag.Noframes = refl
found tag.Noscript = refl
found tag.Object = refl
found tag.Ol = refl
found tag.Optgroup = refl
found tag.Option = refl
found tag.P = refl
found tag.Param = refl
found tag.Path = refl
found tag.Picture = refl
found tag.Plaintext = refl
found tag.Pre = refl
found tag.Q = refl
found tag.Rp = refl
found tag.Rt = refl
found tag.Ruby = refl
found tag.S = refl
found tag.Samp = refl
found tag.Script = refl
found tag.Search = refl
found tag.Section = refl
found tag.Select = refl
found tag.Semantics = refl
found tag.Small = refl
found tag.Source = refl
found tag.Span = refl
found tag.Strike = refl
found tag.Strong = refl
found tag.Style = refl
found tag.Sub = refl
found tag.Summary = refl
found tag.Sup = refl
found tag.Svg = refl
found tag.Table = refl
found tag.Tbody = refl
found tag.Td = refl
found tag.Template = refl
found tag.Textarea = refl
found tag.Tfoot = refl
found tag.Th = refl
found tag.Thead = refl
found tag.Time = refl
found tag.Title = refl
found tag.Tr = refl
found tag.Track = refl
found tag.Tt = refl
found tag.U = refl
found tag.Ul = refl
found tag.Var = refl
found tag.Video = refl
found tag.Wbr = refl
found tag.Xmp = refl

-- what is not found has no tag
not_found : (text : List ℕ) → tag_of text ≡ None → HasNoTag text
not_found text e t = test (bytes_eq text (tag_text t))
    (λ same. absurd (let f : tag_of text ≡ Some t = ap tag_of (same_bytes text (tag_text t) same) ∙ found t in cc))
    (λ other. other)

pub no_tag : (text : List ℕ) (found : Option Tag) → found ≡ tag_of text → IfNone found (HasNoTag text)
no_tag text None e = not_found text (sym e)
no_tag text (Some t) e = tt

-- tags are the same where their texts are
pub same_tag : (one other : Tag) → sameb the_type one other ≡ bytes_eq (tag_text one) (tag_text other)
same_tag one other = test (sameb the_type one other)
    (λ same. let alike : one ≡ other = same_true the_type tt one other same in
    same ∙ sym (ap (λ t. bytes_eq (tag_text one) (tag_text t)) (sym alike) ∙ bytes_same (tag_text one)))
    (λ differ. differ ∙ sym (test (bytes_eq (tag_text one) (tag_text other))
    (λ same. absurd (same_false the_type one other differ (by same)))
    (λ not_same. not_same)))
  where
    by : bytes_eq (tag_text one) (tag_text other) ≡ true → one ≡ other
    by same =
        let both : Some one ≡ Some other =
        sym (found one) ∙ ap tag_of (same_bytes (tag_text one) (tag_text other) same) ∙ found other in
        cc
