-- Names among others, and names that are no tags.
use Rattle.std.proofs.Common.{◌≡◌, ℕ, true, false, ◌||◌, List, [], ◌∷◌, map, refl, ap, ◌∙◌, Bor}
use Rattle.std.specs.List.{list_any}
use Rattle.std.specs.Str.{bytes_eq}
use Rattle.htmd_lexical.proofs.Cases.{test}
use Rattle.htmd_lexical.proofs.BytesLemmas.{same_bytes, bytes_same}
use Rattle.htmd_nodes.specs.declared.tag.Tag.{Tag}
use Rattle.htmd_nodes.specs.declared.tag.Tag.TheVariants as tag
use Rattle.htmd_nodes.specs.Tags.{tag_text, HasNoTag}
use Rattle.htmd_shown.specs.declared.role.Role.TheVariants as role
use Rattle.htmd_shown.specs.Roles.{is_among, hidden_names}
use Rattle.htmd_shown.specs.Roles.{role_of, table_role, heading_or_block, block_role, inline_role, element_role}

pub among_names : (names : List (Bor (List ℕ))) (name : List ℕ)
    → list_any (λ n. bytes_eq n.now name) names ≡ is_among (map (λ n. n.now) names) name
among_names [] name = refl
among_names (n ∷ names) name = ap (λ b. bytes_eq n.now name || b) (among_names names name)

-- a name without a tag is none of those that have one
other_name : (name : List ℕ) → HasNoTag name → (t : Tag) → bytes_eq (tag_text t) name ≡ false
other_name name h t = test (bytes_eq (tag_text t) name)
    (λ same. absurd (let e : tag_text t ≡ name = same_bytes (tag_text t) name same in
    let f : bytes_eq name (tag_text t) ≡ true = ap (λ n. bytes_eq name n) e ∙ bytes_same name in
    let g = h t in cc))
    (λ other. other)

none_among : (name : List ℕ) → HasNoTag name → (ts : List Tag) → is_among (map tag_text ts) name ≡ false
none_among name h [] = refl
none_among name h (t ∷ ts) =
    ap (λ b. b || is_among (map tag_text ts) name) (other_name name h t) ∙ none_among name h ts

abbrev hidden_tags : List Tag
hidden_tags =
    tag.Script ∷ tag.Style ∷ tag.Title ∷ tag.Noframes ∷ tag.Noembed ∷ tag.Template ∷
    tag.Datalist ∷ tag.Annotation ∷ tag.AnnotationXml ∷ []

pub shown_name : (name : List ℕ) → HasNoTag name → is_among hidden_names name ≡ false
shown_name name h = none_among name h hidden_tags

element_plain : (name : List ℕ) → HasNoTag name → element_role name ≡ role.Plain
unfolding element_role
element_plain name h = rw (
  h tag.Sup,
  h tag.Sub,
  h tag.Ins,
  h tag.U,
  h tag.Mark,
  h tag.Small,
  h tag.Kbd,
  h tag.Abbr,
) refl

inline_plain : (name : List ℕ) → HasNoTag name → inline_role name ≡ role.Plain
unfolding inline_role
inline_plain name h = rw (
  h tag.Em,
  h tag.I,
  h tag.Cite,
  h tag.Dfn,
  h tag.Var,
  h tag.Strong,
  h tag.B,
  h tag.Del,
  h tag.S,
  h tag.Strike,
  h tag.Code,
  h tag.Tt,
  h tag.Samp,
  h tag.A,
  h tag.Button,
  h tag.Select,
  h tag.Option,
  h tag.Optgroup,
  h tag.Textarea,
  h tag.Br,
  h tag.Input,
) (element_plain name h)

abbrev block_tags : List Tag
block_tags =
    tag.Address ∷ tag.Article ∷ tag.Aside ∷ tag.Body ∷ tag.Center ∷ tag.Dialog ∷ tag.Fieldset ∷
    tag.Footer ∷ tag.Form ∷ tag.Frameset ∷ tag.Header ∷ tag.Hgroup ∷ tag.Html ∷ tag.Main ∷ tag.Nav ∷
    tag.Search ∷ tag.Section ∷ []

block_plain : (name : List ℕ) → HasNoTag name → block_role name ≡ role.Plain
unfolding block_role
block_plain name h = rw (
  h tag.Dl,
  h tag.Dt,
  h tag.Dd,
  h tag.Div,
  h tag.Figure,
  h tag.Figcaption,
  h tag.Details,
  h tag.Summary,
  h tag.Legend,
  none_among name h block_tags,
) (inline_plain name h)

heading_plain : (name : List ℕ) → HasNoTag name → heading_or_block name ≡ role.Plain
unfolding heading_or_block
heading_plain name h = rw (
  h tag.H1,
  h tag.H2,
  h tag.H3,
  h tag.H4,
  h tag.H5,
  h tag.H6,
) (block_plain name h)

table_plain : (name : List ℕ) → HasNoTag name → table_role name ≡ role.Plain
unfolding table_role
table_plain name h = rw (
  h tag.Table,
  h tag.Caption,
  h tag.Thead,
  h tag.Tbody,
  h tag.Tfoot,
  h tag.Tr,
  h tag.Td,
  h tag.Th,
) (heading_plain name h)

pub plain_name : (name : List ℕ) → HasNoTag name → role_of name ≡ role.Plain
unfolding role_of
plain_name name h = rw (
  h tag.P,
  h tag.Li,
  h tag.Ul,
  h tag.Menu,
  h tag.Dir,
  h tag.Ol,
  h tag.Pre,
  h tag.Listing,
  h tag.Xmp,
  h tag.Plaintext,
  h tag.Blockquote,
  h tag.Hr,
) (table_plain name h)
