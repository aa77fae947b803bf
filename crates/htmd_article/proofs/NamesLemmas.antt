-- Names that are no tags are none of those that have one.
use Rattle.std.proofs.Common.{◌≡◌, ℕ, false, ◌||◌, List, [], ◌∷◌, map, refl, ap, ◌∙◌}
use Rattle.htmd_lexical.specs.CharacterClasses.{is_among}
use Rattle.htmd_nodes.specs.declared.tag.Tag.{Tag}
use Rattle.htmd_nodes.specs.declared.tag.Tag.TheVariants as tag
use Rattle.htmd_nodes.specs.Tags.{tag_text, HasNoTag}
use Rattle.htmd_article.specs.Names as spec

none_among : (name : List ℕ) → HasNoTag name → (ts : List Tag) → is_among (map tag_text ts) name ≡ false
none_among name h [] = refl
none_among name h (t ∷ ts) = ap (λ b. b || is_among (map tag_text ts) name) (h t) ∙ none_among name h ts

pub unseen-none : (name : List ℕ) → HasNoTag name → spec.is_unseen name ≡ false
unseen-none name h = none_among name h (tag.Script ∷ tag.Style ∷ tag.Title ∷ tag.Iframe ∷ tag.Noframes
    ∷ tag.Noembed ∷ tag.Template ∷ tag.Datalist ∷ tag.Noscript ∷ tag.Head ∷ [])

pub heading-none : (name : List ℕ) → HasNoTag name → spec.is_heading name ≡ false
heading-none name h = none_among name h (tag.H1 ∷ tag.H2 ∷ tag.H3 ∷ tag.H4 ∷ tag.H5 ∷ tag.H6 ∷ [])

pub list-none : (name : List ℕ) → HasNoTag name → is_among spec.list_names name ≡ false
list-none name h = none_among name h (
    tag.Caption ∷ tag.Dd ∷ tag.Dir ∷ tag.Dl ∷ tag.Dt ∷ tag.Li ∷ tag.Menu ∷ tag.Ol ∷ tag.Table
    ∷ tag.Tbody ∷
    tag.Td ∷ tag.Tfoot ∷ tag.Th ∷ tag.Thead ∷ tag.Tr ∷ tag.Ul ∷ [])

pub section-none : (name : List ℕ) → HasNoTag name → is_among spec.section_names name ≡ false
section-none name h = none_among name h (
    tag.Address ∷ tag.Article ∷ tag.Aside ∷ tag.Body ∷ tag.Dialog ∷ tag.Footer ∷ tag.Frameset ∷ tag.Header
    ∷
    tag.Hgroup ∷ tag.Html ∷ tag.Main ∷ tag.Nav ∷ tag.Search ∷ tag.Section ∷ [])

pub block-none : (name : List ℕ) → HasNoTag name → is_among spec.block_names name ≡ false
block-none name h = none_among name h (
    tag.Blockquote ∷ tag.Center ∷ tag.Details ∷ tag.Div ∷ tag.Fieldset ∷ tag.Figcaption ∷ tag.Figure
    ∷ tag.Form ∷
    tag.Legend ∷ tag.Listing ∷ tag.P ∷ tag.Plaintext ∷ tag.Pre ∷ tag.Summary ∷ tag.Xmp ∷ [])

pub container-none : (name : List ℕ) → HasNoTag name → spec.is_container name ≡ false
container-none name h = none_among name h
    (tag.Article ∷ tag.Center ∷ tag.Div ∷ tag.Form ∷ tag.Section ∷ tag.Td ∷ [])

pub frame-none : (name : List ℕ) → HasNoTag name → is_among spec.frame_names name ≡ false
frame-none name h = none_among name h (tag.Nav ∷ tag.Footer ∷ tag.Search ∷ tag.Dialog ∷ [])

pub body-none : (name : List ℕ) → HasNoTag name → spec.is_body name ≡ false
body-none name h = none_among name h (tag.Body ∷ tag.Frameset ∷ [])
