-- A name without a tag is no block's.
use Rattle.std.proofs.Common.{◌≡◌, ℕ, List, [], ◌∷◌, false, map, refl}
use Rattle.std.specs.List.{list_any}
use Rattle.std.specs.Str.{bytes_eq}
use Rattle.htmd_nodes.specs.declared.tag.Tag.{Tag}
use Rattle.htmd_nodes.specs.declared.tag.Tag.TheVariants as tag
use Rattle.htmd_nodes.specs.Tags.{tag_text, HasNoTag}
use Rattle.htmd_text.specs.Blocks.{is_block}
use Rattle.htmd_walk.proofs.Nodes.{bytes_eq-swapped}

none_of : (name : List ℕ) → HasNoTag name → (ts : List Tag)
    → list_any (λ t. bytes_eq t name) (map tag_text ts) ≡ false
none_of name h [] = refl
none_of name h (t ∷ ts) = rw (bytes_eq-swapped (tag_text t) name, h t) (none_of name h ts)

abbrev block_tags : List Tag
block_tags =
    tag.Address ∷ tag.Article ∷ tag.Aside ∷ tag.Base ∷ tag.Basefont ∷ tag.Blockquote ∷ tag.Body ∷
    tag.Caption ∷ tag.Center ∷ tag.Col ∷ tag.Colgroup ∷ tag.Dd ∷ tag.Details ∷ tag.Dialog ∷ tag.Dir ∷
    tag.Div ∷ tag.Dl ∷ tag.Dt ∷ tag.Fieldset ∷ tag.Figcaption ∷ tag.Figure ∷ tag.Footer ∷ tag.Form ∷
    tag.Frame ∷ tag.Frameset ∷ tag.H1 ∷ tag.H2 ∷ tag.H3 ∷ tag.H4 ∷ tag.H5 ∷ tag.H6 ∷ tag.Head ∷
    tag.Header ∷ tag.Hr ∷ tag.Html ∷ tag.Iframe ∷ tag.Legend ∷ tag.Li ∷ tag.Link ∷ tag.Main ∷
    tag.Menu ∷ tag.Menuitem ∷ tag.Nav ∷ tag.Noframes ∷ tag.Ol ∷ tag.Optgroup ∷ tag.Option ∷ tag.P ∷
    tag.Param ∷ tag.Pre ∷ tag.Script ∷ tag.Search ∷ tag.Section ∷ tag.Style ∷ tag.Summary ∷
    tag.Table ∷ tag.Tbody ∷ tag.Td ∷ tag.Textarea ∷ tag.Tfoot ∷ tag.Th ∷ tag.Thead ∷ tag.Title ∷
    tag.Tr ∷ tag.Track ∷ tag.Ul ∷ []

pub no_block : (name : List ℕ) → HasNoTag name → is_block name ≡ false
unfolding is_block
no_block name h = none_of name h block_tags
