-- The names of HTML's block elements.
use Rattle.std.specs.Prelude.{ℕ, Bool, List, [], ◌∷◌, codes}
use Rattle.std.specs.List.{list_any}
use Rattle.std.specs.Str.{bytes_eq}

-- The 66 names of elements whose start tag begins an HTML block: the four of kind 1 and the 62 of
-- kind 6 (CommonMark 0.31.2, 4.6).
abbrev pub block_names : List (List ℕ)
block_names =
    codes "address" ∷ codes "article" ∷ codes "aside" ∷ codes "base" ∷ codes "basefont" ∷ codes "blockquote"
    ∷
    codes "body" ∷ codes "caption" ∷ codes "center" ∷ codes "col" ∷ codes "colgroup" ∷ codes "dd" ∷
    codes "details" ∷ codes "dialog" ∷ codes "dir" ∷ codes "div" ∷ codes "dl" ∷ codes "dt" ∷
    codes "fieldset" ∷ codes "figcaption" ∷ codes "figure" ∷ codes "footer" ∷ codes "form" ∷ codes "frame" ∷
    codes "frameset" ∷ codes "h1" ∷ codes "h2" ∷ codes "h3" ∷ codes "h4" ∷ codes "h5" ∷
    codes "h6" ∷ codes "head" ∷ codes "header" ∷ codes "hr" ∷ codes "html" ∷ codes "iframe" ∷
    codes "legend" ∷ codes "li" ∷ codes "link" ∷ codes "main" ∷ codes "menu" ∷ codes "menuitem" ∷
    codes "nav" ∷ codes "noframes" ∷ codes "ol" ∷ codes "optgroup" ∷ codes "option" ∷ codes "p" ∷
    codes "param" ∷ codes "pre" ∷ codes "script" ∷ codes "search" ∷ codes "section" ∷ codes "style" ∷
    codes "summary" ∷ codes "table" ∷ codes "tbody" ∷ codes "td" ∷ codes "textarea" ∷ codes "tfoot" ∷
    codes "th" ∷ codes "thead" ∷ codes "title" ∷ codes "tr" ∷ codes "track" ∷ codes "ul" ∷ []

-- the name of a block element, in lower case
unfoldable pub is_block : List ℕ → Bool
is_block name = list_any (λ block_name. bytes_eq block_name name) block_names
