-- What elements are by their names.
use Rattle.std.specs.Prelude.{ℕ, Bool, ◌||◌, List, [], ◌∷◌, codes}
use Rattle.std.specs.Str.{bytes_eq}
use Rattle.htmd_lexical.specs.CharacterClasses.{is_among}

-- elements that never show, and the head
abbrev pub unseen_names : List (List ℕ)
unseen_names =
    codes "script" ∷ codes "style" ∷ codes "title" ∷ codes "iframe" ∷ codes "noframes" ∷ codes "noembed" ∷
    codes "template" ∷ codes "datalist" ∷ codes "noscript" ∷ codes "head" ∷ []

abbrev pub heading_names : List (List ℕ)
heading_names =
    codes "h1" ∷ codes "h2" ∷ codes "h3" ∷ codes "h4" ∷ codes "h5" ∷ codes "h6" ∷ []

-- lists, tables and their parts
abbrev pub list_names : List (List ℕ)
list_names =
    codes "caption" ∷ codes "dd" ∷ codes "dir" ∷ codes "dl" ∷ codes "dt" ∷ codes "li" ∷ codes "menu"
    ∷ codes "ol" ∷
    codes "table" ∷ codes "tbody" ∷ codes "td" ∷ codes "tfoot" ∷ codes "th" ∷ codes "thead" ∷ codes "tr" ∷
    codes "ul" ∷ []

-- parts of a page
abbrev pub section_names : List (List ℕ)
section_names =
    codes "address" ∷ codes "article" ∷ codes "aside" ∷ codes "body" ∷ codes "dialog" ∷ codes "footer" ∷
    codes "frameset" ∷ codes "header" ∷ codes "hgroup" ∷ codes "html" ∷ codes "main" ∷ codes "nav" ∷
    codes "search" ∷ codes "section" ∷ []

-- other blocks, but for headings
abbrev pub block_names : List (List ℕ)
block_names =
    codes "blockquote" ∷ codes "center" ∷ codes "details" ∷ codes "div" ∷ codes "fieldset"
    ∷ codes "figcaption" ∷
    codes "figure" ∷ codes "form" ∷ codes "legend" ∷ codes "listing" ∷ codes "p" ∷ codes "plaintext"
    ∷ codes "pre" ∷
    codes "summary" ∷ codes "xmp" ∷ []

-- what density may choose
abbrev pub container_names : List (List ℕ)
container_names =
    codes "article" ∷ codes "center" ∷ codes "div" ∷ codes "form" ∷ codes "section" ∷ codes "td" ∷ []

-- elements that are the frame of a page wherever they stand
abbrev pub frame_names : List (List ℕ)
frame_names = codes "nav" ∷ codes "footer" ∷ codes "search" ∷ codes "dialog" ∷ []

abbrev pub body_names : List (List ℕ)
body_names = codes "body" ∷ codes "frameset" ∷ []

abbrev pub is_unseen : List ℕ → Bool
is_unseen name = is_among unseen_names name

abbrev pub is_heading : List ℕ → Bool
is_heading name = is_among heading_names name

abbrev pub is_block : List ℕ → Bool
is_block name =
    is_heading name || is_among list_names name || is_among section_names name || is_among block_names name

abbrev pub is_container : List ℕ → Bool
is_container name = is_among container_names name

abbrev pub is_body : List ℕ → Bool
is_body name = is_among body_names name

-- elements whose links to themselves go
abbrev pub is_title : List ℕ → Bool
is_title name = is_heading name || bytes_eq name (codes "dt")
