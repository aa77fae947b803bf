-- Texts of the strict grammar with plain elements, as the lenient reader reads them.
use Rattle.std.specs.Prelude.{◌≡◌, ℕ, Bool, true, false, not, ◌&&◌, ◌||◌, if◌then◌else◌, List, [], ◌∷◌, ◌++◌}
use Rattle.std.specs.Prelude.{codes}
use Rattle.htmd_lexical.specs.WhiteSpace.{is_ascii_white_space}
use Rattle.htmd_values.specs.ValueTrees.{ValueTree, ValueForest, none, more, document, doctype, text, comment}
use Rattle.htmd_values.specs.ValueTrees.{element}
use Rattle.htmd_lexical.specs.CharacterClasses.{is_among}
use Rattle.htmd_grammar.specs.Rules.{project}
use Rattle.htmd_values.specs.Serialisation.{is_void}
use Rattle.htmd_grammar.specs.Grammar.{begins_with_row, reads}
use Rattle.htmd_grammar.specs.Nesting.{is_table, is_tbody}
use Rattle.htmd_lexical.specs.ByteOrderMarks.{behind_mark}
use Rattle.htmd_grammar.specs.HtmlDocuments.{below_body, skeleton}
use Rattle.htmd_nodes.specs.Layout.{document_items}
use Rattle.htmd_html5_state.specs.Names.{NameValue, known, other, name_of_text}
use Rattle.htmd_html5.specs.Html5Documents.{html5_document}
use Rattle.htmd_law_html5.specs.StrictReferences.{IsUnambiguous}

-- ---- plain trees

-- names that the rules of the mode "in body" don't mention
abbrev pub is_unknown_name : NameValue → Bool
is_unknown_name (known tag) = false
is_unknown_name (other s) = true

-- the same, though other rules mention them
abbrev pub ordinary_names : List (List ℕ)
ordinary_names = codes "ruby" ∷ codes "span" ∷ codes "sub" ∷ codes "sup" ∷ codes "var" ∷ []

-- formatting elements, but for `a` and `nobr`
abbrev pub formatting_names : List (List ℕ)
formatting_names =
    codes "b" ∷ codes "big" ∷ codes "code" ∷ codes "em" ∷ codes "font" ∷ codes "i" ∷ codes "s"
    ∷ codes "small" ∷ codes "strike" ∷ codes "strong" ∷ codes "tt" ∷ codes "u" ∷ []

-- blocks, but for `p` and what follows
abbrev pub block_names : List (List ℕ)
block_names =
    codes "address" ∷ codes "article" ∷ codes "aside" ∷ codes "blockquote" ∷ codes "center" ∷ codes "details"
    ∷ codes "dialog" ∷ codes "dir" ∷ codes "div" ∷ codes "dl" ∷ codes "fieldset" ∷ codes "figcaption"
    ∷ codes "figure" ∷ codes "footer" ∷ codes "header" ∷ codes "hgroup" ∷ codes "main" ∷ codes "menu"
    ∷ codes "nav" ∷ codes "ol" ∷ codes "search" ∷ codes "section" ∷ codes "summary" ∷ codes "ul" ∷ []

abbrev pub heading_names : List (List ℕ)
heading_names = codes "h1" ∷ codes "h2" ∷ codes "h3" ∷ codes "h4" ∷ codes "h5" ∷ codes "h6" ∷ []

-- names with rules of their own
abbrev pub other_names : List (List ℕ)
other_names =
    codes "a" ∷ codes "nobr" ∷ codes "p" ∷ codes "li" ∷ codes "dd" ∷ codes "dt" ∷ codes "button" ∷ []

abbrev pub is_plain_name : List ℕ → Bool
is_plain_name n =
    is_unknown_name (name_of_text n) || is_among ordinary_names n || is_among formatting_names n
    || is_among block_names n || is_among heading_names n || is_among other_names n

-- elements that hold only text, but for `noscript`, `script` and `textarea`
abbrev pub text_names : List (List ℕ)
text_names =
    codes "iframe" ∷ codes "noembed" ∷ codes "noframes" ∷ codes "style" ∷ codes "title" ∷ codes "xmp" ∷ []

-- tables and their parts, but for columns and `tbody`
abbrev pub table_names : List (List ℕ)
table_names =
    codes "table" ∷ codes "thead" ∷ codes "tfoot" ∷ codes "tr" ∷ codes "td" ∷ codes "th" ∷ codes "caption"
    ∷ []

-- all void elements but `col`, elements with these names, and `pre`
abbrev pub is_plain_element : List ℕ → Bool
is_plain_element n =
    if is_void n then not (is_among (codes "col" ∷ []) n)
    else is_plain_name n || is_among (codes "pre" ∷ []) n || is_among text_names n || is_among table_names n

-- a `tbody` that has tags wherever it stands, since without them it would begin with a row
abbrev pub is_plain_body : List ℕ → ValueForest → Bool
is_plain_body n children = is_tbody n && not (begins_with_row children)

abbrev mutual
  -- texts, comments, and plain elements with plain trees in them
  pub is_plain_tree : ValueTree → Bool
  is_plain_tree (document children) = false
  is_plain_tree doctype = false
  is_plain_tree (text u) = true
  is_plain_tree (comment u) = true
  is_plain_tree (element n attributes children) =
      (is_plain_element n || is_plain_body n children)
      && (if is_table n then are_plain_table children else are_plain children)

  pub are_plain : ValueForest → Bool
  are_plain none = true
  are_plain (more t ts) = is_plain_tree t && are_plain ts

  -- in a table there may be a `tbody` that begins with a row
  pub are_plain_table : ValueForest → Bool
  are_plain_table none = true
  are_plain_table (more t ts) = (is_plain_tree t || are_plain_rows t) && are_plain_table ts

  pub are_plain_rows : ValueTree → Bool
  are_plain_rows (element n attributes children) = is_tbody n && begins_with_row children && are_plain children
  are_plain_rows _ = false

-- ---- the law

-- Where an unambiguous text denotes plain trees by the strict grammar, the lenient reader gives the same tree if
-- `<body>` stands before the text.
abbrev pub PlainPagesAgree : Type 0
PlainPagesAgree =
    (scripting : Bool) (s : List ℕ) (content : ValueForest) → IsUnambiguous s → are_plain content ≡ true
    → reads (project scripting) below_body s content
    → html5_document scripting (codes "<body>" ++ s) ≡ document_items (skeleton content)

-- ---- without `<body>`

-- names that aren't of the body, or may be of the head
abbrev pub head_names : List (List ℕ)
head_names =
    codes "html" ∷ codes "head" ∷ codes "body" ∷ codes "frameset" ∷ codes "base" ∷ codes "basefont"
    ∷ codes "bgsound" ∷ codes "link" ∷ codes "meta" ∷ codes "noframes" ∷ codes "noscript" ∷ codes "script"
    ∷ codes "style" ∷ codes "template" ∷ codes "title" ∷ []

-- the text begins with a character that is no white space
abbrev pub begins_black : List ℕ → Bool
begins_black [] = false
begins_black (b ∷ s) = not (is_ascii_white_space b)

-- the body begins where the content begins: with such a text, or with an element that belongs in no head
abbrev pub begins_body : ValueForest → Bool
begins_body (more (text u) ts) = begins_black u
begins_body (more (element n attributes children) ts) = not (is_among head_names n)
begins_body _ = false

-- Where the content begins so, the trees agree without `<body>` too, if no byte order mark stands there.
abbrev pub PlainTextsAgree : Type 0
PlainTextsAgree =
    (scripting : Bool) (s : List ℕ) (content : ValueForest) → IsUnambiguous s → behind_mark s ≡ s
    → are_plain content ≡ true → begins_body content ≡ true
    → reads (project scripting) below_body s content
    → html5_document scripting s ≡ document_items (skeleton content)
