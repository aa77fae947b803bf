-- What attributes say of an element.
use Rattle.std.specs.Prelude.{ℕ, Bool, true, false, not, ◌&&◌, ◌||◌, List, [], ◌∷◌, map, codes, Option}
use Rattle.std.specs.Prelude.{Some, None}
use Rattle.std.specs.Char.{to_ascii_lowercase, is_ascii_alphabetic}
use Rattle.std.specs.List.{list_any, slice_split}
use Rattle.std.specs.Str.{bytes_eq}
use Rattle.htmd_lexical.specs.AttributePairs.{AttributePair}
use Rattle.htmd_lexical.specs.WhiteSpace.{is_ascii_white_space}
use Rattle.htmd_nodes.specs.AttributeValues.{value_of}

-- words that the classes of a page's frame have
abbrev pub frame_words : List (List ℕ)
frame_words =
    codes "advert" ∷ codes "advertisement" ∷ codes "banner" ∷ codes "breadcrumb" ∷ codes "breadcrumbs" ∷
    codes "comments" ∷ codes "consent" ∷ codes "cookie" ∷ codes "cookies" ∷ codes "footer" ∷ codes "gdpr" ∷
    codes "nav" ∷ codes "navbar" ∷ codes "navfooter" ∷ codes "navheader" ∷ codes "navigation"
    ∷ codes "navpath" ∷
    codes "newsletter" ∷ codes "pager" ∷ codes "pagination" ∷ codes "promo" ∷ codes "recommended" ∷
    codes "related" ∷ codes "share" ∷ codes "sharing" ∷ codes "sidebar" ∷ codes "skip" ∷ codes "social" ∷
    codes "sponsored" ∷ codes "sphinxsidebar" ∷ codes "subscribe" ∷ codes "toolbar" ∷ []

-- the attribute with this name has a value that passes
abbrev pub value_passes : (List ℕ → Bool) → Option (List ℕ) → Bool
value_passes test None = false
value_passes test (Some value) = test value

abbrev pub says : List ℕ → (List ℕ → Bool) → List AttributePair → Bool
says name test attributes = value_passes test (value_of name attributes)

-- the same word, ASCII letters in either case
abbrev pub same_word : List ℕ → List ℕ → Bool
same_word word s = bytes_eq (map to_ascii_lowercase s) (map to_ascii_lowercase word)

-- one of the words between ASCII white space is this one
abbrev pub has_word : List ℕ → List ℕ → Bool
has_word word s = list_any (same_word word) (slice_split is_ascii_white_space s)

abbrev pub is_frame_word : List ℕ → Bool
is_frame_word s = list_any (λ word. same_word word s) frame_words

-- one of the runs of ASCII letters is such a word
abbrev pub has_frame_word : List ℕ → Bool
has_frame_word s = list_any is_frame_word (slice_split (λ b. not (is_ascii_alphabetic b)) s)

-- one of these runs is *code*
abbrev pub has_code_word : List ℕ → Bool
has_code_word s = list_any (same_word (codes "code")) (slice_split (λ b. not (is_ascii_alphabetic b)) s)

-- the tool bar around a code block isn't part of a page's frame
abbrev pub is_frame_class : List ℕ → Bool
is_frame_class s = has_frame_word s && not (has_code_word s)

abbrev pub has_role : List ℕ → List AttributePair → Bool
has_role role attributes = says (codes "role") (has_word role) attributes

-- roles of a page's frame
abbrev pub has_frame_role : List AttributePair → Bool
has_frame_role attributes =
    has_role (codes "navigation") attributes || has_role (codes "contentinfo") attributes
    || has_role (codes "search") attributes || has_role (codes "dialog") attributes
    || has_role (codes "alertdialog") attributes

abbrev pub has_frame_class : List AttributePair → Bool
has_frame_class attributes = says (codes "class") is_frame_class attributes

-- an id counts only whole: it is often made from a heading
abbrev pub has_frame_id : List AttributePair → Bool
has_frame_id attributes = says (codes "id") is_frame_word attributes

-- an `a` that leads somewhere
abbrev pub is_link : List ℕ → List AttributePair → Bool
is_link name attributes = bytes_eq name (codes "a") && says (codes "href") (λ value. true) attributes

abbrev pub is_main : List ℕ → List AttributePair → Bool
is_main name attributes = bytes_eq name (codes "main") || has_role (codes "main") attributes

abbrev pub is_article : List ℕ → List AttributePair → Bool
is_article name attributes = bytes_eq name (codes "article") || has_role (codes "article") attributes

abbrev pub is_article_body : List AttributePair → Bool
is_article_body attributes = says (codes "itemprop") (has_word (codes "articlebody")) attributes
