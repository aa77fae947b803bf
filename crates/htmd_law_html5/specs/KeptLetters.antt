-- The letters of a page, and those of the tree that it is read as, where none is lost.
use Rattle.std.specs.Prelude.{◌≡◌, ℕ, zero, suc, Bool, true, false, not, ◌||◌, ◌&&◌, ◌==◌, List, [], ◌∷◌}
use Rattle.std.specs.Prelude.{Option, Some, None, is_some, length, IsUtf8}
use Rattle.std.specs.List.{list_any}
use Rattle.htmd_html5_state.specs.Nodes.{KindValue, NodeValue, element, kind_at, parent_at, children_at, text_of}
use Rattle.htmd_html5_state.specs.Nodes.{is_number}
use Rattle.htmd_html5.specs.Html5Documents.{state_after, html5_document}
use Rattle.htmd_law_html5.specs.PageLetters.{is_letter, occurrences_in, texts_of, token_texts}
use Rattle.htmd_law_html5.specs.DocumentLetters.{all_texts_are_taken}

-- ---- documents in one piece

abbrev pub is_element_kind : KindValue → Bool
is_element_kind (element name attributes) = true
is_element_kind _ = false

-- a node stands among the children of this one, which is the Document or an element
abbrev pub holds_node : List NodeValue → ℕ → ℕ → Bool
holds_node nodes p n = (p == 0 || is_element_kind (kind_at nodes p)) && list_any (is_number n) (children_at nodes p)

abbrev pub hangs_by : (ℕ → Bool) → List NodeValue → ℕ → Option ℕ → Bool
hangs_by go nodes n None = false
hangs_by go nodes n (Some p) = holds_node nodes p n && go p

-- a node is the Document, or its parent holds it and hangs under the Document itself, in so many steps at most
abbrev pub hangs_within : ℕ → List NodeValue → ℕ → Bool
hangs_within zero nodes n = n == 0
hangs_within (suc k) nodes n = n == 0 || hangs_by (hangs_within k nodes) nodes n (parent_at nodes n)

abbrev pub hangs : List NodeValue → ℕ → Bool
hangs nodes n = hangs_by (hangs_within (length nodes) nodes) nodes n (parent_at nodes n)

-- of these nodes, whose numbers go on from this one, each text hangs under the Document
abbrev pub texts_hang : List NodeValue → ℕ → List NodeValue → Bool
texts_hang nodes n [] = true
texts_hang nodes n (x ∷ xs) = (not (is_some (text_of x.kind)) || hangs nodes n) && texts_hang nodes (suc n) xs

abbrev pub is_whole : List NodeValue → Bool
is_whole nodes = texts_hang nodes 0 nodes

-- ---- the law

-- Where all texts are taken, and the document that is made of the page is in one piece, each letter stands in the texts
-- of the tree as often as in those of the tokens.
abbrev pub LettersAreKept : Type 0
LettersAreKept =
    (scripting : Bool) (page : List ℕ) (c : ℕ) → IsUtf8 page → all_texts_are_taken scripting page ≡ true
    → is_whole (state_after scripting page).nodes ≡ true → is_letter c ≡ true
    → occurrences_in c (texts_of (html5_document scripting page)) ≡ occurrences_in c (token_texts scripting page)
