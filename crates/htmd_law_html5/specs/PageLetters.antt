-- The letters of a page, and those of the tree that it is read as.
use Rattle.std.specs.Prelude.{◌≡◌, ℕ, zero, suc, ◌≤◌, Bool, true, not, ◌||◌, ◌==◌, if◌then◌else◌, List, [], ◌∷◌}
use Rattle.std.specs.Prelude.{length, All, IsUtf8}
use Rattle.std.specs.List.{count_by, sum_by}
use Rattle.std.specs.Str.{chars}
use Rattle.htmd_lexical.specs.WhiteSpace.{is_ascii_white_space}
use Rattle.htmd_lexical.specs.Characters.{null}
use Rattle.htmd_nodes.specs.Items.{Item, Data, text_node}
use Rattle.htmd_html5_tokens.specs.Preprocessing.{preprocessed}
use Rattle.htmd_html5_tokens.specs.References.{replacement_character}
use Rattle.htmd_html5_tokens.specs.Tokens.{TokenValue, Read, text}
use Rattle.htmd_html5_state.specs.State.{StateValue, initial_state}
use Rattle.htmd_html5.specs.Feeding.{feed}
use Rattle.htmd_html5.specs.Html5Documents.{next_read, is_end, html5_document}

-- ---- letters

-- not white space, and neither U+0000, which goes, nor U+FFFD, which replaces it
abbrev pub is_letter : ℕ → Bool
is_letter c = not (is_ascii_white_space c || (c == null) || (c == replacement_character))

abbrev pub is_character : ℕ → ℕ → Bool
is_character c d = d == c

-- how many times a character stands in a text
unfoldable pub occurrences : ℕ → List ℕ → ℕ
occurrences c s = count_by (is_character c) (chars s)

-- and in all of these
abbrev pub occurrences_in : ℕ → List (List ℕ) → ℕ
occurrences_in c texts = sum_by (occurrences c) texts

-- ---- the tokens of a page

abbrev pub with_text_of : TokenValue → List (List ℕ) → List (List ℕ)
with_text_of (text s) texts = s ∷ texts
with_text_of _ texts = texts

abbrev pub texts_after : (List ℕ → StateValue → List (List ℕ)) → Read → StateValue → List (List ℕ)
texts_after go read s =
    if is_end read.token then [] else with_text_of read.token (go read.rest (feed read.token s))

-- the texts of the tokens that are read from a state on
abbrev pub texts_within : ℕ → List ℕ → StateValue → List (List ℕ)
texts_within zero page s = []
texts_within (suc k) page s = texts_after (texts_within k) (next_read page s) s

-- the texts of the text tokens of a page, in order
abbrev pub token_texts : Bool → List ℕ → List (List ℕ)
token_texts scripting page =
    texts_within (length (preprocessed page)) (preprocessed page) (initial_state scripting)

-- ---- the texts of a tree

abbrev pub with_text_in : Data → List (List ℕ) → List (List ℕ)
with_text_in (text_node s) texts = s ∷ texts
with_text_in _ texts = texts

abbrev pub texts_of : List Item → List (List ℕ)
texts_of [] = []
texts_of (item ∷ items) = with_text_in item.node_data (texts_of items)

-- ---- the laws

-- the texts of the tokens of a page in UTF-8 are in UTF-8
abbrev pub TokensAreUtf8 : Type 0
TokensAreUtf8 = (scripting : Bool) (page : List ℕ) → IsUtf8 page → All IsUtf8 (token_texts scripting page)

-- Each letter of a page in UTF-8 stands in the tree's texts at most as often as in those of the tokens.
abbrev pub NoLetterIsMadeUp : Type 0
NoLetterIsMadeUp =
    (scripting : Bool) (page : List ℕ) (c : ℕ) → IsUtf8 page → is_letter c ≡ true
    → occurrences_in c (texts_of (html5_document scripting page)) ≤ occurrences_in c (token_texts scripting page)
