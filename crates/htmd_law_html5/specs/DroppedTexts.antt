-- Pages without a start tag of `frameset` or `template`, whose texts are taken.
use Rattle.std.specs.Prelude.{◌≡◌, ℕ, zero, suc, Bool, true, not, ◌||◌, if◌then◌else◌, List, [], ◌∷◌, length}
use Rattle.std.specs.Prelude.{codes, IsUtf8}
use Rattle.std.specs.List.{list_all}
use Rattle.std.specs.Str.{bytes_eq}
use Rattle.htmd_html5_tokens.specs.Preprocessing.{preprocessed}
use Rattle.htmd_html5_tokens.specs.Tokens.{TokenValue, Read, start_tag}
use Rattle.htmd_html5_state.specs.State.{StateValue, initial_state}
use Rattle.htmd_html5.specs.Feeding.{feed}
use Rattle.htmd_html5.specs.Html5Documents.{next_read, is_end, state_after, html5_document}
use Rattle.htmd_law_html5.specs.PageLetters.{is_letter, occurrences_in, texts_of, token_texts}
use Rattle.htmd_law_html5.specs.DocumentLetters.{node_texts, all_texts_are_taken}

-- ---- the tokens of a page

abbrev pub tokens_after : (List ℕ → StateValue → List TokenValue) → Read → StateValue → List TokenValue
tokens_after go read s =
    if is_end read.token then [] else read.token ∷ go read.rest (feed read.token s)

-- the tokens that are read from a state on
abbrev pub tokens_within : ℕ → List ℕ → StateValue → List TokenValue
tokens_within zero page s = []
tokens_within (suc k) page s = tokens_after (tokens_within k) (next_read page s) s

-- the tokens of a page, in order
abbrev pub page_tokens : Bool → List ℕ → List TokenValue
page_tokens scripting page =
    tokens_within (length (preprocessed page)) (preprocessed page) (initial_state scripting)

-- ---- their start tags

-- frames hold no text, and nor do the columns of a template
abbrev pub drops_text_in : List ℕ → Bool
drops_text_in name = bytes_eq name (codes "frameset") || bytes_eq name (codes "template")

abbrev pub drops_no_text : TokenValue → Bool
drops_no_text (start_tag tag) = not (drops_text_in tag.name)
drops_no_text _ = true

-- no start tag of the page is named `frameset` or `template`
abbrev pub no_tag_drops_text : Bool → List ℕ → Bool
no_tag_drops_text scripting page = list_all drops_no_text (page_tokens scripting page)

-- ---- the laws

-- On such a page no text comes to a state that drops text.
abbrev pub HarmlessTextsAreTaken : Type 0
HarmlessTextsAreTaken =
    (scripting : Bool) (page : List ℕ) → no_tag_drops_text scripting page ≡ true
    → all_texts_are_taken scripting page ≡ true

-- Each letter of such a page in UTF-8 stands in the texts of its document as often as in those of the tokens.
abbrev pub HarmlessLettersAreTaken : Type 0
HarmlessLettersAreTaken =
    (scripting : Bool) (page : List ℕ) (c : ℕ) → IsUtf8 page → no_tag_drops_text scripting page ≡ true
    → is_letter c ≡ true
    → occurrences_in c (node_texts (state_after scripting page).nodes)
    ≡ occurrences_in c (token_texts scripting page)

-- And in the texts of the tree.
abbrev pub HarmlessLettersAreKept : Type 0
HarmlessLettersAreKept =
    (scripting : Bool) (page : List ℕ) (c : ℕ) → IsUtf8 page → no_tag_drops_text scripting page ≡ true
    → is_letter c ≡ true
    → occurrences_in c (texts_of (html5_document scripting page)) ≡ occurrences_in c (token_texts scripting page)
