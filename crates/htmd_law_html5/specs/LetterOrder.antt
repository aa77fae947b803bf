-- The letters of a page in their order, and those of the tree that it is read as.
use Rattle.std.specs.Prelude.{◌≡◌, ℕ, Bool, true, not, ◌||◌, List, [], ◌∷◌, ◌++◌, filter, codes, IsUtf8}
use Rattle.std.specs.List.{list_all}
use Rattle.std.specs.Str.{bytes_eq, chars}
use Rattle.htmd_html5_tokens.specs.Tokens.{TokenValue, start_tag}
use Rattle.htmd_html5.specs.Html5Documents.{html5_document}
use Rattle.htmd_law_html5.specs.PageLetters.{is_letter, texts_of, token_texts}
use Rattle.htmd_law_html5.specs.DroppedTexts.{drops_text_in, page_tokens}

-- ---- letters in order

-- the letters of a text
unfoldable pub letters_of : List ℕ → List ℕ
letters_of s = filter is_letter (chars s)

-- and of all of these, one after another
abbrev pub letters_in : List (List ℕ) → List ℕ
letters_in [] = []
letters_in (s ∷ texts) = letters_of s ++ letters_in texts

-- ---- start tags that move text

-- text in a table, but in none of its cells, is put before the table
abbrev pub moves_text_in : List ℕ → Bool
moves_text_in name = drops_text_in name || bytes_eq name (codes "table")

abbrev pub moves_no_text : TokenValue → Bool
moves_no_text (start_tag tag) = not (moves_text_in tag.name)
moves_no_text _ = true

-- no start tag of the page is named so
abbrev pub no_tag_moves_text : Bool → List ℕ → Bool
no_tag_moves_text scripting page = list_all moves_no_text (page_tokens scripting page)

-- ---- the law

-- The letters of the tree's texts, in document order, are those of the tokens' texts, in the same order.
abbrev pub LettersStandInOrder : Type 0
LettersStandInOrder =
    (scripting : Bool) (page : List ℕ) → IsUtf8 page → no_tag_moves_text scripting page ≡ true
    → letters_in (texts_of (html5_document scripting page)) ≡ letters_in (token_texts scripting page)
