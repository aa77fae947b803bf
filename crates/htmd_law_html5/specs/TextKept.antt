-- The texts of a page as they are kept, white space too.
use Rattle.std.specs.Prelude.{◌≡◌, ℕ, zero, suc, Bool, true, false, not, ◌||◌, ◌&&◌, ◌==◌, if◌then◌else◌, List, [], ◌∷◌}
use Rattle.std.specs.Prelude.{◌++◌}
use Rattle.std.specs.Prelude.{length, filter, IsUtf8}
use Rattle.std.specs.List.{list_all}
use Rattle.std.specs.Str.{chars}
use Rattle.htmd_lexical.specs.WhiteSpace.{is_ascii_white_space}
use Rattle.htmd_lexical.specs.Characters.{null}
use Rattle.htmd_lexical.specs.CharacterClasses.{behind_run}
use Rattle.htmd_html5_tokens.specs.Preprocessing.{preprocessed}
use Rattle.htmd_html5_tokens.specs.References.{replacement_character}
use Rattle.htmd_html5_tokens.specs.Tokens.{TokenValue, Read, text, start_tag}
use Rattle.htmd_html5_state.specs.Names.{NameValue, known, name_of_text}
use Rattle.htmd_html5_state.specs.State.{StateValue, initial_state}
use Rattle.htmd_html5_state.specs.declared.modes.InsertionMode.{InsertionMode}
use Rattle.htmd_html5_state.specs.declared.modes.InsertionMode.TheVariants.{Initial, BeforeHtml, BeforeHead, AfterHead}
use Rattle.htmd_html5.specs.Runs.{is_null}
use Rattle.htmd_html5.specs.Feeding.{is_text_mode, without_line_feed, feed}
use Rattle.htmd_html5.specs.Html5Documents.{next_read, is_end, html5_document}
use Rattle.htmd_law_html5.specs.PageLetters.{occurrences_in, texts_of}
use Rattle.htmd_law_html5.specs.DroppedTexts.{page_tokens}
use Rattle.htmd_law_html5.specs.LetterOrder.{no_tag_moves_text}
use Rattle.htmd_html5_state.specs.declared.names.TagName.TheVariants as tags

-- ---- what is kept of a text

-- before the head white space is dropped (13.2.6.4.1 to 13.2.6.4.3)
abbrev pub is_before_head : InsertionMode → Bool
is_before_head Initial = true
is_before_head BeforeHtml = true
is_before_head BeforeHead = true
is_before_head _ = false

-- but in an element of only text it isn't
abbrev pub drops_white : StateValue → Bool
drops_white s = not (is_text_mode s.content) && is_before_head s.mode

-- a text without the white space that it begins with
abbrev pub without_white : Bool → List ℕ → List ℕ
without_white drops s = if drops then behind_run is_ascii_white_space s else s

-- and without a line feed right after the start tag of `pre`, `listing` or `textarea`
abbrev pub kept_text : List ℕ → StateValue → List ℕ
kept_text t s = without_white (drops_white s) (without_line_feed s.skips_line_feed t)

-- ---- the texts of a page

abbrev pub with_kept_text : TokenValue → StateValue → List (List ℕ) → List (List ℕ)
with_kept_text (text t) s texts = kept_text t s ∷ texts
with_kept_text _ s texts = texts

abbrev pub kept_after : (List ℕ → StateValue → List (List ℕ)) → Read → StateValue → List (List ℕ)
kept_after go read s =
    if is_end read.token then [] else with_kept_text read.token s (go read.rest (feed read.token s))

-- what is kept of the texts of the tokens that are read from a state on
abbrev pub kept_within : ℕ → List ℕ → StateValue → List (List ℕ)
kept_within zero page s = []
kept_within (suc k) page s = kept_after (kept_within k) (next_read page s) s

-- what is kept of the texts of the text tokens of a page, in order
abbrev pub kept_texts : Bool → List ℕ → List (List ℕ)
kept_texts scripting page =
    kept_within (length (preprocessed page)) (preprocessed page) (initial_state scripting)

-- ---- tags of the head that come after it

abbrev pub is_head_name : NameValue → Bool
is_head_name (known tags.Base) = true
is_head_name (known tags.BaseFont) = true
is_head_name (known tags.BgSound) = true
is_head_name (known tags.Link) = true
is_head_name (known tags.Meta) = true
is_head_name (known tags.NoFrames) = true
is_head_name (known tags.Script) = true
is_head_name (known tags.Style) = true
is_head_name (known tags.Template) = true
is_head_name (known tags.Title) = true
is_head_name _ = false

abbrev pub is_after_head : InsertionMode → Bool
is_after_head AfterHead = true
is_after_head _ = false

-- between the head and the body such a start tag goes into the head, before white space that came in between
-- (13.2.6.4.6)
abbrev pub comes_late : TokenValue → StateValue → Bool
comes_late (start_tag tag) s = is_after_head s.mode && is_head_name (name_of_text tag.name)
comes_late _ s = false

abbrev pub early_after : (List ℕ → StateValue → Bool) → Read → StateValue → Bool
early_after go read s =
    if is_end read.token then true else not (comes_late read.token s) && go read.rest (feed read.token s)

-- of the tokens that are read from a state on none comes late
abbrev pub early_within : ℕ → List ℕ → StateValue → Bool
early_within zero page s = true
early_within (suc k) page s = early_after (early_within k) (next_read page s) s

-- nor of those of a page
abbrev pub no_tag_comes_late : Bool → List ℕ → Bool
no_tag_comes_late scripting page =
    early_within (length (preprocessed page)) (preprocessed page) (initial_state scripting)

-- ---- U+0000

abbrev pub is_no_null : ℕ → Bool
is_no_null b = not (is_null b)

abbrev pub has_no_null : TokenValue → Bool
has_no_null (text t) = list_all is_no_null t
has_no_null _ = true

-- none stands in the texts of the tokens
abbrev pub no_null_comes : Bool → List ℕ → Bool
no_null_comes scripting page = list_all has_no_null (page_tokens scripting page)

-- ---- the laws

-- neither U+0000, which goes, nor U+FFFD, which replaces it
abbrev pub is_kept : ℕ → Bool
is_kept c = not ((c == null) || (c == replacement_character))

-- Each character, white space too, stands in the texts of the tree as often as in what is kept of the tokens' texts.
abbrev pub CharactersAreKept : Type 0
CharactersAreKept =
    (scripting : Bool) (page : List ℕ) (c : ℕ) → IsUtf8 page → no_tag_moves_text scripting page ≡ true
    → is_kept c ≡ true
    → occurrences_in c (texts_of (html5_document scripting page)) ≡ occurrences_in c (kept_texts scripting page)

-- the characters of a text that are kept
unfoldable pub characters_of : List ℕ → List ℕ
characters_of s = filter is_kept (chars s)

-- and of all of these, one after another
abbrev pub characters_in : List (List ℕ) → List ℕ
characters_in [] = []
characters_in (s ∷ texts) = characters_of s ++ characters_in texts

-- The characters of the tree's texts, in document order, are what is kept of the tokens' texts, in the same order.
abbrev pub TextIsKept : Type 0
TextIsKept =
    (scripting : Bool) (page : List ℕ) → IsUtf8 page → no_tag_moves_text scripting page ≡ true
    → no_tag_comes_late scripting page ≡ true
    → characters_in (texts_of (html5_document scripting page)) ≡ characters_in (kept_texts scripting page)

-- all characters of these texts, one after another
abbrev pub all_characters : List (List ℕ) → List ℕ
all_characters [] = []
all_characters (s ∷ texts) = chars s ++ all_characters texts

-- Without U+0000 the same holds of all characters.
abbrev pub WholeTextIsKept : Type 0
WholeTextIsKept =
    (scripting : Bool) (page : List ℕ) → IsUtf8 page → no_tag_moves_text scripting page ≡ true
    → no_tag_comes_late scripting page ≡ true → no_null_comes scripting page ≡ true
    → all_characters (texts_of (html5_document scripting page)) ≡ all_characters (kept_texts scripting page)
