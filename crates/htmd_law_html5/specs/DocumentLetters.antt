-- The letters of a page, and those of the document that is made of it.
use Rattle.std.specs.Prelude.{◌≡◌, ℕ, zero, suc, Bool, true, false, not, ◌||◌, ◌&&◌, if◌then◌else◌, List, [], ◌∷◌}
use Rattle.std.specs.Prelude.{length, IsUtf8}
use Rattle.htmd_html5_tokens.specs.Preprocessing.{preprocessed}
use Rattle.htmd_html5_tokens.specs.Tokens.{TokenValue, Read, text}
use Rattle.htmd_html5_state.specs.Nodes.{KindValue, NodeValue, text as text_kind}
use Rattle.htmd_html5_state.specs.OpenElements.{OpenValue, current_is}
use Rattle.htmd_html5_state.specs.State.{StateValue, initial_state}
use Rattle.htmd_html5_state.specs.declared.modes.InsertionMode.{InsertionMode}
use Rattle.htmd_html5_state.specs.declared.modes.InsertionMode.TheVariants.{InColumnGroup, InFrameset, AfterFrameset}
use Rattle.htmd_html5_state.specs.declared.modes.InsertionMode.TheVariants.{AfterAfterFrameset}
use Rattle.htmd_html5_state.specs.declared.sets.NameSet.TheVariants.{Only}
use Rattle.htmd_html5.specs.Feeding.{is_text_mode, feed}
use Rattle.htmd_html5.specs.Html5Documents.{next_read, is_end, state_after}
use Rattle.htmd_law_html5.specs.PageLetters.{is_letter, occurrences_in, token_texts}
use Rattle.htmd_html5_state.specs.declared.names.TagName.TheVariants as tags

-- ---- the texts of a document

abbrev pub with_text_at : KindValue → List (List ℕ) → List (List ℕ)
with_text_at (text_kind s) texts = s ∷ texts
with_text_at _ texts = texts

abbrev pub node_texts : List NodeValue → List (List ℕ)
node_texts [] = []
node_texts (node ∷ nodes) = with_text_at node.kind (node_texts nodes)

-- ---- texts that are dropped

-- In the modes of frames only white space is text (13.2.6.4.20 to 13.2.6.4.23), and in that of columns too, where no
-- `colgroup` is the current node (13.2.6.4.12).
abbrev pub drops_in : InsertionMode → List OpenValue → Bool
drops_in InFrameset stack = true
drops_in AfterFrameset stack = true
drops_in AfterAfterFrameset stack = true
drops_in InColumnGroup stack = not (current_is (Only tags.ColGroup) stack)
drops_in _ stack = false

abbrev pub drops_text : StateValue → Bool
drops_text s = drops_in s.mode s.stack

-- an element of text alone takes any
abbrev pub takes_text : StateValue → Bool
takes_text s = is_text_mode s.content || not (drops_text s)

abbrev pub is_taken : TokenValue → StateValue → Bool
is_taken (text t) s = takes_text s
is_taken _ s = true

abbrev pub taken_after : (List ℕ → StateValue → Bool) → Read → StateValue → Bool
taken_after go read s =
    if is_end read.token then true else is_taken read.token s && go read.rest (feed read.token s)

-- the texts of the tokens that are read from a state on come where texts are taken
abbrev pub taken_within : ℕ → List ℕ → StateValue → Bool
taken_within zero page s = true
taken_within (suc k) page s = taken_after (taken_within k) (next_read page s) s

-- the same of all tokens of a page
abbrev pub all_texts_are_taken : Bool → List ℕ → Bool
all_texts_are_taken scripting page =
    taken_within (length (preprocessed page)) (preprocessed page) (initial_state scripting)

-- ---- the law

-- Where all texts are taken, each letter of a page in UTF-8 stands in the texts of the document that is made of it as
-- often as in those of the tokens.
abbrev pub LettersAreTaken : Type 0
LettersAreTaken =
    (scripting : Bool) (page : List ℕ) (c : ℕ) → IsUtf8 page → all_texts_are_taken scripting page ≡ true
    → is_letter c ≡ true
    → occurrences_in c (node_texts (state_after scripting page).nodes)
    ≡ occurrences_in c (token_texts scripting page)
