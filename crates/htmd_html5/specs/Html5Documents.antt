-- The document that a page denotes (HTML Standard, 13.2).
use Rattle.std.specs.Prelude.{ℕ, Bool, true, false, not, if◌then◌else◌, List, length, suc, zero}
use Rattle.htmd_html5.specs.Layout.{document_of}
use Rattle.htmd_html5_state.specs.State.{StateValue, initial_state}
use Rattle.htmd_html5_state.specs.Foreign.{current_is_html}
use Rattle.htmd_html5_tokens.specs.Tokens.{Read}
use Rattle.htmd_html5_tokens.specs.NextToken.{next_token}
use Rattle.htmd_html5_tokens.specs.Preprocessing.{preprocessed}
use Rattle.htmd_nodes.specs.Items.{Item, greatest_depth}
use Rattle.htmd_html5.specs.Feeding.{feed}
use Rattle.htmd_html5_tokens.specs.Tokens as tokens

-- the next token; in foreign content a CDATA section is text
abbrev pub next_read : List ℕ → StateValue → Read
next_read text s = next_token s.content (not (current_is_html s.stack)) text

abbrev pub is_end : tokens.TokenValue → Bool
is_end tokens.end_of_file = true
is_end _ = false

abbrev pub after_token : (List ℕ → StateValue → StateValue) → Read → StateValue → StateValue
after_token go read s =
    if is_end read.token then feed read.token s else go read.rest (feed read.token s)

-- all tokens of a text; each has at least one character
abbrev pub read_within : ℕ → List ℕ → StateValue → StateValue
read_within zero text s = feed tokens.end_of_file s
read_within (suc k) text s = after_token (read_within k) (next_read text s) s

abbrev pub read_all : List ℕ → StateValue → StateValue
read_all text s = read_within (length text) text s

abbrev pub state_after : Bool → List ℕ → StateValue
state_after scripting text = read_all (preprocessed text) (initial_state scripting)

unfoldable pub html5_document : Bool → List ℕ → List Item
html5_document scripting text = document_of greatest_depth (state_after scripting text).nodes
