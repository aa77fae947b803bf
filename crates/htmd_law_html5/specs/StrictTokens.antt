-- The tokens of a text of the strict grammar, as the lenient reader's tokenizer reads them.
use Rattle.std.specs.Prelude.{◌≡◌, ◌⊎◌, ℕ, zero, suc, Bool, true, false, not, ◌&&◌, ◌||◌, ◌==◌, if◌then◌else◌, List}
use Rattle.std.specs.Prelude.{[], ◌∷◌, ◌++◌}
use Rattle.std.specs.Prelude.{length, codes}
use Rattle.std.specs.Str.{bytes_eq}
use Rattle.std.specs.Bool.{MatchBool}
use Rattle.htmd_lexical.specs.AttributePairs.{AttributePair}
use Rattle.htmd_values.specs.ValueTrees.{ValueTree, ValueForest, none, more}
use Rattle.htmd_lexical.specs.CharacterClasses.{is_among}
use Rattle.htmd_lexical.specs.Characters.{line_feed}
use Rattle.htmd_grammar.specs.RawContent.{drops_line_feed}
use Rattle.htmd_grammar.specs.Rules.{project}
use Rattle.htmd_values.specs.Serialisation.{is_void}
use Rattle.htmd_grammar.specs.Grammar.{begins_with_row, reads}
use Rattle.htmd_grammar.specs.Nesting.{is_table, is_tbody, is_table_part}
use Rattle.htmd_grammar.specs.HtmlDocuments.{below_body}
use Rattle.htmd_html5_tokens.specs.Tokens.{TagValue, TokenValue, start_tag, end_tag, text, comment, Read}
use Rattle.htmd_html5_tokens.specs.NextToken.{next_token}
use Rattle.htmd_lexical.specs.declared.content_model.ContentModel.{ContentModel}
use Rattle.htmd_lexical.specs.declared.content_model.ContentModel.TheVariants.{Normal, Raw}
use Rattle.htmd_html5.specs.Html5Documents.{is_end}
use Rattle.htmd_law_html5.specs.StrictReferences.{IsUnambiguous}
use Rattle.htmd_values.specs.ValueTrees as trees
use Rattle.htmd_lexical.specs.declared.content_model.RawElement.TheVariants as raw

-- ---- the tokenizer, told by each start tag what the element holds (HTML Standard, 13.2.6.4)

-- `noscript` holds only text if scripting is on
abbrev pub content_in : Bool → List ℕ → ContentModel
content_in scripting n =
    if bytes_eq n (codes "title") then Raw raw.Title
    else if bytes_eq n (codes "textarea") then Raw raw.Textarea
    else if bytes_eq n (codes "style") then Raw raw.Style
    else if bytes_eq n (codes "script") then Raw raw.Script
    else if bytes_eq n (codes "xmp") then Raw raw.Xmp
    else if bytes_eq n (codes "iframe") then Raw raw.Iframe
    else if bytes_eq n (codes "noembed") then Raw raw.Noembed
    else if bytes_eq n (codes "noframes") then Raw raw.Noframes
    else if bytes_eq n (codes "plaintext") then Raw raw.Plaintext
    else if bytes_eq n (codes "noscript") && scripting then Raw raw.Noscript
    else Normal

-- what follows a token
abbrev pub content_after : Bool → ContentModel → TokenValue → ContentModel
content_after scripting now (start_tag tag) = content_in scripting tag.name
content_after scripting now (end_tag tag) = Normal
content_after scripting now _ = now

abbrev pub tokens_after : (ContentModel → List ℕ → List TokenValue) → Bool → ContentModel → Read
    → List TokenValue
tokens_after go scripting now read =
    if is_end read.token then [] else read.token ∷ go (content_after scripting now read.token) read.rest

abbrev pub tokens_within : Bool → ℕ → ContentModel → List ℕ → List TokenValue
tokens_within scripting zero now s = []
tokens_within scripting (suc k) now s =
    tokens_after (tokens_within scripting k) scripting now (next_token now false s)

-- all tokens of a text outside foreign content; each has at least one character
abbrev pub tokens_of_text : Bool → List ℕ → List TokenValue
tokens_of_text scripting s = tokens_within scripting (length s) Normal s

-- ---- the tokens of a tree

abbrev pub tag_named : List ℕ → List AttributePair → Bool → TagValue
tag_named n attributes slash = record { name = n; attributes = attributes; self_closing = slash }

abbrev pub with_text_token : List ℕ → List TokenValue → List TokenValue
with_text_token [] tokens = tokens
with_text_token (b ∷ u) tokens = text (b ∷ u) ∷ tokens

-- without the line feed with which their first text begins
abbrev pub after_feed : List TokenValue → List TokenValue
after_feed (text (b ∷ u) ∷ tokens) = if b == line_feed then with_text_token u tokens else text (b ∷ u) ∷ tokens
after_feed tokens = tokens

-- the tokens that an element's content has of these
abbrev pub content_tokens : List ℕ → List TokenValue → List TokenValue
content_tokens n tokens = if drops_line_feed n then after_feed tokens else tokens

-- where the end tag of a `tbody` may be absent: at the end of its table, and before the next part of it
abbrev pub end_rows : List TokenValue → Bool
end_rows [] = true
end_rows (start_tag tag ∷ tokens) = is_table_part tag.name
end_rows tokens = false

abbrev mutual
  -- a text and a comment are one token each; an element is its start tag, its content and its end tag, and if it is
  -- void its start tag alone, which may have a `/`
  pub SpellsTree : ValueTree → List TokenValue → Type 0
  SpellsTree (trees.document children) tokens = ⊥
  SpellsTree trees.doctype tokens = ⊥
  SpellsTree (trees.text u) tokens = tokens ≡ text u ∷ []
  SpellsTree (trees.comment u) tokens = tokens ≡ comment u ∷ []
  SpellsTree (trees.element n attributes children) tokens =
      (slash : Bool) × (content end : List TokenValue)
      × (tokens ≡ start_tag (tag_named n attributes slash) ∷ (content ++ end))
      × MatchBool (is_table n) (SpellsTable children content) (SpellsForest children (content_tokens n content))
      × MatchBool (is_void n) ((children ≡ none) × (end ≡ []))
      ((slash ≡ false) × (end ≡ end_tag (tag_named n [] false) ∷ []))

  -- one tree after another
  pub SpellsForest : ValueForest → List TokenValue → Type 0
  SpellsForest none tokens = tokens ≡ []
  SpellsForest (more t ts) tokens =
      (first others : List TokenValue) × (tokens ≡ first ++ others) × SpellsTree t first × SpellsForest ts others

  -- what a table holds: a tree may be rows without the start tag of their `tbody`
  pub SpellsTable : ValueForest → List TokenValue → Type 0
  SpellsTable none tokens = tokens ≡ []
  SpellsTable (more t ts) tokens =
      (first others : List TokenValue) × (tokens ≡ first ++ others)
      × (SpellsTree t first ⊎ SpellsRows (end_rows others) t first) × SpellsTable ts others

  -- its end tag is there, or may be absent
  pub SpellsRows : Bool → ValueTree → List TokenValue → Type 0
  SpellsRows ends (trees.element n attributes children) tokens =
      (content end : List TokenValue) × (tokens ≡ content ++ end) × (is_tbody n ≡ true) × (attributes ≡ [])
      × (begins_with_row children ≡ true) × SpellsForest children content
      × (((end ≡ []) × (ends ≡ true)) ⊎ (end ≡ end_tag (tag_named (codes "tbody") [] false) ∷ []))
  SpellsRows ends _ tokens = ⊥

-- ---- elements that are set aside

-- a `textarea` holds only text and drops a line feed; a script ends by rules of its own
abbrev pub is_set_aside : List ℕ → Bool
is_set_aside n = is_among (codes "textarea" ∷ codes "script" ∷ []) n

-- a `tbody` that begins with a row may have no tags
abbrev pub may_be_implied : List ℕ → ValueForest → Bool
may_be_implied n children = is_tbody n && begins_with_row children

abbrev mutual
  pub is_simple_tree : ValueTree → Bool
  is_simple_tree (trees.element n attributes children) =
      not (is_set_aside n) && not (may_be_implied n children)
      && (if is_table n then is_simple_table children else is_simple children)
  is_simple_tree _ = true

  -- the trees hold no such element
  pub is_simple : ValueForest → Bool
  is_simple none = true
  is_simple (more t ts) = is_simple_tree t && is_simple ts

  -- in a table there may be such a `tbody`
  pub is_simple_table : ValueForest → Bool
  is_simple_table none = true
  is_simple_table (more t ts) = (is_simple_tree t || is_simple_body t) && is_simple_table ts

  pub is_simple_body : ValueTree → Bool
  is_simple_body (trees.element n attributes children) = may_be_implied n children && is_simple children
  is_simple_body _ = false

-- ---- the law

-- Of an unambiguous text that denotes such trees by the strict grammar, the tokens are those of the trees, in order.
abbrev pub TokensAgree : Type 0
TokensAgree =
    (scripting : Bool) (s : List ℕ) (content : ValueForest) → IsUnambiguous s → is_simple content ≡ true
    → reads (project scripting) below_body s content → SpellsForest content (tokens_of_text scripting s)
