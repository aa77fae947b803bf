-- In how many modes a token is processed.
use Rattle.std.specs.Prelude.{◌≡◌, ℕ, zero, suc, Bool, true, false, not, ◌||◌, List}
use Rattle.htmd_html5_state.specs.State.{StateValue}
use Rattle.htmd_html5.specs.Tokens.{TokenValue, start_tag, end_tag, comment, doctype}
use Rattle.htmd_html5.specs.Processing.{by_rules, turns}
use Rattle.htmd_html5.specs.Texts.{first_token}

-- of so many modes, one after another, one doesn't ask for the token to be processed again
abbrev pub is_done_within : ℕ → TokenValue → StateValue → Bool
is_done_within zero token s = false
is_done_within (suc k) token s = not (by_rules token s).again || is_done_within k token (by_rules token s).state

-- neither a text nor the end of the file
abbrev pub is_markup : TokenValue → Bool
is_markup (start_tag tag) = true
is_markup (end_tag name) = true
is_markup (comment text) = true
is_markup (doctype quirks) = true
is_markup _ = false

-- A tag, a comment and a doctype are done with in the turns that a token has, in any state.
abbrev pub MarkupIsDone : Type 0
MarkupIsDone =
    (token : TokenValue) (s : StateValue) → is_markup token ≡ true → is_done_within (turns s) token s ≡ true

-- And so is the first run of any text.
abbrev pub RunIsDone : Type 0
RunIsDone = (text : List ℕ) (s : StateValue) → is_done_within (turns s) (first_token text) s ≡ true
