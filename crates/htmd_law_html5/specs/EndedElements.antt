-- What is open while a page is read: nothing, and from the root on the root and what is in it.
use Rattle.std.specs.Prelude.{◌≡◌, ℕ, zero, suc, Bool, true, false, ◌||◌, ◌&&◌, if◌then◌else◌, List, [], ◌∷◌, length}
use Rattle.htmd_html5_tokens.specs.Preprocessing.{preprocessed}
use Rattle.htmd_html5_tokens.specs.Tokens.{Read}
use Rattle.htmd_html5_state.specs.OpenElements.{OpenValue, is_in, is_empty}
use Rattle.htmd_html5_state.specs.State.{StateValue, initial_state}
use Rattle.htmd_html5_state.specs.declared.sets.NameSet.TheVariants.{Only}
use Rattle.htmd_html5.specs.Feeding.{feed}
use Rattle.htmd_html5.specs.Html5Documents.{next_read, is_end}
use Rattle.htmd_html5_state.specs.declared.names.TagName.TheVariants as tags

-- the outermost open element is `html`; the innermost stands first
abbrev pub ends_in_html : List OpenValue → Bool
ends_in_html [] = false
ends_in_html (e ∷ []) = is_in (Only tags.Html) e
ends_in_html (e ∷ f ∷ es) = ends_in_html (f ∷ es)

-- it is so after a token, or nothing is open, as nothing was before
abbrev pub is_ended : List OpenValue → List OpenValue → Bool
is_ended before after = ends_in_html after || (is_empty before && is_empty after)

abbrev pub ended_after : (List ℕ → StateValue → Bool) → Read → StateValue → Bool
ended_after go read s =
    is_ended s.stack (feed read.token s).stack
    && (if is_end read.token then true else go read.rest (feed read.token s))

-- after each of the tokens that are read from a state on
abbrev pub ended_within : ℕ → List ℕ → StateValue → Bool
ended_within zero page s = true
ended_within (suc k) page s = ended_after (ended_within k) (next_read page s) s

-- and of those of a page
abbrev pub elements_end : Bool → List ℕ → Bool
elements_end scripting page =
    ended_within (suc (length (preprocessed page))) (preprocessed page) (initial_state scripting)

-- ---- the law

-- `html` is the outermost open element after each token of a page from the one that opens it on, and nothing is open
-- before.
abbrev pub OpenElementsEnd : Type 0
OpenElementsEnd = (scripting : Bool) (page : List ℕ) → elements_end scripting page ≡ true
