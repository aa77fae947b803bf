-- One walk over the rules of the modes: what holds of each act, and of acts one after another, holds of each token that
-- is no text.
use Rattle.std.proofs.Common.{◌≡◌, ℕ, Bool, true, false, List, [], refl}
use Rattle.std.specs.Prelude.{if◌then◌else◌}
use Rattle.std.proofs.lemmas.Bool.{true≢false, and_parts}
use Rattle.htmd_lexical.specs.AttributePairs.{AttributePair}
use Rattle.htmd_html5_state.specs.Names.{NameValue, known, text_of_name}
use Rattle.htmd_html5_state.specs.OpenElements.{OpenValue}
use Rattle.htmd_html5_state.specs.State.{StateValue, on_stack}
use Rattle.htmd_html5_state.specs.Foreign.{leave_foreign, foreign_end}
use Rattle.htmd_html5_state.specs.declared.modes.InsertionMode.{InsertionMode}
use Rattle.htmd_html5_state.specs.declared.modes.InsertionMode.TheVariants.{AfterBody, BeforeHtml, Initial}
use Rattle.htmd_html5.specs.Tokens.{StartTagValue, TokenValue, start_tag, end_tag, run, comment, doctype, end_of_file}
use Rattle.htmd_html5.specs.Outcomes.{Outcome, outcome, done}
use Rattle.htmd_html5.specs.BodyStarts.{block_rule, formatting_rule, phrasing_rule}
use Rattle.htmd_html5.specs.BodyEnds.{has_body, text_end_rule}
use Rattle.htmd_html5.specs.InBody.{end_of_file_in_template}
use Rattle.htmd_html5.specs.InTable.{fostered}
use Rattle.htmd_html5.specs.ForeignContent.{is_foreign, tag_breaks_out, end_breaks_out, start_in_foreign, end_foreign}
use Rattle.htmd_html5.specs.ForeignContent.{end_in_foreign, in_foreign_content}
use Rattle.htmd_html5.specs.Modes.{in_mode, by_mode_rules}
use Rattle.htmd_html5.specs.Processing.{by_rules}
use Rattle.htmd_law_html5.proofs.OpenNodes.{Fewer, close_fewer, pop_while_fewer, clear_to_fewer, pop_until_fewer}
use Rattle.htmd_law_html5.proofs.OpenNodes.{close_name_fewer, close_heading_fewer, close_option_fewer}
use Rattle.htmd_law_html5.proofs.OpenNodes.{option_and_group_fewer, group_fewer}
use Rattle.htmd_law_html5.proofs.Rules.{Cut, in_scope, each_of, back_to, one_of, named, heading, option}
use Rattle.htmd_law_html5.proofs.Rules.{option_and_group, group, left_open, Act, act_on, foreign_alike, Rule, nothing}
use Rattle.htmd_law_html5.proofs.Rules.{act, ◌⨾◌, when, Reply, ends, again, again_after, either, body_ended}
use Rattle.htmd_law_html5.proofs.Rules.{template_ended, reply_of, fits, turn_fits, last_fits, reply_fits, foster}
use Rattle.htmd_law_html5.proofs.Rules.{fostering, to_mode}
use Rattle.htmd_law_html5.proofs.RuleBook.{start_in, end_in, rule_in}
use Rattle.htmd_html5_state.specs.declared.names.TagName.TheVariants as tags
use Rattle.htmd_law_html5.proofs.Rules as rules

pub left_fewer : (what : Cut) (stack : List OpenValue) → Fewer (left_open what stack) stack
left_fewer (in_scope set scope) stack = close_fewer set scope stack
left_fewer (each_of set) stack = pop_while_fewer set stack
left_fewer (back_to set) stack = clear_to_fewer set stack
left_fewer (one_of set) stack = pop_until_fewer set stack
left_fewer (named name) stack = close_name_fewer name stack
left_fewer heading stack = close_heading_fewer stack
left_fewer option stack = close_option_fewer stack
left_fewer option_and_group stack = option_and_group_fewer stack
left_fewer group stack = group_fewer stack

-- a token that is no text, and whose name is one of these if it is a start tag
abbrev pub IsMarkup : (NameValue → Bool) → TokenValue → Type 0
IsMarkup names (run kind s) = true ≡ false
IsMarkup names (start_tag tag) = names tag.name ≡ true
IsMarkup names _ = Unit {0}

-- the tag whose element a rule may insert, and its name
abbrev pub tag_of : TokenValue → StartTagValue
tag_of (start_tag tag) = tag
tag_of _ = record { name = known tags.P; attributes = []; self_closing = false }

abbrev pub tag_name : TokenValue → NameValue
tag_name t = (tag_of t).name

-- ---- each mode does what its rules say

abbrev pub is_run : TokenValue → Bool
is_run (run kind text) = true
is_run _ = false

pub no_text : (names : NameValue → Bool) (t : TokenValue) → IsMarkup names t → is_run t ≡ false
no_text names (run kind text) p = p
no_text names _ p = refl

module _ (A : (StateValue → Outcome) → Type 0) where
  starts_as : (name : NameValue) (attributes : List AttributePair) (closing : Bool) (mode : InsertionMode)
      → A (reply_of (start_in mode name) (record { name = name; attributes = attributes; self_closing = closing }))
      → A (in_mode mode (start_tag (record { name = name; attributes = attributes; self_closing = closing })))
  unfolding block_rule formatting_rule phrasing_rule
  starts_as (known tags.A) attributes closing Initial h = h
  starts_as name attributes closing BeforeHtml h = h
  starts_as name attributes closing mode h = h

  ends_as : (name : NameValue) (mode : InsertionMode)
      → A (reply_of (end_in mode name) (tag_of (end_tag name))) → A (in_mode mode (end_tag name))
  unfolding text_end_rule
  ends_as (known tags.A) Initial h = h
  ends_as name BeforeHtml h = h
  ends_as name mode h = h

  pub in_mode_as : (t : TokenValue) → is_run t ≡ false → (mode : InsertionMode)
      → A (reply_of (rule_in mode t) (tag_of t)) → A (in_mode mode t)
  in_mode_as (start_tag tag) e mode h = starts_as tag.name tag.attributes tag.self_closing mode h
  in_mode_as (end_tag name) e mode h = ends_as name mode h
  in_mode_as (run kind text) e mode h = absurd (true≢false e)
  in_mode_as t e Initial h = h
  in_mode_as t e mode h = h

-- what holds of a step (P), of what is done for a token that is processed again (U) or not (T), and of an outcome (A),
-- if each start tag has one of these names, the mode is one of these, and each act, and the last act, is allowed for a
-- tag of that name
pub record Invariant (names : NameValue → Bool) (Modes : InsertionMode → Type 0)
    (may turn last : NameValue → Act → Bool) (P U T : (StateValue → StateValue) → Type 0)
    (A : (StateValue → Outcome) → Type 0)
    : Type 0 where
  -- each act, and each rule
  pub acts : (tag : StartTagValue) → names tag.name ≡ true → (a : Act) → may tag.name a ≡ true
      → P (act_on a tag)
  pub turn_acts : (tag : StartTagValue) → names tag.name ≡ true → (a : Act) → turn tag.name a ≡ true
      → U (act_on a tag)
  pub last_acts : (tag : StartTagValue) → names tag.name ≡ true → (a : Act) → last tag.name a ≡ true
      → T (act_on a tag)
  pub fit : (mode : InsertionMode) → Modes mode → (t : TokenValue) → IsMarkup names t
      → reply_fits (may (tag_name t)) (turn (tag_name t)) (last (tag_name t)) (rule_in mode t) ≡ true
  -- rules put together
  pub still : P (λ s. s)
  pub after : {f g : StateValue → StateValue} → P f → P g → P (λ s. f (g s))
  pub by_test : {f g : StateValue → StateValue} (b : StateValue → Bool) → P f → P g
      → P (λ s. if b s then f s else g s)
  pub fosters : {f : StateValue → StateValue} (name : NameValue) → may name fostering ≡ true → P f
      → P (fostered f)
  pub onward : {f : StateValue → StateValue} → P f → U f
  pub turn_after : {f g : StateValue → StateValue} → U f → P g → U (λ s. f (g s))
  pub turn_by_test : {f g : StateValue → StateValue} (b : StateValue → Bool) → U f → U g
      → U (λ s. if b s then f s else g s)
  pub calm : {f : StateValue → StateValue} → P f → T f
  pub last_after : {f g : StateValue → StateValue} → T f → P g → T (λ s. f (g s))
  pub last_by_test : {f g : StateValue → StateValue} (b : StateValue → Bool) → T f → T g
      → T (λ s. if b s then f s else g s)
  pub last_fosters : {f : StateValue → StateValue} (name : NameValue) → may name fostering ≡ true → T f
      → T (fostered f)
  -- answers
  pub says_done : {f : StateValue → StateValue} → T f → A (λ s. done (f s))
  pub says : {f : StateValue → StateValue} {more : StateValue → Bool} → U f → A (λ s. outcome (f s) (more s))
  pub by_answer : {f g : StateValue → Outcome} (b : StateValue → Bool) → A f → A g
      → A (λ s. if b s then f s else g s)
  pub ends_template : A end_of_file_in_template

-- and it holds in any mode, and in foreign content
pub record Everywhere (names : NameValue → Bool) (Modes : InsertionMode → Type 0) (may : NameValue → Act → Bool)
    (A : (StateValue → Outcome) → Type 0)
    : Type 0 where
  pub by_mode : (t : TokenValue) → ((mode : InsertionMode) → Modes mode → A (in_mode mode t))
      → A (by_mode_rules t)
  pub alike_allowed : (name : NameValue) → may name foreign_alike ≡ true
  pub comment_allowed : (text : List ℕ) → may (known tags.P) (rules.comment text) ≡ true
  pub leaves : {f : StateValue → Outcome} → A f → A (λ s. f (on_stack (leave_foreign s.nodes) s))
  pub ends_foreign : (name : NameValue) → A (by_mode_rules (end_tag name))
      → A (λ s. end_foreign name (foreign_end (text_of_name name) s.stack) s)

module _ {names : NameValue → Bool} {Modes : InsertionMode → Type 0} {may turn last : NameValue → Act → Bool}
    {P U T : (StateValue → StateValue) → Type 0} {A : (StateValue → Outcome) → Type 0}
    (i : Invariant names Modes may turn last P U T A) (plain : names (known tags.P) ≡ true) where
  module _ (tag : StartTagValue) (p : names tag.name ≡ true) where
    holds : (r : Rule) → fits (may tag.name) r ≡ true → P (rules.run r tag)
    holds nothing e = i.still
    holds (act a) e = i.acts tag p a e
    holds (first ⨾ more) e = i.after (holds more (and_parts _ _ e).1) (holds first (and_parts _ _ e).0)
    holds (when test first other) e =
        i.by_test (test tag) (holds first (and_parts _ _ e).0) (holds other (and_parts _ _ e).1)
    holds (foster r) e = i.fosters tag.name (and_parts _ _ e).0 (holds r (and_parts _ _ e).1)

    pub turn_holds : (r : Rule) → turn_fits (may tag.name) (turn tag.name) r ≡ true → U (rules.run r tag)
    turn_holds nothing e = i.onward i.still
    turn_holds (act a) e = i.turn_acts tag p a e
    turn_holds (first ⨾ more) e = i.turn_after (turn_holds more (and_parts _ _ e).1) (holds first (and_parts _ _ e).0)
    turn_holds (when test first other) e =
        i.turn_by_test (test tag) (turn_holds first (and_parts _ _ e).0) (turn_holds other (and_parts _ _ e).1)
    turn_holds (foster r) e = i.onward (i.fosters tag.name (and_parts _ _ e).0 (holds r (and_parts _ _ e).1))

    last_holds : (r : Rule) → last_fits (may tag.name) (last tag.name) r ≡ true → T (rules.run r tag)
    last_holds nothing e = i.calm i.still
    last_holds (act a) e = i.last_acts tag p a e
    last_holds (first ⨾ more) e = i.last_after (last_holds more (and_parts _ _ e).1) (holds first (and_parts _ _ e).0)
    last_holds (when test first other) e =
        i.last_by_test (test tag) (last_holds first (and_parts _ _ e).0) (last_holds other (and_parts _ _ e).1)
    last_holds (foster r) e = i.last_fosters tag.name (and_parts _ _ e).0 (last_holds r (and_parts _ _ e).1)

    pub replies : (r : Reply) → reply_fits (may tag.name) (turn tag.name) (last tag.name) r ≡ true
        → A (reply_of r tag)
    replies (ends r) e = i.says_done (last_holds r e)
    replies (again r) e = i.says (turn_holds r e)
    replies (again_after a) e = i.says (i.turn_acts tag p a e)
    replies (either test first other) e =
        i.by_answer test (replies first (and_parts _ _ e).0) (replies other (and_parts _ _ e).1)
    replies body_ended e = i.says (i.turn_by_test has_body (i.turn_acts tag p (to_mode AfterBody) e) (i.onward i.still))
    replies template_ended e = i.ends_template

  named_so : (t : TokenValue) → IsMarkup names t → names (tag_of t).name ≡ true
  named_so (start_tag tag) p = p
  named_so t p = plain

  pub in_mode_holds : (t : TokenValue) → IsMarkup names t → (mode : InsertionMode) → Modes mode
      → A (in_mode mode t)
  in_mode_holds t p mode q =
      in_mode_as A t (no_text names t p) mode (replies (tag_of t) (named_so t p) (rule_in mode t) (i.fit mode q t p))

module _ {names : NameValue → Bool} {Modes : InsertionMode → Type 0} {may turn last : NameValue → Act → Bool}
    {P U T : (StateValue → StateValue) → Type 0} {A : (StateValue → Outcome) → Type 0}
    (i : Invariant names Modes may turn last P U T A) (b : Everywhere names Modes may A)
    (plain : names (known tags.P) ≡ true) where
  pub by_mode_holds : (t : TokenValue) → IsMarkup names t → A (by_mode_rules t)
  by_mode_holds t p = b.by_mode t (in_mode_holds i plain t p)

  -- ---- foreign content

  start_in_foreign_holds : (tag : StartTagValue) → names tag.name ≡ true → A (start_in_foreign tag)
  start_in_foreign_holds tag p =
      i.by_answer (λ s. tag_breaks_out tag.name tag.attributes) (b.leaves (by_mode_holds (start_tag tag) p))
      (i.says_done (i.calm (i.acts tag p foreign_alike (b.alike_allowed tag.name))))

  end_in_foreign_holds : (name : NameValue) → A (end_in_foreign name)
  end_in_foreign_holds name =
      i.by_answer (λ s. end_breaks_out name) (b.leaves (by_mode_holds (end_tag name) tt))
      (b.ends_foreign name (by_mode_holds (end_tag name) tt))

  in_foreign_content_holds : (t : TokenValue) → IsMarkup names t → A (in_foreign_content t)
  in_foreign_content_holds (run kind s) p = absurd (true≢false p)
  in_foreign_content_holds (start_tag tag) p = start_in_foreign_holds tag p
  in_foreign_content_holds (end_tag name) p = end_in_foreign_holds name
  in_foreign_content_holds (comment text) p =
      i.says_done (i.calm (i.acts (tag_of (comment text)) plain (rules.comment text) (b.comment_allowed text)))
  in_foreign_content_holds (doctype quirks) p = i.says_done (i.calm i.still)
  in_foreign_content_holds end_of_file p = i.says_done (i.calm i.still)

  pub by_rules_hold : (t : TokenValue) → IsMarkup names t → A (by_rules t)
  by_rules_hold t p = i.by_answer (is_foreign t) (in_foreign_content_holds t p) (by_mode_holds t p)
