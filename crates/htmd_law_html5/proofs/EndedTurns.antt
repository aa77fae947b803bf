-- Whatever processes a token again goes forward in the order of the modes for that token or closes an element.
use Rattle.std.proofs.Common.{Bool, List, arith, false, length, refl, suc, sym, true, zero, ℕ, [], ◌+◌, ◌-◌, ◌<◌, ◌∷◌}
use Rattle.std.proofs.Common.{◌≡◌, ◌≤◌}
use Rattle.std.proofs.lemmas.Bool.{and_parts, leb-true, ltb-true, true≢false}
use Rattle.std.specs.Prelude.{if◌then◌else◌, nat_le, nat_lt, not, ◌&&◌, ◌||◌}
use Rattle.htmd_lexical.proofs.Cases.{test}
use Rattle.htmd_html5.specs.ForeignContent.{break_out, end_breaks_out, in_foreign_content, is_foreign, tag_breaks_out}
use Rattle.htmd_html5.specs.Modes.{by_mode_rules}
use Rattle.htmd_html5.specs.Outcomes.{Outcome, done}
use Rattle.htmd_html5.specs.Processing.{by_rules, turns}
use Rattle.htmd_html5.specs.Runs.{first_run}
use Rattle.htmd_html5.specs.Texts.{first_token}
use Rattle.htmd_html5.specs.Tokens.{StartTagValue, TokenValue, end_of_file, end_tag, run, start_tag}
use Rattle.htmd_law_html5.proofs.OpenNodes.{clear_to_fewer, fewer_then, leave_foreign_fewer, pop_fewer}
use Rattle.htmd_law_html5.proofs.OpenNodes.{pop_through_fewer}
use Rattle.htmd_law_html5.proofs.RuleBook.{end_in, rule_in, start_in}
use Rattle.htmd_law_html5.proofs.RuleWalk.{in_mode_as, is_run, tag_of}
use Rattle.htmd_law_html5.proofs.Rules.{Act, Reply, Rule, act, act_on, again, again_after, back_to, body_ended}
use Rattle.htmd_law_html5.proofs.Rules.{body_put, caption_closed, cell_left, closes, columns_closed, cut, either}
use Rattle.htmd_law_html5.proofs.Rules.{element, ends, head, head_left, noscript_left, reply_of, root, row_closed}
use Rattle.htmd_law_html5.proofs.Rules.{section_closed, select_closed, select_left, table_closed, template_ended}
use Rattle.htmd_law_html5.proofs.Rules.{to_content, to_mode, to_quirks, ◌⨾◌}
use Rattle.htmd_law_html5.proofs.RunRules.{RunSteps, leave_in, run_holds}
use Rattle.htmd_law_html5.specs.EndedTurns.{MarkupIsDone, RunIsDone, is_done_within, is_markup}
use Rattle.htmd_html5_state.specs.Foreign.{foreign_end, goes_by_mode, leave_foreign}
use Rattle.htmd_html5_state.specs.Names.{NameValue, known, text_of_name}
use Rattle.htmd_html5_state.specs.OpenElements.{OpenValue, clear_to, current_is, is_in, is_in_scope, pop, pop_through}
use Rattle.htmd_html5_state.specs.OpenElements.{pop_until}
use Rattle.htmd_html5_state.specs.Resetting.{mode_of}
use Rattle.htmd_html5_state.specs.State.{StateValue, on_stack}
use Rattle.htmd_html5_state.specs.declared.modes.InsertionMode.{InsertionMode}
use Rattle.htmd_html5_state.specs.declared.modes.InsertionMode.TheVariants.{AfterAfterBody, AfterBody, AfterHead}
use Rattle.htmd_html5_state.specs.declared.modes.InsertionMode.TheVariants.{BeforeHead, BeforeHtml, InBody, InCaption}
use Rattle.htmd_html5_state.specs.declared.modes.InsertionMode.TheVariants.{InCell, InColumnGroup, InHead}
use Rattle.htmd_html5_state.specs.declared.modes.InsertionMode.TheVariants.{InHeadNoscript, InRow, InSelect}
use Rattle.htmd_html5_state.specs.declared.modes.InsertionMode.TheVariants.{InSelectInTable, InTable, InTableBody}
use Rattle.htmd_html5_state.specs.declared.modes.InsertionMode.TheVariants.{InTemplate, Initial}
use Rattle.htmd_html5_state.specs.declared.sets.NameSet.{NameSet}
use Rattle.htmd_html5_state.specs.declared.sets.NameSet.TheVariants.{Only, TableBodyContext, TableRowContext}
use Rattle.htmd_html5_state.specs.declared.sets.Scope.{Scope}
use Rattle.htmd_html5_state.specs.declared.sets.Scope.TheVariants.{Select as SelectScope, Table as TableScope}
use Rattle.htmd_law_html5.proofs.Rules as rules
use Rattle.htmd_html5_state.specs.declared.names.TagName.TheVariants as tags

-- ---- the order of the modes

-- in which a token with that name is processed, one after another
abbrev table_order : NameValue → ℕ
table_order (known tags.Table) = 0
table_order _ = 4

abbrev section_order : NameValue → ℕ
section_order (known tags.Td) = 6
section_order (known tags.Th) = 6
section_order (known tags.Tr) = 8
section_order (known tags.Table) = 0
section_order _ = 3

abbrev row_order : NameValue → ℕ
row_order (known tags.Td) = 8
row_order (known tags.Th) = 8
row_order (known tags.Table) = 0
row_order _ = 2

abbrev column_order : NameValue → ℕ
column_order (known tags.Col) = 8
column_order (known tags.Table) = 0
column_order _ = 3

abbrev after_order : NameValue → ℕ
after_order (known tags.Html) = 9
after_order _ = 7

abbrev order : NameValue → InsertionMode → ℕ
order name Initial = 0
order name BeforeHtml = 1
order name BeforeHead = 3
order name InHead = 5
order name InHeadNoscript = 4
order name AfterHead = 6
order name InBody = 8
order name InTable = table_order name
order name InCaption = 3
order name InColumnGroup = column_order name
order name InTableBody = section_order name
order name InRow = row_order name
order name InCell = 1
order name InSelect = 0
order name InSelectInTable = 0
order name InTemplate = 1
order name AfterBody = after_order name
order name AfterAfterBody = 7
order name _ = 9

-- whose name counts: a start tag's, and of end tags that of the root
abbrev order_name : TokenValue → NameValue
order_name (start_tag tag) = tag.name
order_name (end_tag (known tags.Html)) = known tags.Html
order_name _ = known tags.P

abbrev rank_of : TokenValue → InsertionMode → ℕ
rank_of token mode = 9 - order (order_name token) mode

rank_bound : (token : TokenValue) (mode : InsertionMode) → rank_of token mode ≤ 9
rank_bound token mode = omega arith

-- ---- how many elements are open

through_shorter : (wanted : OpenValue → Bool) (e : OpenValue) (es : List OpenValue)
    → length (pop_through wanted (e ∷ es)) < suc (length es)
through_shorter wanted e es =
    test (wanted e) (λ t. rw t (omega arith))
    (λ t. rw t (let a = (pop_through_fewer wanted es).shorter in omega arith))

-- where something is in scope, one is popped at least
until_shorter : (set : NameSet) (scope : Scope) (sought : NameSet) (stack : List OpenValue)
    → is_in_scope sought scope stack ≡ true → length (pop_until set stack) < length stack
until_shorter set scope sought [] t = absurd (true≢false (sym t))
until_shorter set scope sought (e ∷ es) t = through_shorter (is_in set) e es

current_shorter : (set : NameSet) (stack : List OpenValue) → current_is set stack ≡ true
    → length (pop stack) < length stack
current_shorter set [] t = absurd (true≢false (sym t))
current_shorter set (e ∷ es) t = omega arith

-- ---- outcomes

-- what is processed again is of a lower rank
record Falls (rank : InsertionMode → ℕ) (limit : ℕ) (s : StateValue) (a : Outcome) : Type 0 where
  falls : a.again ≡ true → length a.state.stack + rank a.state.mode < length s.stack + limit

stops : {rank : InsertionMode → ℕ} {limit : ℕ} {s t : StateValue} → Falls rank limit s (done t)
stops = record { falls = λ e. absurd (true≢false (sym e)) }

falls_either : {rank : InsertionMode → ℕ} {limit : ℕ} {s : StateValue} {x y : Outcome} (b : Bool)
    → Falls rank limit s x → Falls rank limit s y → Falls rank limit s (if b then x else y)
falls_either true f g = f
falls_either false f g = g

-- ---- the rules that process a token again

-- whether it is of a rank below a limit then
abbrev rule_drops : (InsertionMode → ℕ) → ℕ → Rule → Bool
rule_drops rank limit (act (root given)) = nat_lt (suc (rank BeforeHead)) limit
rule_drops rank limit (act (body_put given)) = nat_lt (suc (rank InBody)) limit
rule_drops rank limit (act (cut (back_to set)) ⨾ act (element given) ⨾ act (to_mode next)) =
    nat_lt (suc (rank next)) limit
rule_drops rank limit (act (head given)) = nat_lt (suc (rank InHead)) limit
rule_drops rank limit (act head_left) = nat_lt (rank AfterHead) limit
rule_drops rank limit (act noscript_left) = nat_lt (rank InHead) limit
rule_drops rank limit (act (cell_left set)) = nat_lt (rank InRow) limit
rule_drops rank limit (act select_left) = nat_lt (rank InBody) limit && nat_le 9 limit
rule_drops rank limit (act to_quirks) = nat_lt (rank BeforeHtml) limit
rule_drops rank limit (act (to_content next)) = nat_lt (rank next) limit
rule_drops rank limit (act (to_mode next)) = nat_lt (rank next) limit
rule_drops rank limit r = false

-- where the act closes something
abbrev act_drops : (InsertionMode → ℕ) → ℕ → Act → Bool
act_drops rank limit table_closed = nat_le 9 limit
act_drops rank limit caption_closed = nat_lt (rank InTable) limit
act_drops rank limit columns_closed = nat_le (rank InTable) limit
act_drops rank limit (section_closed set) = nat_lt (rank InTable) limit
act_drops rank limit row_closed = nat_lt (rank InTableBody) limit
act_drops rank limit select_closed = nat_le 9 limit
act_drops rank limit a = false

abbrev drops : (InsertionMode → ℕ) → ℕ → Reply → Bool
drops rank limit (ends r) = true
drops rank limit (again r) = rule_drops rank limit r
drops rank limit (again_after a) = act_drops rank limit a
drops rank limit (either test first other) = drops rank limit first && drops rank limit other
drops rank limit body_ended = nat_lt (rank AfterBody) limit
drops rank limit template_ended = false

module _ (rank : InsertionMode → ℕ) (bound : (mode : InsertionMode) → rank mode ≤ 9) (limit : ℕ)
    (tag : StartTagValue) (s : StateValue) where
  abbrev IsLower : StateValue → Type 0
  IsLower new = length new.stack + rank new.mode < length s.stack + limit

  -- where no element is open, the mode is that of the body then
  select_lower : rank InBody < limit → 9 ≤ limit → (stack : List OpenValue)
      → length (pop_until (Only tags.Select) stack)
      + rank (mode_of (pop_until (Only tags.Select) stack) (on_stack (pop_until (Only tags.Select)) s))
      < length stack + limit
  select_lower l m [] = omega arith
  select_lower l m (e ∷ es) =
      let a = bound (mode_of (pop_until (Only tags.Select) (e ∷ es)) (on_stack (pop_until (Only tags.Select)) s)) in
      let b = through_shorter (is_in (Only tags.Select)) e es in
      omega arith

  reset_lower : 9 ≤ limit → (set : NameSet) → length (pop_until set s.stack) < length s.stack
      → length (pop_until set s.stack) + rank (mode_of (pop_until set s.stack) (on_stack (pop_until set) s))
      < length s.stack + limit
  reset_lower m set l = let a = bound (mode_of (pop_until set s.stack) (on_stack (pop_until set) s)) in omega arith

  rule_lower : (r : Rule) → rule_drops rank limit r ≡ true → IsLower (rules.run r tag s)
  rule_lower (act (root given)) e = let l = ltb-true _ _ e in omega arith
  rule_lower (act (body_put given)) e = let l = ltb-true _ _ e in omega arith
  rule_lower (act (cut (back_to set)) ⨾ act (element given) ⨾ act (to_mode next)) e =
      let l = ltb-true _ _ e in let a = (clear_to_fewer set s.stack).shorter in omega arith
  rule_lower (act (head given)) e = let l = ltb-true _ _ e in omega arith
  rule_lower (act head_left) e = let l = ltb-true _ _ e in let a = (pop_fewer s.stack).shorter in omega arith
  rule_lower (act noscript_left) e = let l = ltb-true _ _ e in let a = (pop_fewer s.stack).shorter in omega arith
  rule_lower (act (cell_left set)) e =
      let l = ltb-true _ _ e in let a = (pop_through_fewer (is_in set) s.stack).shorter in omega arith
  rule_lower (act select_left) e =
      let a = and_parts _ _ e in select_lower (ltb-true _ _ a.0) (leb-true _ _ a.1) s.stack
  rule_lower (act to_quirks) e = let l = ltb-true _ _ e in omega arith
  rule_lower (act (to_content next)) e = let l = ltb-true _ _ e in omega arith
  rule_lower (act (to_mode next)) e = let l = ltb-true _ _ e in omega arith
  rule_lower r e = absurd (true≢false (sym e))

  act_lower : (a : Act) → act_drops rank limit a ≡ true → closes a s ≡ true → IsLower (act_on a tag s)
  act_lower table_closed e t =
      rw t (reset_lower (leb-true _ _ e) (Only tags.Table)
      (until_shorter (Only tags.Table) TableScope (Only tags.Table) s.stack t))
  act_lower caption_closed e t =
      let l = ltb-true _ _ e in
      let a = (pop_through_fewer (is_in (Only tags.Caption)) s.stack).shorter in
      rw t (omega arith)
  act_lower columns_closed e t =
      let l = leb-true _ _ e in let a = current_shorter (Only tags.ColGroup) s.stack t in rw t (omega arith)
  act_lower (section_closed set) e t =
      let l = ltb-true _ _ e in
      let a = (fewer_then (pop_fewer (clear_to TableBodyContext s.stack))
      (clear_to_fewer TableBodyContext s.stack)).shorter in
      rw t (omega arith)
  act_lower row_closed e t =
      let l = ltb-true _ _ e in
      let a = (fewer_then (pop_fewer (clear_to TableRowContext s.stack))
      (clear_to_fewer TableRowContext s.stack)).shorter in
      rw t (omega arith)
  act_lower select_closed e t =
      rw t (reset_lower (leb-true _ _ e) (Only tags.Select)
      (until_shorter (Only tags.Select) SelectScope (Only tags.Select) s.stack t))
  act_lower a e t = absurd (true≢false (sym e))

  reply_falls : (r : Reply) → drops rank limit r ≡ true → Falls rank limit s (reply_of r tag s)
  reply_falls (ends r) e = stops
  reply_falls (again r) e = record { falls = λ t. rule_lower r e }
  reply_falls (again_after a) e = record { falls = λ t. act_lower a e t }
  reply_falls (either test first other) e =
      falls_either (test s) (reply_falls first (and_parts _ _ e).0) (reply_falls other (and_parts _ _ e).1)
  reply_falls body_ended e = record { falls = λ t. let l = ltb-true _ _ e in rw t (omega arith) }
  reply_falls template_ended e = absurd (true≢false (sym e))

-- ---- the modes

starts_drop : (name : NameValue) (mode : InsertionMode)
    → drops (λ next. 9 - order name next) (9 - order name mode) (start_in mode name) ≡ true
starts_drop (known tags.A) Initial = refl
starts_drop name BeforeHtml = refl
starts_drop name mode = refl

ends_drop : (name : NameValue) (mode : InsertionMode)
    → drops (rank_of (end_tag name)) (rank_of (end_tag name) mode) (end_in mode name) ≡ true
ends_drop (known tags.A) Initial = refl
ends_drop name BeforeHtml = refl
ends_drop name mode = refl

all_drop : (mode : InsertionMode) (token : TokenValue) → is_markup token ≡ true
    → drops (rank_of token) (rank_of token mode) (rule_in mode token) ≡ true
all_drop mode (start_tag tag) p = starts_drop tag.name mode
all_drop mode (end_tag name) p = ends_drop name mode
all_drop mode end_of_file p = absurd (true≢false (sym p))
all_drop Initial token p = refl
all_drop mode token p = refl

no_run : (token : TokenValue) → is_markup token ≡ true → is_run token ≡ false
no_run (run kind text) p = absurd (true≢false (sym p))
no_run _ p = refl

mode_falls : (token : TokenValue) (s : StateValue) → is_markup token ≡ true
    → Falls (rank_of token) (rank_of token s.mode) s (by_mode_rules token s)
mode_falls token s p =
    in_mode_as (λ f. Falls (rank_of token) (rank_of token s.mode) s (f s)) token (no_run token p) s.mode
    (reply_falls (rank_of token) (rank_bound token) (rank_of token s.mode) (tag_of token) s (rule_in s.mode token)
    (all_drop s.mode token p))

-- ---- foreign content

-- out of it no more is open
breaks_falls : (token : TokenValue) (s : StateValue) → is_markup token ≡ true
    → Falls (rank_of token) (rank_of token s.mode) s (break_out token s)
breaks_falls token s p = record {
  falls = λ e.
      let a = (leave_foreign_fewer s.nodes s.stack).shorter in
      let b = (mode_falls token (on_stack (leave_foreign s.nodes) s) p).falls e in
      omega arith;
}

foreign_falls : (token : TokenValue) (s : StateValue) → is_markup token ≡ true
    → Falls (rank_of token) (rank_of token s.mode) s (in_foreign_content token s)
foreign_falls (start_tag tag) s p =
    falls_either (tag_breaks_out tag.name tag.attributes) (breaks_falls (start_tag tag) s p) stops
foreign_falls (end_tag name) s p =
    falls_either (end_breaks_out name) (breaks_falls (end_tag name) s p)
    (falls_either (goes_by_mode (foreign_end (text_of_name name) s.stack)) (mode_falls (end_tag name) s p) stops)
foreign_falls _ s p = stops

rules_fall : (token : TokenValue) (s : StateValue) → is_markup token ≡ true
    → Falls (rank_of token) (rank_of token s.mode) s (by_rules token s)
rules_fall token s p = falls_either (is_foreign token s) (foreign_falls token s p) (mode_falls token s p)

-- ---- turns

within_turns : (token : TokenValue)
    → ((s : StateValue) → Falls (rank_of token) (rank_of token s.mode) s (by_rules token s)) → (k : ℕ)
    (s : StateValue) → length s.stack + rank_of token s.mode < k → is_done_within k token s ≡ true
within_turns token fall zero s l = absurd (omega arith)
within_turns token fall (suc k) s l =
    test (by_rules token s).again
    (λ e. rw e (within_turns token fall k (by_rules token s).state (let a = (fall s).falls e in omega arith)))
    (λ e. rw e refl)

-- ---- runs

run_steps : (t : List ℕ) (s : StateValue)
    → RunSteps (λ mode f. Falls (rank_of end_of_file) (rank_of end_of_file mode) s (f s)) t
run_steps t s = record {
  left_out = λ mode. stops;
  put = λ mode. stops;
  body = λ mode b. stops;
  table = λ mode b. stops;
  leave = λ mode. reply_falls (rank_of end_of_file) (rank_bound end_of_file) (rank_of end_of_file mode)
      (tag_of end_of_file) s (leave_in mode) (leave_drops mode);
}
  where
    leave_drops : (mode : InsertionMode)
        → drops (rank_of end_of_file) (rank_of end_of_file mode) (leave_in mode) ≡ true
    leave_drops Initial = refl
    leave_drops mode = refl

run_falls : (text : List ℕ) (s : StateValue)
    → Falls (rank_of end_of_file) (rank_of end_of_file s.mode) s (by_rules (first_token text) s)
run_falls text s =
    falls_either (is_foreign (first_token text) s) stops
    (run_holds (λ mode f. Falls (rank_of end_of_file) (rank_of end_of_file mode) s (f s)) (first_run text)
    (run_steps (first_run text) s) s.mode text)

pub run_done : RunIsDone
run_done text s =
    within_turns (first_token text) (run_falls text) (turns s) s
    (let a = rank_bound (first_token text) s.mode in omega arith)

-- what is processed again is done within one turn less
pub done_again : (k : ℕ) (token : TokenValue) (s : StateValue) → is_done_within (suc k) token s ≡ true
    → (by_rules token s).again ≡ true → is_done_within k token (by_rules token s).state ≡ true
done_again k token s e f =
    still_done (by_rules token s).again (is_done_within k token (by_rules token s).state) e f
  where
    still_done : (b more : Bool) → (not b || more) ≡ true → b ≡ true → more ≡ true
    still_done true more e f = e
    still_done false more e f = absurd (true≢false (sym f))

-- ---- tags, comments and doctypes

pub markup_done : MarkupIsDone
markup_done token s p =
    within_turns token (λ t. rules_fall token t p) (turns s) s (let a = rank_bound token s.mode in omega arith)
