-- Texts leave open what must stay so.
use Rattle.std.proofs.Common.{List, length, refl, suc, true, zero, ℕ, [], ◌∙◌, ◌∷◌, ◌≡◌}
use Rattle.std.proofs.lemmas.Bool.{cond_both}
use Rattle.std.specs.List.{list_all}
use Rattle.htmd_lexical.specs.CharacterClasses.{is_empty}
use Rattle.htmd_lexical.specs.WhiteSpace.{is_ascii_white_space}
use Rattle.htmd_html5.specs.ForeignContent.{is_foreign, replacements, run_in_foreign}
use Rattle.htmd_html5.specs.InBody.{run_in_body}
use Rattle.htmd_html5.specs.InTable.{foster_runs, put_table_text, table_text, without_nulls}
use Rattle.htmd_html5.specs.Outcomes.{Outcome}
use Rattle.htmd_html5.specs.Processing.{by_rules}
use Rattle.htmd_html5.specs.Runs.{after_first_run, first_kind, first_run}
use Rattle.htmd_html5.specs.Texts.{Taken, first_token, take_within, takes_all}
use Rattle.htmd_html5.specs.Tokens.{end_of_file}
use Rattle.htmd_law_html5.proofs.EndedActs.{ended_act, ended_turn}
use Rattle.htmd_law_html5.proofs.EndedRules.{fostered_ends, no_frameset_ends}
use Rattle.htmd_law_html5.proofs.EndedStacks.{is_any}
use Rattle.htmd_law_html5.proofs.EndedStates.{Ends, ends_by_test, ends_still, insert_text_ends, reconstruct_ends}
use Rattle.htmd_law_html5.proofs.EndedStates.{then_ends}
use Rattle.htmd_law_html5.proofs.EndedSteps.{Onward, Ready, Turned, any_step, any_turn}
use Rattle.htmd_law_html5.proofs.EndedTokens.{ended}
use Rattle.htmd_law_html5.proofs.RuleWalk.{tag_of, turn_holds}
use Rattle.htmd_law_html5.proofs.Rules.{Rule, act, body_put, columns_closed, head, head_left, implied, noscript_left}
use Rattle.htmd_law_html5.proofs.Rules.{reply_of, root, to_mode, to_quirks, turn_fits}
use Rattle.htmd_law_html5.proofs.RunRules.{RunSteps, leave_in, run_holds}
use Rattle.htmd_law_html5.proofs.TakingRuns.{by_first_kind}
use Rattle.htmd_html5_state.specs.Names.{known}
use Rattle.htmd_html5_state.specs.State.{StateValue}
use Rattle.htmd_html5_state.specs.declared.modes.InsertionMode.{InsertionMode}
use Rattle.htmd_html5_state.specs.declared.modes.InsertionMode.TheVariants.{AfterAfterBody, AfterBody, AfterHead}
use Rattle.htmd_html5_state.specs.declared.modes.InsertionMode.TheVariants.{BeforeHead, BeforeHtml, InBody}
use Rattle.htmd_html5_state.specs.declared.modes.InsertionMode.TheVariants.{InColumnGroup, InHead, InHeadNoscript}
use Rattle.htmd_html5_state.specs.declared.modes.InsertionMode.TheVariants.{Initial}
use Rattle.htmd_law_html5.proofs.Rules as rules
use Rattle.htmd_html5_state.specs.declared.names.TagName.TheVariants as tags

run_in_body_ends : (s t : List ℕ) → Ends is_any (run_in_body (first_kind s) t)
run_in_body_ends s t =
    by_first_kind (λ kind. Ends is_any (run_in_body kind t)) (then_ends (insert_text_ends t) reconstruct_ends)
    ends_still (then_ends no_frameset_ends (then_ends (insert_text_ends t) reconstruct_ends)) s

-- ---- the modes

-- outcomes in a mode to a run of a text leaves the tokenizer to read on as before
abbrev RunTurns : InsertionMode → (StateValue → Outcome) → Type 0
RunTurns mode f = Onward mode (λ s. (f s).state)

left : (mode : InsertionMode) (r : Rule)
    → turn_fits (ended_act mode (known tags.P)) (ended_turn mode (known tags.P)) r ≡ true
    → Onward mode (rules.run r (tag_of end_of_file))
left mode r e = turn_holds (ended mode) refl (tag_of end_of_file) refl r e

leave_turns : (mode : InsertionMode) → RunTurns mode (reply_of (leave_in mode) (tag_of end_of_file))
leave_turns Initial = left Initial (act to_quirks) refl
leave_turns BeforeHtml = left BeforeHtml (act (root (implied tags.Html))) refl
leave_turns BeforeHead = left BeforeHead (act (head (implied tags.Head))) refl
leave_turns InHead = left InHead (act head_left) refl
leave_turns InHeadNoscript = left InHeadNoscript (act noscript_left) refl
leave_turns AfterHead = left AfterHead (act (body_put (implied tags.Body))) refl
leave_turns InColumnGroup = left InColumnGroup (act columns_closed) refl
leave_turns AfterBody = left AfterBody (act (to_mode InBody)) refl
leave_turns AfterAfterBody = left AfterAfterBody (act (to_mode InBody)) refl
leave_turns mode = left mode rules.nothing refl

still_run : {f : StateValue → StateValue} (mode : InsertionMode) → Ends is_any f → Onward mode f
still_run mode f = any_turn f

run_steps : (t : List ℕ) → RunSteps RunTurns t
run_steps t = record {
  left_out = λ mode. still_run mode ends_still;
  put = λ mode. still_run mode (insert_text_ends t);
  body = λ mode b. still_run mode (run_in_body_ends (b ∷ []) t);
  table = λ mode b. still_run mode (fostered_ends (run_in_body_ends (b ∷ []) t));
  leave = leave_turns;
}

-- ---- foreign content

foreign_runs : (s t : List ℕ) → Ends is_any (run_in_foreign (first_kind s) t)
foreign_runs s t =
    by_first_kind (λ kind. Ends is_any (run_in_foreign kind t)) (insert_text_ends t)
    (insert_text_ends (replacements t)) (then_ends no_frameset_ends (insert_text_ends t)) s

run_left : (t : List ℕ) (s : StateValue) → Ready s → Turned s (by_rules (first_token t) s).state
run_left t s h =
    cond_both (is_foreign (first_token t) s) _ _ (λ (x : Outcome). Turned s x.state)
    (λ e. (any_step (foreign_runs t (first_run t))).turns s refl h)
    (λ e. (run_holds RunTurns (first_run t) (run_steps (first_run t)) s.mode t).turns s refl h)

-- ---- texts in tables

foster_runs_ends : (k : ℕ) (text : List ℕ) → Ends is_any (foster_runs k text)
foster_runs_ends zero text = ends_still
foster_runs_ends (suc k) text =
    ends_by_test (λ s. is_empty text) ends_still
    (then_ends (foster_runs_ends k (after_first_run text)) (fostered_ends (run_in_body_ends text (first_run text))))

put_table_text_ends : (text : List ℕ) → Ends is_any (put_table_text text)
put_table_text_ends text =
    ends_by_test (λ s. is_empty text) ends_still
    (ends_by_test (λ s. list_all is_ascii_white_space text) (insert_text_ends text)
    (foster_runs_ends (length text) text))

table_text_left : (text : List ℕ) (s : StateValue) → Ready s → Turned s (table_text text s)
table_text_left text s h = (any_step (put_table_text_ends (without_nulls text))).turns s refl h

-- ---- texts, run by run

turned_then : {s some new : StateValue} → Turned s some → Turned some new → Turned s new
turned_then a b = record { ready = b.ready; content = b.content ∙ a.content }

pub take_left : (k : ℕ) (text : List ℕ) (s : StateValue) → Ready s → Turned s (take_within k text s).state
take_left zero text s h = record { ready = h; content = refl }
take_left (suc k) text s h =
    cond_both (takes_all s) _ _ (λ (x : Taken). Turned s x.state) (λ e. table_text_left text s h)
    (λ e. cond_both (by_rules (first_token text) s).again _ _ (λ (x : Taken). Turned s x.state)
    (λ f. turned_then (run_left text s h)
    (take_left k text (by_rules (first_token text) s).state (run_left text s h).ready)) (λ f. run_left text s h))
