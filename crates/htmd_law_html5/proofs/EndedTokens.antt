-- Each token that is no text leaves open what must stay so, by the rules of the mode and in foreign content.
use Rattle.std.proofs.Common.{List, false, inl, refl, subst, sym, true, ◌≡◌}
use Rattle.std.proofs.lemmas.Bool.{true≢false}
use Rattle.htmd_html5.specs.ForeignContent.{break_out, end_breaks_out, end_foreign, in_foreign_content, is_foreign}
use Rattle.htmd_html5.specs.ForeignContent.{tag_breaks_out}
use Rattle.htmd_html5.specs.Modes.{by_mode_rules, in_mode}
use Rattle.htmd_html5.specs.Outcomes.{done}
use Rattle.htmd_html5.specs.Processing.{by_rules}
use Rattle.htmd_html5.specs.Tokens.{TokenValue, comment, doctype, end_of_file, end_tag, run, start_tag}
use Rattle.htmd_law_html5.proofs.EndedActs.{act_ends, ended_act, ended_last, ended_turn, last_ends, turn_ends}
use Rattle.htmd_law_html5.proofs.EndedRules.{end_in_template_answers}
use Rattle.htmd_law_html5.proofs.EndedStacks.{Anchor, Has, HasEnd, at_root, foreign_end_has, is_any, leave_foreign_has}
use Rattle.htmd_law_html5.proofs.EndedStates.{Ends, ends_by_state, ends_still, insert_comment_ends, on_stack_ends}
use Rattle.htmd_law_html5.proofs.EndedStates.{whole_fewer}
use Rattle.htmd_law_html5.proofs.EndedSteps.{Answered, ModeEnds, Onward, Ready, Steady, Tags, anchor_of, any_step}
use Rattle.htmd_law_html5.proofs.EndedSteps.{calm, covers_any, mode_either, onward, onward_either, onward_then}
use Rattle.htmd_law_html5.proofs.EndedSteps.{says_onward, says_tags, some_kept, steady_either, steady_fostered}
use Rattle.htmd_law_html5.proofs.EndedSteps.{steady_then, tags_either, tags_fostered, tags_then}
use Rattle.htmd_law_html5.proofs.KeepingModes.{EndsIn, any_name, foreign_end_in, is_markup}
use Rattle.htmd_law_html5.proofs.OpenNodes.{leave_foreign_fewer}
use Rattle.htmd_law_html5.proofs.RuleBook.{end_in, rule_in, start_in}
use Rattle.htmd_law_html5.proofs.RuleWalk.{Invariant, IsMarkup, in_mode_holds, is_run, tag_name}
use Rattle.htmd_law_html5.proofs.Rules.{foreign_alike, reply_fits}
use Rattle.htmd_html5_state.specs.Foreign.{ForeignEnd, by_mode, closed_to, foreign_end, leave_foreign}
use Rattle.htmd_html5_state.specs.Names.{NameValue, known, text_of_name}
use Rattle.htmd_html5_state.specs.Nodes.{NodeValue}
use Rattle.htmd_html5_state.specs.State.{StateValue, on_stack}
use Rattle.htmd_html5_state.specs.declared.modes.InsertionMode.{InsertionMode}
use Rattle.htmd_html5_state.specs.declared.modes.InsertionMode.TheVariants.{BeforeHtml, Initial}
use Rattle.htmd_html5_state.specs.Foreign as foreign
use Rattle.htmd_html5_state.specs.declared.names.TagName.TheVariants as tags

-- ---- the rules of each mode leave open what it needs

starts_fit : (name : NameValue) (mode : InsertionMode)
    → reply_fits (ended_act mode name) (ended_turn mode name) (ended_last mode name) (start_in mode name) ≡ true
starts_fit (known tags.A) Initial = refl
starts_fit name BeforeHtml = refl
starts_fit name mode = refl

ends_fit : (name : NameValue) (mode : InsertionMode)
    → reply_fits (ended_act mode (known tags.P)) (ended_turn mode (known tags.P)) (ended_last mode (known tags.P))
    (end_in mode name) ≡ true
ends_fit (known tags.A) Initial = refl
ends_fit name BeforeHtml = refl
ends_fit name mode = refl

all_fit : (mode : InsertionMode) (t : TokenValue) → IsMarkup any_name t
    → reply_fits (ended_act mode (tag_name t)) (ended_turn mode (tag_name t)) (ended_last mode (tag_name t))
    (rule_in mode t) ≡ true
all_fit mode (start_tag tag) p = starts_fit tag.name mode
all_fit mode (end_tag name) p = ends_fit name mode
all_fit Initial t p = refl
all_fit mode t p = refl

pub ended : (mode : InsertionMode)
    → Invariant any_name (λ other. other ≡ mode) (ended_act mode) (ended_turn mode) (ended_last mode) (Steady mode)
    (Onward mode) (Tags mode) (ModeEnds mode)
ended mode = record {
  acts = λ tag p a e. act_ends mode tag a e;
  turn_acts = λ tag p a e. turn_ends mode tag a e;
  last_acts = λ tag p a e. last_ends mode tag a e;
  fit = λ other q t p. subst (λ (m : InsertionMode). reply_fits (ended_act mode (tag_name t))
      (ended_turn mode (tag_name t)) (ended_last mode (tag_name t)) (rule_in m t) ≡ true) (sym q) (all_fit mode t p);
  still = any_step ends_still;
  after = steady_then;
  by_test = steady_either;
  fosters = λ name e h. steady_fostered h;
  onward = onward;
  turn_after = onward_then;
  turn_by_test = onward_either;
  calm = λ h. calm (onward h);
  last_after = tags_then;
  last_by_test = tags_either;
  last_fosters = λ name e h. tags_fostered h;
  says_done = says_tags;
  says = says_onward;
  by_answer = mode_either;
  ends_template = end_in_template_answers;
}

in_mode_ends : (mode : InsertionMode) (token : TokenValue) → is_run token ≡ false
    → ModeEnds mode (in_mode mode token)
in_mode_ends mode token e = in_mode_holds (ended mode) refl token (is_markup token e) mode refl

module _ {mode : InsertionMode} where
  by_mode_ends : (token : TokenValue) → is_run token ≡ false → ModeEnds mode (by_mode_rules token)
  by_mode_ends token e = record { answers = λ s m h. (in_mode_ends s.mode token e).answers s refl h }

  -- ---- foreign content

  foreign_left : Steady mode (λ s. on_stack (leave_foreign s.nodes) s)
  foreign_left =
      any_step (ends_by_state (λ s. s.nodes)
      (λ (nodes : List NodeValue). on_stack_ends {p = is_any} (leave_foreign nodes) (leave_foreign_fewer nodes)
      (λ a k stack l. leave_foreign_has nodes a stack l)))

  break_out_ends : (token : TokenValue) → is_run token ≡ false → ModeEnds mode (break_out token)
  break_out_ends token e = record {
    answers = λ s m h.
        let x = (by_mode_ends token e).answers (on_stack (leave_foreign s.nodes) s) m (foreign_left.turns s m h).ready
        in
        record { ready = x.ready; rest = x.rest };
  }

  done_ends : {f : StateValue → StateValue} → Ends is_any f → ModeEnds mode (λ s. done (f s))
  done_ends h = says_onward (onward (any_step h))

  end_foreign_ends : (name : NameValue)
      → ModeEnds mode (λ s. end_foreign name (foreign_end (text_of_name name) s.stack) s)
  end_foreign_ends name = record {
    answers = λ s m h. left (foreign_end (text_of_name name) s.stack) s m h
        (λ a l. foreign_end_has (text_of_name name) a s.stack l) (foreign_end_in (text_of_name name) s.stack);
  }
    where
      left : (ending : ForeignEnd) (s : StateValue) → s.mode ≡ mode → Ready s
          → ((a : Anchor) → Has a s.stack → HasEnd a ending) → EndsIn ending s.stack
          → Answered s (end_foreign name ending s)
      left by_mode s m h f w = (by_mode_ends (end_tag name) refl).answers s m h
      left (closed_to es) s m h f w = record {
        ready = record {
          whole = whole_fewer es w h.whole;
          modes = h.modes;
          root = f at_root h.root;
          fact = some_kept {p = is_any} s.stack es (anchor_of s.mode) (covers_any (anchor_of s.mode))
              (λ b k l. f b l) h.fact;
        };
        rest = λ k. inl k;
      }
      left foreign.nothing s m h f w = record { ready = h; rest = λ k. inl k }

  in_foreign_content_ends : (token : TokenValue) → is_run token ≡ false → ModeEnds mode (in_foreign_content token)
  in_foreign_content_ends (run kind text) e = absurd (true≢false e)
  in_foreign_content_ends (start_tag tag) e =
      mode_either (λ s. tag_breaks_out tag.name tag.attributes) (break_out_ends (start_tag tag) refl)
      (says_onward (onward (act_ends mode tag foreign_alike refl)))
  in_foreign_content_ends (end_tag name) e =
      mode_either (λ s. end_breaks_out name) (break_out_ends (end_tag name) refl) (end_foreign_ends name)
  in_foreign_content_ends (comment text) e = done_ends (insert_comment_ends text)
  in_foreign_content_ends (doctype quirks) e = done_ends ends_still
  in_foreign_content_ends end_of_file e = done_ends ends_still

  pub by_rules_ends : (token : TokenValue) → is_run token ≡ false → ModeEnds mode (by_rules token)
  by_rules_ends token e = mode_either (is_foreign token) (in_foreign_content_ends token e) (by_mode_ends token e)
