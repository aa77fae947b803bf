-- Tokens that are no text leave the texts as they are, by the rules of the mode and in foreign content.
use Rattle.std.proofs.lemmas.Bool.{cond_both}
use Rattle.std.proofs.Common.{◌≡◌, ℕ, zero, suc, Bool, true, false, List, [], ◌∷◌, refl}
use Rattle.htmd_lexical.proofs.Cases.{test}
use Rattle.htmd_html5_state.specs.Names.{NameValue, known, text_of_name}
use Rattle.htmd_html5_state.specs.OpenElements.{OpenValue}
use Rattle.htmd_html5_state.specs.State.{StateValue, on_stack}
use Rattle.htmd_html5_state.specs.Foreign.{ForeignEnd, by_mode, closed_to, foreign_end, goes_by_mode, after_foreign_end}
use Rattle.htmd_html5_state.specs.Foreign.{leave_foreign, is_html, is_spelled_so}
use Rattle.htmd_html5_state.specs.declared.modes.InsertionMode.{InsertionMode}
use Rattle.htmd_html5_state.specs.declared.modes.InsertionMode.TheVariants.{BeforeHtml, Initial}
use Rattle.htmd_html5.specs.Tokens.{TokenValue, start_tag, end_tag, run, end_of_file}
use Rattle.htmd_html5.specs.Outcomes.{Outcome}
use Rattle.htmd_html5.specs.Processing.{by_rules, after_outcome, process_within, process, turns}
use Rattle.htmd_html5.specs.BodyStarts.{is_in_template}
use Rattle.htmd_html5.specs.InTable.{fostered}
use Rattle.htmd_html5.specs.ForeignContent.{end_foreign}
use Rattle.htmd_html5.specs.Modes.{by_mode_rules}
use Rattle.htmd_law_html5.proofs.OpenNodes.{Fewer, all_of, skip, leave_foreign_fewer}
use Rattle.htmd_law_html5.proofs.Keeping.{Sound, Kept, Keeps, kept_same, kept_then, after, nothing, by_test}
use Rattle.htmd_law_html5.proofs.Keeping.{sound_open}
use Rattle.htmd_law_html5.proofs.KeepingRules.{KeepsAnswer, says, answers_by_test, act_keeps, leave_template_keeps}
use Rattle.htmd_law_html5.proofs.Rules.{any_act, reply_fits, reply_of}
use Rattle.htmd_law_html5.proofs.RuleBook.{rule_in, end_in, start_in}
use Rattle.htmd_law_html5.proofs.RuleWalk.{IsMarkup, Invariant, Everywhere, tag_of, replies, by_rules_hold, is_run}
use Rattle.htmd_law_html5.proofs.RunRules.{leave_in}
use Rattle.htmd_html5_state.specs.declared.names.TagName.TheVariants as tags
use Rattle.htmd_html5_state.specs.Foreign as foreign

-- ---- tokens

abbrev pub any_name : NameValue → Bool
any_name name = true

pub is_markup : (t : TokenValue) → is_run t ≡ false → IsMarkup any_name t
is_markup (run kind s) e = e
is_markup (start_tag tag) e = refl
is_markup _ e = tt

-- ---- foreign content

-- what stays open was open
abbrev pub EndsIn : ForeignEnd → List OpenValue → Type 0
EndsIn (closed_to es) stack = Fewer es stack
EndsIn by_mode stack = Unit {0}
EndsIn foreign.nothing stack = Unit {0}

ends_more : (e : OpenValue) (ending : ForeignEnd) (stack : List OpenValue) → EndsIn ending stack
    → EndsIn ending (e ∷ stack)
ends_more e by_mode stack h = tt
ends_more e (closed_to es) stack h = skip e h
ends_more e foreign.nothing stack h = tt

pub foreign_end_in : (name : List ℕ) (stack : List OpenValue) → EndsIn (foreign_end name stack) stack
foreign_end_in name [] = tt
foreign_end_in name (e ∷ []) = tt
foreign_end_in name (e ∷ f ∷ es) =
    let more = ends_more e (foreign_end name (f ∷ es)) (f ∷ es) (foreign_end_in name (f ∷ es)) in
    test (is_html e) (λ t. rw t tt)
    (λ t. test (is_spelled_so name e.name) (λ u. rw (t, u) (skip e (all_of (f ∷ es)))) (λ u. rw (t, u) more))

after_foreign_end_kept : (ending : ForeignEnd) (s : StateValue) → EndsIn ending s.stack → Sound s
    → Kept s (after_foreign_end ending s)
after_foreign_end_kept by_mode s fewer h = kept_same h
after_foreign_end_kept (closed_to es) s fewer h = kept_same (sound_open es fewer.opened h)
after_foreign_end_kept foreign.nothing s fewer h = kept_same h

end_foreign_kept : (name : NameValue) (ending : ForeignEnd) (s : StateValue) → EndsIn ending s.stack
    → KeepsAnswer (by_mode_rules (end_tag name)) → Sound s → Kept s (end_foreign name ending s).state
end_foreign_kept name ending s fewer by_rules h =
    cond_both (goes_by_mode ending) _ _ (λ (a : Outcome). Kept s a.state) (λ t. by_rules.keeps s h)
    (λ t. after_foreign_end_kept ending s fewer h)

-- ---- the rules

fostered_keeps : {f : StateValue → StateValue} → Keeps f → Keeps (fostered f)
fostered_keeps h = record { keeps = λ s sound. h.keeps (record s { foster_parenting = true }) sound }

starts_fit : (name : NameValue) (mode : InsertionMode)
    → reply_fits any_act any_act any_act (start_in mode name) ≡ true
starts_fit (known tags.A) Initial = refl
starts_fit name BeforeHtml = refl
starts_fit name mode = refl

ends_fit : (name : NameValue) (mode : InsertionMode) → reply_fits any_act any_act any_act (end_in mode name) ≡ true
ends_fit (known tags.A) Initial = refl
ends_fit name BeforeHtml = refl
ends_fit name mode = refl

all_fit : (mode : InsertionMode) (t : TokenValue) → reply_fits any_act any_act any_act (rule_in mode t) ≡ true
all_fit mode (start_tag tag) = starts_fit tag.name mode
all_fit mode (end_tag name) = ends_fit name mode
all_fit Initial t = refl
all_fit mode t = refl

keeping : Invariant any_name (λ mode. Unit {0}) (λ name. any_act) (λ name. any_act) (λ name. any_act) Keeps Keeps
    Keeps KeepsAnswer
keeping = record {
  acts = λ tag p a e. act_keeps tag a;
  turn_acts = λ tag p a e. act_keeps tag a;
  last_acts = λ tag p a e. act_keeps tag a;
  fit = λ mode q t p. all_fit mode t;
  still = nothing;
  after = after;
  by_test = by_test;
  fosters = λ name e h. fostered_keeps h;
  onward = λ h. h;
  turn_after = after;
  turn_by_test = by_test;
  calm = λ h. h;
  last_after = after;
  last_by_test = by_test;
  last_fosters = λ name e h. fostered_keeps h;
  says_done = says;
  says = says;
  by_answer = answers_by_test;
  ends_template = answers_by_test is_in_template (says leave_template_keeps) (says nothing);
}

keeping_everywhere : Everywhere any_name (λ mode. Unit {0}) (λ name. any_act) KeepsAnswer
keeping_everywhere = record {
  by_mode = λ t h. record { keeps = λ s sound. (h s.mode tt).keeps s sound };
  alike_allowed = λ name. refl;
  comment_allowed = λ text. refl;
  leaves = λ h. record {
    keeps = λ s sound. h.keeps (on_stack (leave_foreign s.nodes) s)
        (sound_open (leave_foreign s.nodes s.stack) (leave_foreign_fewer s.nodes s.stack).opened sound);
  };
  ends_foreign = λ name h. record {
    keeps = λ s sound. end_foreign_kept name (foreign_end (text_of_name name) s.stack) s
        (foreign_end_in (text_of_name name) s.stack) h sound;
  };
}

leave_fits : (mode : InsertionMode) → reply_fits any_act any_act any_act (leave_in mode) ≡ true
leave_fits Initial = refl
leave_fits mode = refl

-- what ends a mode and is processed again
pub leave_keeps : (mode : InsertionMode) → KeepsAnswer (reply_of (leave_in mode) (tag_of end_of_file))
leave_keeps mode = replies keeping refl (tag_of end_of_file) refl (leave_in mode) (leave_fits mode)

by_rules_keeps : (token : TokenValue) → is_run token ≡ false → KeepsAnswer (by_rules token)
by_rules_keeps token e = by_rules_hold keeping keeping_everywhere refl token (is_markup token e)

-- ---- a token is processed

after_answer_kept : (go : StateValue → StateValue) (s : StateValue) (a : Outcome)
    → ((t : StateValue) → Sound t → Kept t (go t)) → Kept s a.state → Kept s (after_outcome go a)
after_answer_kept go s a more here =
    cond_both a.again _ _ (λ x. Kept s x) (λ t. kept_then here (more a.state here.sound)) (λ t. here)

process_within_kept : (k : ℕ) (token : TokenValue) (s : StateValue) → is_run token ≡ false → Sound s
    → Kept s (process_within k token s)
process_within_kept zero token s e h = kept_same h
process_within_kept (suc k) token s e h =
    after_answer_kept (process_within k token) s (by_rules token s) (λ t. process_within_kept k token t e)
    ((by_rules_keeps token e).keeps s h)

pub process_keeps : (token : TokenValue) → is_run token ≡ false → Keeps (process token)
process_keeps token e = record { keeps = λ s h. process_within_kept (turns s) token s e h }
