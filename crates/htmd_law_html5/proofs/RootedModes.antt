-- In the modes of the body each token that is no text leaves the body open, by the rules of the mode and in foreign
-- content.
use Rattle.std.proofs.Common.{◌≡◌, ℕ, true, refl, sym, inl}
use Rattle.std.proofs.lemmas.Bool.{true≢false}
use Rattle.htmd_html5_state.specs.Names.{NameValue, known, text_of_name}
use Rattle.htmd_html5_state.specs.State.{StateValue, on_stack}
use Rattle.htmd_html5_state.specs.Foreign.{ForeignEnd, by_mode, closed_to, foreign_end, leave_foreign}
use Rattle.htmd_html5_state.specs.declared.modes.InsertionMode.{InsertionMode}
use Rattle.htmd_html5_state.specs.declared.modes.InsertionMode.TheVariants.{InBody, InSelect, AfterBody, AfterAfterBody}
use Rattle.htmd_html5.specs.Tokens.{TokenValue, start_tag, end_tag}
use Rattle.htmd_html5.specs.InBody.{end_of_file_in_template}
use Rattle.htmd_html5.specs.ForeignContent.{end_foreign}
use Rattle.htmd_html5.specs.Modes.{by_mode_rules}
use Rattle.htmd_html5.specs.Processing.{by_rules}
use Rattle.htmd_law_html5.proofs.PlainStates.{Plain}
use Rattle.htmd_law_html5.proofs.PlainModes.{foreign_left}
use Rattle.htmd_law_html5.proofs.RootedStacks.{is_late, no_template, leave_foreign_rooted, RootedEnd}
use Rattle.htmd_law_html5.proofs.RootedStacks.{foreign_end_rooted}
use Rattle.htmd_law_html5.proofs.RootedStates.{RootedAt, Roots, then_roots, rooted_still, roots_by_test, rooted_stack}
use Rattle.htmd_law_html5.proofs.RootedRules.{TagRoots, steady, tags_by_test, tag_after, AnswerRooted, AnswerRoots}
use Rattle.htmd_law_html5.proofs.RootedRules.{says_rooted, tag_rooted, answers_rooted, rooted_act, last_rooted_act}
use Rattle.htmd_law_html5.proofs.RootedRules.{act_roots, last_act_roots}
use Rattle.htmd_law_html5.proofs.OrderedRules.{is_orderly_name, IsOrderly}
use Rattle.htmd_law_html5.proofs.Rules.{reply_fits}
use Rattle.htmd_law_html5.proofs.RuleBook.{start_in, end_in, rule_in}
use Rattle.htmd_law_html5.proofs.RuleWalk.{tag_name, Invariant, Everywhere, by_rules_hold}
use Rattle.htmd_html5_state.specs.declared.names.TagName.TheVariants as tags
use Rattle.htmd_html5_state.specs.Foreign as foreign

-- ---- the rules of the body close none of what is open around it

starts_fit : (name : NameValue) → is_orderly_name name ≡ true → (mode : InsertionMode) → is_late mode ≡ true
    → reply_fits (rooted_act name) (rooted_act name) (last_rooted_act name) (start_in mode name) ≡ true
starts_fit (known tags.FrameSet) q mode p = absurd (true≢false (sym q))
starts_fit (known tags.Template) q mode p = absurd (true≢false (sym q))
starts_fit (known tags.Table) q mode p = absurd (true≢false (sym q))
starts_fit name q InBody p = refl
starts_fit name q InSelect p = refl
starts_fit name q AfterBody p = refl
starts_fit name q AfterAfterBody p = refl
starts_fit name q mode p = absurd (true≢false (sym p))

ends_fit : (name : NameValue) (mode : InsertionMode) → is_late mode ≡ true
    → reply_fits (rooted_act (known tags.P)) (rooted_act (known tags.P)) (last_rooted_act (known tags.P))
    (end_in mode name) ≡ true
ends_fit (known tags.A) InBody p = refl
ends_fit name InBody p = refl
ends_fit name InSelect p = refl
ends_fit name AfterBody p = refl
ends_fit name AfterAfterBody p = refl
ends_fit name mode p = absurd (true≢false (sym p))

all_fit : (mode : InsertionMode) → is_late mode ≡ true → (t : TokenValue) → IsOrderly t
    → reply_fits (rooted_act (tag_name t)) (rooted_act (tag_name t)) (last_rooted_act (tag_name t))
    (rule_in mode t) ≡ true
all_fit mode p (start_tag tag) q = starts_fit tag.name q mode p
all_fit mode p (end_tag name) q = ends_fit name mode p
all_fit InBody p t q = refl
all_fit mode p t q = cc

-- ---- templates, and foreign content

-- no template is open
template_ended : AnswerRoots end_of_file_in_template
template_ended = record {
  leaves = λ body s plain h. rw (no_template body s.stack h.rooted) (record { rooted = h; rest = λ x. inl x });
}

end_foreign_rooted : (name : NameValue) → AnswerRoots (by_mode_rules (end_tag name)) → (ending : ForeignEnd)
    (body : ℕ) (s : StateValue) → RootedEnd body ending → Plain s → RootedAt body s
    → AnswerRooted body s (end_foreign name ending s)
end_foreign_rooted name by_rules by_mode body s e plain h = by_rules.leaves body s plain h
end_foreign_rooted name by_rules (closed_to es) body s e plain h =
    record { rooted = rooted_stack es e h; rest = λ x. inl x }
end_foreign_rooted name by_rules foreign.nothing body s e plain h = record { rooted = h; rest = λ x. inl x }

-- ---- the rules

rooting : Invariant is_orderly_name (λ mode. is_late mode ≡ true) rooted_act rooted_act last_rooted_act
    Roots Roots TagRoots AnswerRoots
rooting = record {
  acts = λ tag p a e. act_roots tag a e;
  turn_acts = λ tag p a e. act_roots tag a e;
  last_acts = λ tag p a e. last_act_roots tag a e;
  fit = all_fit;
  still = rooted_still;
  after = then_roots;
  by_test = roots_by_test;
  fosters = λ name e h. absurd (true≢false (sym e));
  onward = λ h. h;
  turn_after = then_roots;
  turn_by_test = roots_by_test;
  calm = steady;
  last_after = tag_after;
  last_by_test = tags_by_test;
  last_fosters = λ name e h. absurd (true≢false (sym e));
  says_done = tag_rooted;
  says = says_rooted;
  by_answer = answers_rooted;
  ends_template = template_ended;
}

rooting_everywhere : Everywhere is_orderly_name (λ mode. is_late mode ≡ true) rooted_act AnswerRoots
rooting_everywhere = record {
  by_mode = λ t h. record { leaves = λ body s plain x. (h s.mode x.late).leaves body s plain x };
  alike_allowed = λ name. refl;
  comment_allowed = λ text. refl;
  leaves = λ h. record {
    leaves = λ body s plain x.
        let y = h.leaves body (on_stack (leave_foreign s.nodes) s) (foreign_left s plain)
        (rooted_stack (leave_foreign s.nodes s.stack) (leave_foreign_rooted s.nodes body s.stack x.rooted) x) in
        record { rooted = y.rooted; rest = y.rest };
  };
  ends_foreign = λ name h. record {
    leaves = λ body s plain x. end_foreign_rooted name h (foreign_end (text_of_name name) s.stack) body s
        (foreign_end_rooted (text_of_name name) body s.stack x.rooted) plain x;
  };
}

pub by_rules_roots : (t : TokenValue) → IsOrderly t → AnswerRoots (by_rules t)
by_rules_roots t p = by_rules_hold rooting rooting_everywhere refl t p
