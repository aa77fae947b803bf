-- A token that is no text leaves a plain state plain, by the rules of the mode and in foreign content, if it is no
-- start tag whose name isn't plain.
use Rattle.std.proofs.Common.{◌≡◌, true, refl, sym}
use Rattle.std.proofs.lemmas.Bool.{true≢false}
use Rattle.htmd_html5_state.specs.Names.{NameValue, known, text_of_name}
use Rattle.htmd_html5_state.specs.State.{StateValue, on_stack}
use Rattle.htmd_html5_state.specs.Foreign.{ForeignEnd, by_mode, closed_to, foreign_end, leave_foreign}
use Rattle.htmd_html5_state.specs.declared.modes.InsertionMode.{InsertionMode}
use Rattle.htmd_html5_state.specs.declared.modes.InsertionMode.TheVariants.{Initial, InColumnGroup}
use Rattle.htmd_html5_state.specs.declared.modes.InsertionMode.TheVariants.{InTemplate, InFrameset, AfterFrameset}
use Rattle.htmd_html5_state.specs.declared.modes.InsertionMode.TheVariants.{AfterAfterFrameset}
use Rattle.htmd_html5.specs.Tokens.{TokenValue, start_tag, end_tag, end_of_file}
use Rattle.htmd_html5.specs.BodyStarts.{is_in_template}
use Rattle.htmd_html5.specs.ForeignContent.{end_foreign}
use Rattle.htmd_html5.specs.Modes.{in_mode, by_mode_rules}
use Rattle.htmd_html5.specs.Processing.{by_rules}
use Rattle.htmd_law_html5.proofs.OpenNodes.{leave_foreign_fewer}
use Rattle.htmd_law_html5.proofs.KeepingModes.{EndsIn, foreign_end_in}
use Rattle.htmd_law_html5.proofs.PlainNames.{is_plain_name, is_plain_open}
use Rattle.htmd_law_html5.proofs.HungStates.{Hung, hung_fewer}
use Rattle.htmd_law_html5.proofs.PlainStates.{is_plain_mode, Plain, Stays, then_stays, still, stays_by_test}
use Rattle.htmd_law_html5.proofs.PlainStates.{plain_stack}
use Rattle.htmd_law_html5.proofs.PlainRules.{StaysAnswer, says_plain, answers_either, plain_act, fostered_stays}
use Rattle.htmd_law_html5.proofs.PlainRules.{leave_template_stays, act_stays}
use Rattle.htmd_law_html5.proofs.Rules.{reply_fits, reply_of}
use Rattle.htmd_law_html5.proofs.RuleBook.{start_in, end_in, rule_in}
use Rattle.htmd_law_html5.proofs.RuleWalk.{IsMarkup, tag_of, tag_name, Invariant, Everywhere, replies, in_mode_holds}
use Rattle.htmd_law_html5.proofs.RuleWalk.{by_rules_hold}
use Rattle.htmd_law_html5.proofs.RunRules.{leave_in}
use Rattle.htmd_html5_state.specs.declared.names.TagName.TheVariants as tags
use Rattle.htmd_html5_state.specs.Foreign as foreign

-- a token that is no text, and whose name is plain if it is a start tag
abbrev pub IsPlain : TokenValue → Type 0
IsPlain t = IsMarkup is_plain_name t

-- ---- the rules lead to plain modes, and insert elements with plain names

starts_fit : (name : NameValue) → is_plain_name name ≡ true
    → (mode : InsertionMode) → is_plain_mode mode ≡ true
    → reply_fits (plain_act name) (plain_act name) (plain_act name) (start_in mode name) ≡ true
starts_fit (known tags.FrameSet) q mode p = absurd (true≢false (sym q))
starts_fit (known tags.Template) q mode p = absurd (true≢false (sym q))
starts_fit (known tags.Col) q mode p = absurd (true≢false (sym q))
starts_fit (known tags.ColGroup) q mode p = absurd (true≢false (sym q))
starts_fit name q InColumnGroup p = absurd (true≢false (sym p))
starts_fit name q InTemplate p = absurd (true≢false (sym p))
starts_fit name q InFrameset p = absurd (true≢false (sym p))
starts_fit name q AfterFrameset p = absurd (true≢false (sym p))
starts_fit name q AfterAfterFrameset p = absurd (true≢false (sym p))
starts_fit name q mode p = refl

ends_fit : (name : NameValue) (mode : InsertionMode) → is_plain_mode mode ≡ true
    → reply_fits (plain_act (known tags.P)) (plain_act (known tags.P)) (plain_act (known tags.P)) (end_in mode name)
    ≡ true
ends_fit (known tags.A) Initial p = refl
ends_fit name InColumnGroup p = absurd (true≢false (sym p))
ends_fit name InTemplate p = absurd (true≢false (sym p))
ends_fit name InFrameset p = absurd (true≢false (sym p))
ends_fit name AfterFrameset p = absurd (true≢false (sym p))
ends_fit name AfterAfterFrameset p = absurd (true≢false (sym p))
ends_fit name mode p = refl

others_fit : (mode : InsertionMode) → is_plain_mode mode ≡ true → (t : TokenValue) → IsPlain t
    → reply_fits (plain_act (tag_name t)) (plain_act (tag_name t)) (plain_act (tag_name t)) (rule_in mode t) ≡ true
others_fit mode p (start_tag tag) q = starts_fit tag.name q mode p
others_fit mode p (end_tag name) q = ends_fit name mode p
others_fit Initial p t q = refl
others_fit InTemplate p t q = absurd (true≢false (sym p))
others_fit mode p t q = refl

-- ---- foreign content

pub foreign_left : (s : StateValue) → Plain s → Plain (on_stack (leave_foreign s.nodes) s)
foreign_left s h =
    plain_stack (leave_foreign s.nodes s.stack) ((leave_foreign_fewer s.nodes s.stack).each is_plain_open h.names) h

end_foreign_stays : (name : NameValue) → StaysAnswer (by_mode_rules (end_tag name)) → (ending : ForeignEnd)
    (s : StateValue) → EndsIn ending s.stack → Plain s
    → Plain (end_foreign name ending s).state × (Hung s → Hung (end_foreign name ending s).state)
end_foreign_stays name by_rules by_mode s e h = (by_rules.stays s h, λ x. by_rules.hangs s h x)
end_foreign_stays name by_rules (closed_to es) s e h =
    (plain_stack es (e.each is_plain_open h.names) h, λ x. hung_fewer es e x)
end_foreign_stays name by_rules foreign.nothing s e h = (h, λ x. x)

-- ---- the rules

plainness : Invariant is_plain_name (λ mode. is_plain_mode mode ≡ true) plain_act plain_act plain_act
    Stays Stays Stays StaysAnswer
plainness = record {
  acts = λ tag p a e. act_stays tag a e;
  turn_acts = λ tag p a e. act_stays tag a e;
  last_acts = λ tag p a e. act_stays tag a e;
  fit = others_fit;
  still = still;
  after = then_stays;
  by_test = stays_by_test;
  fosters = λ name e h. fostered_stays h;
  onward = λ h. h;
  turn_after = then_stays;
  turn_by_test = stays_by_test;
  calm = λ h. h;
  last_after = then_stays;
  last_by_test = stays_by_test;
  last_fosters = λ name e h. fostered_stays h;
  says_done = says_plain;
  says = says_plain;
  by_answer = answers_either;
  ends_template = answers_either is_in_template (says_plain leave_template_stays) (says_plain still);
}

pub plain_everywhere : Everywhere is_plain_name (λ mode. is_plain_mode mode ≡ true) plain_act StaysAnswer
plain_everywhere = record {
  by_mode = λ t h. record {
    stays = λ s plain. (h s.mode plain.plain_mode).stays s plain;
    hangs = λ s plain x. (h s.mode plain.plain_mode).hangs s plain x;
  };
  alike_allowed = λ name. refl;
  comment_allowed = λ text. refl;
  leaves = λ h. record {
    stays = λ s plain. h.stays (on_stack (leave_foreign s.nodes) s) (foreign_left s plain);
    hangs = λ s plain x. h.hangs (on_stack (leave_foreign s.nodes) s) (foreign_left s plain)
        (hung_fewer (leave_foreign s.nodes s.stack) (leave_foreign_fewer s.nodes s.stack) x);
  };
  ends_foreign = λ name h. record {
    stays = λ s plain. (end_foreign_stays name h (foreign_end (text_of_name name) s.stack) s
        (foreign_end_in (text_of_name name) s.stack) plain).0;
    hangs = λ s plain x. (end_foreign_stays name h (foreign_end (text_of_name name) s.stack) s
        (foreign_end_in (text_of_name name) s.stack) plain).1 x;
  };
}

pub in_mode_stays : (t : TokenValue) → IsPlain t → (mode : InsertionMode) → is_plain_mode mode ≡ true
    → StaysAnswer (in_mode mode t)
in_mode_stays t p mode q = in_mode_holds plainness refl t p mode q

leave_fits : (mode : InsertionMode) → is_plain_mode mode ≡ true
    → reply_fits (plain_act (known tags.P)) (plain_act (known tags.P)) (plain_act (known tags.P)) (leave_in mode) ≡
    true
leave_fits InColumnGroup p = absurd (true≢false (sym p))
leave_fits mode p = refl

-- what ends a mode and is processed again
pub leave_stays : (mode : InsertionMode) → is_plain_mode mode ≡ true
    → StaysAnswer (reply_of (leave_in mode) (tag_of end_of_file))
leave_stays mode p = replies plainness refl (tag_of end_of_file) refl (leave_in mode) (leave_fits mode p)

pub by_rules_stays : (t : TokenValue) → IsPlain t → StaysAnswer (by_rules t)
by_rules_stays t p = by_rules_hold plainness plain_everywhere refl t p
