-- In the body and after it each token that is no text leaves the letters in order, by the rules of the mode and in
-- foreign content.
use Rattle.std.proofs.Common.{◌≡◌, ◌∙◌, ℕ, Bool, true, false, List, refl, sym, ap, inl, inr, ◌⊎◌}
use Rattle.std.specs.Prelude.{if◌then◌else◌}
use Rattle.std.proofs.lemmas.Bool.{cond_both, true≢false}
use Rattle.htmd_html5_state.specs.Names.{NameValue, known, text_of_name}
use Rattle.htmd_html5_state.specs.OpenElements.{OpenValue, pop}
use Rattle.htmd_html5_state.specs.State.{StateValue, on_stack}
use Rattle.htmd_html5_state.specs.Foreign.{ForeignEnd, by_mode, closed_to, foreign_end, leave_foreign}
use Rattle.htmd_html5_state.specs.declared.modes.InsertionMode.{InsertionMode}
use Rattle.htmd_html5_state.specs.declared.modes.InsertionMode.TheVariants.{InBody, InSelect, AfterBody, AfterAfterBody}
use Rattle.htmd_html5.specs.Tokens.{TokenValue, start_tag, end_tag}
use Rattle.htmd_html5.specs.Outcomes.{Outcome, outcome}
use Rattle.htmd_html5.specs.BodyStarts.{is_in_template}
use Rattle.htmd_html5.specs.Feeding.{is_text_mode}
use Rattle.htmd_html5.specs.ForeignContent.{end_foreign}
use Rattle.htmd_html5.specs.Modes.{by_mode_rules}
use Rattle.htmd_html5.specs.Processing.{by_rules}
use Rattle.htmd_law_html5.proofs.OpenNodes.{Fewer, leave_foreign_fewer}
use Rattle.htmd_law_html5.proofs.KeepingModes.{EndsIn, foreign_end_in}
use Rattle.htmd_law_html5.proofs.PlainNames.{is_plain_open}
use Rattle.htmd_law_html5.proofs.PlainStates.{Plain, plain_stack}
use Rattle.htmd_law_html5.proofs.HungStates.{Hung, hung_fewer}
use Rattle.htmd_law_html5.proofs.RootedStacks.{is_late, Rooted}
use Rattle.htmd_law_html5.proofs.RootedStates.{RootedAt, Roots}
use Rattle.htmd_law_html5.proofs.RootedModes.{by_rules_roots}
use Rattle.htmd_law_html5.proofs.Counted.{Choice}
use Rattle.htmd_law_html5.proofs.Rules.{reply_fits}
use Rattle.htmd_law_html5.proofs.RuleBook.{start_in, end_in, rule_in}
use Rattle.htmd_law_html5.proofs.RuleWalk.{tag_name, Invariant, Everywhere, by_rules_hold}
use Rattle.htmd_law_html5.proofs.OrderedStates.{Ordered, Orders, then_orders, unmoved, orders_by_test, ordered_fewer}
use Rattle.htmd_law_html5.proofs.OrderedRules.{is_orderly_name, IsOrderly, orderly_act, leave_template_orders}
use Rattle.htmd_law_html5.proofs.OrderedRules.{act_orders}
use Rattle.htmd_html5_state.specs.declared.names.TagName.TheVariants as tags
use Rattle.htmd_html5_state.specs.Foreign as foreign

-- ---- the rules of the body move no text

starts_fit : (name : NameValue) → is_orderly_name name ≡ true → (mode : InsertionMode) → is_late mode ≡ true
    → reply_fits (orderly_act name) (orderly_act name) (orderly_act name) (start_in mode name) ≡ true
starts_fit (known tags.FrameSet) q mode p = absurd (true≢false (sym q))
starts_fit (known tags.Template) q mode p = absurd (true≢false (sym q))
starts_fit (known tags.Table) q mode p = absurd (true≢false (sym q))
starts_fit name q InBody p = refl
starts_fit name q InSelect p = refl
starts_fit name q AfterBody p = refl
starts_fit name q AfterAfterBody p = refl
starts_fit name q mode p = absurd (true≢false (sym p))

ends_fit : (name : NameValue) (mode : InsertionMode) → is_late mode ≡ true
    → reply_fits (orderly_act (known tags.P)) (orderly_act (known tags.P)) (orderly_act (known tags.P))
    (end_in mode name) ≡ true
ends_fit (known tags.A) InBody p = refl
ends_fit name InBody p = refl
ends_fit name InSelect p = refl
ends_fit name AfterBody p = refl
ends_fit name AfterAfterBody p = refl
ends_fit name mode p = absurd (true≢false (sym p))

all_fit : (mode : InsertionMode) → is_late mode ≡ true → (t : TokenValue) → IsOrderly t
    → reply_fits (orderly_act (tag_name t)) (orderly_act (tag_name t)) (orderly_act (tag_name t)) (rule_in mode t)
    ≡ true
all_fit mode p (start_tag tag) q = starts_fit tag.name q mode p
all_fit mode p (end_tag name) q = ends_fit name mode p
all_fit InBody p t q = refl
all_fit InSelect p t q = refl
all_fit AfterBody p t q = refl
all_fit AfterAfterBody p t q = refl
all_fit mode p t q = absurd (true≢false (sym p))

module _ (choice : Choice) where
  -- ---- states in the body or after it

  -- the letters stand in order
  record InOrder (letters : List ℕ) (s : StateValue) : Type 0 where
    plain : Plain s
    hung : Hung s
    ordered : Ordered choice letters s

  -- an outcome to such a state
  record LateOrders (f : StateValue → Outcome) : Type 0 where
    orders : (letters : List ℕ) (s : StateValue) → is_late s.mode ≡ true → InOrder letters s
        → InOrder letters (f s).state

  order_step : {f : StateValue → StateValue} → Orders choice f → (letters : List ℕ) (s : StateValue)
      → InOrder letters s → InOrder letters (f s)
  order_step f letters s h = record {
    plain = f.stays.stays s h.plain;
    hung = f.stays.hangs s h.plain h.hung;
    ordered = f.orders letters s h.plain h.hung h.ordered;
  }

  order_fewer : (letters : List ℕ) (es : List OpenValue) (s : StateValue) → Fewer es s.stack → InOrder letters s
      → InOrder letters (record s { stack = es })
  order_fewer letters es s f h = record {
    plain = plain_stack es (f.each is_plain_open h.plain.names) h.plain;
    hung = hung_fewer es f h.hung;
    ordered = ordered_fewer choice es f h.ordered;
  }

  end_foreign_order : (name : NameValue) → LateOrders (by_mode_rules (end_tag name)) → (ending : ForeignEnd)
      (letters : List ℕ) (s : StateValue) → EndsIn ending s.stack → is_late s.mode ≡ true → InOrder letters s
      → InOrder letters (end_foreign name ending s).state
  end_foreign_order name by_rules by_mode letters s e l h = by_rules.orders letters s l h
  end_foreign_order name by_rules (closed_to es) letters s e l h = order_fewer letters es s e h
  end_foreign_order name by_rules foreign.nothing letters s e l h = h

  either_order : {f g : StateValue → Outcome} (b : StateValue → Bool) → LateOrders f → LateOrders g
      → LateOrders (λ s. if b s then f s else g s)
  either_order b first second = record {
    orders = λ letters s l h. cond_both (b s) _ _ (λ (x : Outcome). InOrder letters x.state)
        (λ e. first.orders letters s l h) (λ e. second.orders letters s l h);
  }

  said : {f : StateValue → StateValue} {more : StateValue → Bool} → Orders choice f
      → LateOrders (λ s. outcome (f s) (more s))
  said h = record { orders = λ letters s l x. order_step h letters s x }

  order : Invariant is_orderly_name (λ mode. is_late mode ≡ true) orderly_act orderly_act orderly_act (Orders choice)
      (Orders choice) (Orders choice) LateOrders
  order = record {
    acts = λ tag p a e. act_orders choice tag a e;
    turn_acts = λ tag p a e. act_orders choice tag a e;
    last_acts = λ tag p a e. act_orders choice tag a e;
    fit = all_fit;
    still = unmoved choice;
    after = then_orders choice;
    by_test = orders_by_test choice;
    fosters = λ name e h. absurd (true≢false (sym e));
    onward = λ h. h;
    turn_after = then_orders choice;
    turn_by_test = orders_by_test choice;
    calm = λ h. h;
    last_after = then_orders choice;
    last_by_test = orders_by_test choice;
    last_fosters = λ name e h. absurd (true≢false (sym e));
    says_done = said;
    says = said;
    by_answer = either_order;
    ends_template = either_order is_in_template (said (leave_template_orders choice)) (said (unmoved choice));
  }

  order_everywhere : Everywhere is_orderly_name (λ mode. is_late mode ≡ true) orderly_act LateOrders
  order_everywhere = record {
    by_mode = λ t h. record { orders = λ letters s l x. (h s.mode l).orders letters s l x };
    alike_allowed = λ name. refl;
    comment_allowed = λ text. refl;
    leaves = λ h. record {
      orders = λ letters s l x. h.orders letters (on_stack (leave_foreign s.nodes) s) l
          (order_fewer letters (leave_foreign s.nodes s.stack) s (leave_foreign_fewer s.nodes s.stack) x);
    };
    ends_foreign = λ name h. record {
      orders = λ letters s l x. end_foreign_order name h (foreign_end (text_of_name name) s.stack) letters s
          (foreign_end_in (text_of_name name) s.stack) l x;
    };
  }

  -- ---- and the body is open

  -- an element of only text is open right inside what is rooted
  pub record Late (letters : List ℕ) (s : StateValue) : Type 0 where
    pub plain : Plain s
    pub hung : Hung s
    pub ordered : Ordered choice letters s
    pub body : ℕ
    pub rooted : RootedAt body s
    pub raw : is_text_mode s.content ≡ true → Rooted body (pop s.stack)

  pub record LateAnswer (letters : List ℕ) (a : Outcome) : Type 0 where
    pub late : Late letters a.state
    pub calm : a.again ≡ true → is_text_mode a.state.content ≡ false

  pub by_rules_late : (t : TokenValue) → IsOrderly t → (letters : List ℕ) (s : StateValue)
      → is_text_mode s.content ≡ false → Late letters s → LateAnswer letters (by_rules t s)
  by_rules_late t p letters s e h =
      let x = (by_rules_hold order order_everywhere refl t p).orders letters s h.rooted.late
      (record { plain = h.plain; hung = h.hung; ordered = h.ordered }) in
      let y = (by_rules_roots t p).leaves h.body s h.plain h.rooted in
      record {
        late = record {
          plain = x.plain;
          hung = x.hung;
          ordered = x.ordered;
          body = h.body;
          rooted = y.rooted;
          raw = raw_of h.body (by_rules t s) (y.rest e);
        };
        calm = calm_of h.body (by_rules t s) (y.rest e);
      }
    where
      raw_of : (body : ℕ) (a : Outcome)
          → (is_text_mode a.state.content ≡ false) ⊎ ((a.again ≡ false) × Rooted body (pop a.state.stack))
          → is_text_mode a.state.content ≡ true → Rooted body (pop a.state.stack)
      raw_of body a (inl c) r = absurd (true≢false (sym r ∙ c))
      raw_of body a (inr x) r = x.1

      calm_of : (body : ℕ) (a : Outcome)
          → (is_text_mode a.state.content ≡ false) ⊎ ((a.again ≡ false) × Rooted body (pop a.state.stack))
          → a.again ≡ true → is_text_mode a.state.content ≡ false
      calm_of body a (inl c) r = c
      calm_of body a (inr x) r = absurd (true≢false (sym r ∙ x.0))

  -- a step that leaves what is read on, where no element of only text is open
  pub late_step : {f : StateValue → StateValue} → Orders choice f → Roots f → (letters : List ℕ)
      (s : StateValue) → is_text_mode s.content ≡ false → Late letters s → Late letters (f s)
  late_step f g letters s e h = record {
    plain = f.stays.stays s h.plain;
    hung = f.stays.hangs s h.plain h.hung;
    ordered = f.orders letters s h.plain h.hung h.ordered;
    body = h.body;
    rooted = g.rooted h.body s h.rooted;
    raw = λ r. absurd (true≢false (sym r ∙ (ap is_text_mode (g.content h.body s h.rooted) ∙ e)));
  }
