-- Before the body each token that is no text leaves the letters in order, by the rules of the mode.
use Rattle.std.proofs.Common.{◌≡◌, ◌∙◌, ℕ, ◌<◌, ◌≤◌, Bool, true, false, List, [], ◌∷◌, length, Option, Some, None, refl}
use Rattle.std.proofs.Common.{sym, ap, subst, arith, inl}
use Rattle.std.specs.Prelude.{if◌then◌else◌, ◌&&◌, ◌||◌, not}
use Rattle.std.proofs.lemmas.Bool.{true≢false, and_from, and_parts, cond_both, eq-eqb, ne_eqb, or_right}
use Rattle.std.proofs.lemmas.List.{length-map}
use Rattle.htmd_lexical.specs.AttributePairs.{AttributePair}
use Rattle.htmd_lexical.specs.declared.content_model.RawElement.{RawElement}
use Rattle.htmd_lexical.specs.declared.content_model.ContentModel.TheVariants.{Raw}
use Rattle.htmd_html5_state.specs.Names.{NameValue, known, html}
use Rattle.htmd_html5_state.specs.Nodes.{NodeValue, comment as comment_kind, doctype as doctype_kind, last_in, kind_at}
use Rattle.htmd_html5_state.specs.Nodes.{add, add_missing}
use Rattle.htmd_html5_state.specs.OpenElements.{OpenValue, first_open, pop, without}
use Rattle.htmd_html5_state.specs.State.{StateValue, on_stack}
use Rattle.htmd_html5_state.specs.Foreign.{current_is_html, is_math_text_point, is_annotation, is_html_point}
use Rattle.htmd_html5_state.specs.Formatting.{is_listed}
use Rattle.htmd_html5_state.specs.Insertion.{opened, current, insert_element, insert_comment_in, open_again}
use Rattle.htmd_html5_state.specs.declared.modes.InsertionMode.TheVariants.{Initial, BeforeHtml, BeforeHead, InHead}
use Rattle.htmd_html5_state.specs.declared.modes.InsertionMode.TheVariants.{InHeadNoscript, AfterHead, InBody}
use Rattle.htmd_html5_state.specs.declared.modes.InsertionMode.{InsertionMode}
use Rattle.htmd_html5.specs.Tokens.{StartTagValue, TokenValue, start_tag, end_tag, run, end_of_file}
use Rattle.htmd_html5.specs.Outcomes.{Outcome, outcome, done}
use Rattle.htmd_html5.specs.Feeding.{is_text_mode}
use Rattle.htmd_html5.specs.SharedRules.{insert_head_element, insert_raw_tag, insert_void_tag, add_missing_to}
use Rattle.htmd_html5.specs.BodyStarts.{is_in_template}
use Rattle.htmd_html5.specs.BeforeHtml.{with_root}
use Rattle.htmd_html5.specs.BeforeHead.{with_head}
use Rattle.htmd_html5.specs.InHead.{close_head, start_in_head}
use Rattle.htmd_html5.specs.AfterHead.{with_body, insert_in_head, insert_late}
use Rattle.htmd_html5.specs.Modes.{in_mode, by_mode_rules}
use Rattle.htmd_html5.specs.Processing.{by_rules}
use Rattle.htmd_html5.specs.ForeignContent.{is_foreign, is_for_math_text, is_for_annotation, is_for_html_point}
use Rattle.htmd_law_html5.specs.TextKept.{is_head_name, is_after_head}
use Rattle.htmd_law_html5.proofs.NodeTexts.{is_element}
use Rattle.htmd_law_html5.proofs.OpenNodes.{EachOpen, Below, each_more, pop_fewer}
use Rattle.htmd_law_html5.proofs.PlainNames.{is_plain_name, no_template_open}
use Rattle.htmd_law_html5.proofs.PlainStates.{is_plain_mode}
use Rattle.htmd_law_html5.proofs.HungStates.{ElementOpen, element_number, hung_under_root, hung_headed, hung_missing}
use Rattle.htmd_law_html5.proofs.HungAdoption.{each_both}
use Rattle.htmd_law_html5.proofs.HungNodes.{is_solid, element_solid}
use Rattle.htmd_law_html5.proofs.RootedStacks.{is_late, is_outer_tag, is_outer_name}
use Rattle.htmd_law_html5.proofs.OrderedStates.{element_in, missing_ordered, no_text, current_within}
use Rattle.htmd_law_html5.proofs.OrderedStates.{insert_void_orders, insert_raw_orders, insert_element_orders}
use Rattle.htmd_law_html5.proofs.OrderedRules.{is_orderly_name, IsOrderly}
use Rattle.htmd_law_html5.proofs.Rules.{Given, own, implied, renamed, given_name, given_attributes, Act, act_on}
use Rattle.htmd_law_html5.proofs.Rules.{body_put, raw_text, of_head, late_of_head, noscript_put, started}
use Rattle.htmd_law_html5.proofs.Rules.{comment_in_document, template_closed, head_left, noscript_left}
use Rattle.htmd_law_html5.proofs.Rules.{root_attributes, frames_refused, to_quirks, reply_fits}
use Rattle.htmd_law_html5.proofs.RuleBook.{start_in, end_in, rule_in}
use Rattle.htmd_law_html5.proofs.RuleWalk.{IsMarkup, tag_name, Invariant, in_mode_holds}
use Rattle.htmd_law_html5.proofs.OrderedLate.{Late, by_rules_late}
use Rattle.htmd_law_html5.proofs.OrderedEarly.{OuterOpen, EarlyOf, EarlyIn, Early, early_plain, early_step}
use Rattle.htmd_law_html5.proofs.OrderedEarly.{early_fewer, early_loose, head_open, opens_in, HeadAt, Placed, is_early}
use Rattle.htmd_law_html5.proofs.OrderedEarly.{BeforeBody, Staged, staged, by_stage, real, Calm, current_html}
use Rattle.htmd_law_html5.proofs.OrderedEarly.{outer_plain, early_mode_plain}
use Rattle.htmd_law_html5.proofs.Counted.{Choice}
use Rattle.htmd_law_html5.proofs.OrderedNodes.{some_same}
use Rattle.htmd_law_html5.proofs.PlainRules.{by_head_element}
use Rattle.htmd_html5_state.specs.declared.names.TagName.TheVariants as tags
use Rattle.htmd_lexical.specs.declared.content_model.RawElement.TheVariants as raw
use Rattle.htmd_law_html5.proofs.Rules as rules

-- ---- steps in a mode

-- modes that the one after the head may follow
abbrev leads_on : InsertionMode → Bool
leads_on InHead = true
leads_on AfterHead = true
leads_on _ = false

-- no other mode leads to it
abbrev Leaves : InsertionMode → InsertionMode → Type 0
Leaves mode next = (is_after_head next && not (leads_on mode)) ≡ false

stays_there : (mode : InsertionMode) → Leaves mode mode
stays_there AfterHead = refl
stays_there _ = refl

-- a start tag of what belongs into the head
abbrev pub opens_head : TokenValue → Bool
opens_head (start_tag tag) = is_head_name tag.name
opens_head _ = false

module _ (choice : Choice) where
  -- ---- what a step leads to

  -- a state in this mode, in no element of only text
  record Held (mode : InsertionMode) (letters : List ℕ) (s : StateValue) : Type 0 where
    at_mode : s.mode ≡ mode
    calm : Calm s
    before : BeforeBody choice false mode letters s

  -- one in a mode in which the token is processed again
  record Onto (mode : InsertionMode) (letters : List ℕ) (s : StateValue) : Type 0 where
    stage : Staged choice letters s
    calm : Calm s
    leaves : Leaves mode s.mode

  -- what the mode answers
  record ModeAnswer (mode : InsertionMode) (letters : List ℕ) (a : Outcome) : Type 0 where
    stage : Staged choice letters a.state
    calm : a.again ≡ true → Calm a.state
    leaves : a.again ≡ true → Leaves mode a.state.mode

  record Leads {X : Type 0} (mode : InsertionMode) (R : List ℕ → X → Type 0) (f : StateValue → X) : Type 0 where
    leads : (letters : List ℕ) (s : StateValue) → Held mode letters s → R letters (f s)

  module _ {X : Type 0} {mode : InsertionMode} {R : List ℕ → X → Type 0} where
    lead : {f : StateValue → X} → ((letters : List ℕ) (s : StateValue) → Held mode letters s
        → R letters (f s)) → Leads mode R f
    lead h = record { leads = h }

    leads_then : {f : StateValue → X} {g : StateValue → StateValue} → Leads mode R f → Leads mode (Held mode) g
        → Leads mode R (λ s. f (g s))
    leads_then {f} {g} first second = lead (λ letters s h. first.leads letters (g s) (second.leads letters s h))

    leads_by_test : {f g : StateValue → X} (b : StateValue → Bool) → Leads mode R f → Leads mode R g
        → Leads mode R (λ s. if b s then f s else g s)
    leads_by_test {f} {g} b first second =
        lead (λ letters s h. cond_both (b s) _ _ (λ x. R letters x) (λ e. first.leads letters s h)
        (λ e. second.leads letters s h))

  module _ (mode next : InsertionMode) {letters : List ℕ} (s : StateValue) where
    onto : is_early next ≡ true → Leaves mode next → s.mode ≡ next → Calm s
        → EarlyIn choice letters s (opens_in next choice.reopens false s.head s.stack)
        → Placed next false s.head s.stack → Onto mode letters s
    onto e l m c h placed = record {
      stage = staged choice false next letters s c m (record { early_mode = e; early = h; placed = placed });
      calm = c;
      leaves = subst (λ (x : InsertionMode). Leaves mode x) (sym m) l;
    }

  held_onto : (mode : InsertionMode) (letters : List ℕ) (s : StateValue) → Held mode letters s
      → Onto mode letters s
  held_onto mode letters s h =
      onto mode mode s h.before.early_mode (stays_there mode) h.at_mode h.calm h.before.early h.before.placed

  says_onto : (mode : InsertionMode) (letters : List ℕ) (s : StateValue) (more : Bool) → Onto mode letters s
      → ModeAnswer mode letters (outcome s more)
  says_onto mode letters s more h = record { stage = h.stage; calm = λ z. h.calm; leaves = λ z. h.leaves }

  says_done : (mode : InsertionMode) (letters : List ℕ) (s : StateValue) → Staged choice letters s
      → ModeAnswer mode letters (done s)
  says_done mode letters s h =
      record { stage = h; calm = λ z. absurd (true≢false (sym z)); leaves = λ z. absurd (true≢false (sym z)) }

  -- ---- acts that leave the mode as it is

  module _ {mode : InsertionMode} {letters : List ℕ} {s : StateValue} (h : Held mode letters s) where
    real_early : Early choice letters s
    real_early = real choice false mode letters s h.before

    no_template : is_in_template s ≡ false
    no_template =
        no_template_open s.stack
        (early_plain s s.stack mode (early_mode_plain mode h.before.early_mode) real_early).names

    held_plain : is_plain_mode s.mode ≡ true
    held_plain = ap is_plain_mode h.at_mode ∙ early_mode_plain mode h.before.early_mode

    with_nodes : (nodes : List NodeValue)
        → ((stack : List OpenValue) → EarlyOf choice letters s.nodes stack s.head s.foster_parenting
        → EarlyOf choice letters nodes stack s.head s.foster_parenting)
        → Held mode letters (record s { nodes = nodes })
    with_nodes nodes f = record {
      at_mode = h.at_mode;
      calm = h.calm;
      before = record {
        early_mode = h.before.early_mode;
        early = (f (opens_in mode choice.reopens false s.head s.stack) h.before.early.0, h.before.early.1);
        placed = h.before.placed;
      };
    }

    missing_held : (n : Option ℕ) (more : List AttributePair) → Held mode letters (add_missing_to n more s)
    missing_held None more = h
    missing_held (Some n) more =
        with_nodes (add_missing n more s.nodes) (λ stack x. record {
          hung = hung_missing n more s.nodes x.hung;
          ordered = missing_ordered choice n more x.ordered;
          names = x.names;
        })

    comment_held : (n : ℕ) (c : List ℕ) → n < length s.nodes → Held mode letters (insert_comment_in n c s)
    comment_held n c within =
        with_nodes (add (comment_kind c) (last_in n) s.nodes)
        (λ stack x. early_loose (comment_kind c) n refl refl (no_text c) within x)

  abbrev early_act : Act → Bool
  early_act root_attributes = true
  early_act (rules.comment c) = true
  early_act (comment_in_document c) = true
  early_act template_closed = true
  early_act frames_refused = true
  early_act a = false

  act_leads : (mode : InsertionMode) (tag : StartTagValue) (a : Act) → early_act a ≡ true
      → Leads mode (Held mode) (act_on a tag)
  act_leads mode tag root_attributes e =
      leads_by_test is_in_template (lead (λ letters s h. h))
      (lead (λ letters s h. missing_held h (first_open s.stack) tag.attributes))
  act_leads mode tag (rules.comment c) e =
      lead (λ letters s h. comment_held h (current s.stack).node c (current_within s.stack (real_early h).0.hung))
  act_leads mode tag (comment_in_document c) e = lead (λ letters s h. comment_held h 0 c h.before.early.0.hung.filled)
  act_leads mode tag template_closed e = lead (λ letters s h. rw (no_template h) h)
  act_leads mode tag frames_refused e = lead (λ letters s h. record {
    at_mode = h.at_mode;
    calm = h.calm;
    before = record { early_mode = h.before.early_mode; early = h.before.early; placed = h.before.placed };
  })
  act_leads mode tag a e = absurd (true≢false (sym e))

  -- ---- acts that lead to another mode

  -- names of what is open before the body
  abbrev outer_given : NameValue → Given → Bool
  outer_given name own = is_outer_name name
  outer_given name (implied tag) = is_outer_tag tag
  outer_given name (renamed tag) = is_outer_tag tag

  given_outer : (given : Given) (tag : StartTagValue) → outer_given tag.name given ≡ true
      → is_outer_name (given_name given tag) ≡ true
  given_outer own tag e = e
  given_outer _ tag e = e

  root_put : (letters : List ℕ) (name : NameValue) (attributes : List AttributePair) (s : StateValue)
      → is_outer_name name ≡ true → Early choice letters s → s.stack ≡ []
      → Early choice letters (with_root name attributes s)
  root_put letters name attributes s o h none = (
    record {
      hung = hung_under_root (html name) attributes s.nodes h.0.hung;
      ordered = element_in choice (html name) attributes 0 h.0.hung h.0.ordered h.0.hung.filled h.0.ordered.root
          (subst (λ (stack : List OpenValue). EachOpen (λ e. h.0.hung.rank e.node ≤ h.0.hung.rank 0) stack)
          (sym none) tt);
      names = (o, h.0.names);
    },
    h.1,
  )

  -- an element inside what is open
  element_put : (letters : List ℕ) (name : NameValue) (attributes : List AttributePair) (s : StateValue)
      → is_plain_mode s.mode ≡ true → is_outer_name name ≡ true → Early choice letters s
      → Early choice letters (insert_element name attributes s)
  element_put letters name attributes s m o h =
      early_step (insert_element_orders choice name attributes (outer_plain (html name) o)) letters s m
      (o, h.0.names) h.1 h

  head_put : (letters : List ℕ) (name : NameValue) (attributes : List AttributePair) (s : StateValue)
      → is_plain_mode s.mode ≡ true → is_outer_name name ≡ true → Early choice letters s
      → Early choice letters (with_head name attributes s)
  head_put letters name attributes s m o h =
      let x = element_put letters name attributes s m o h in (
        record {
          hung = hung_headed (length s.nodes) x.0.hung.opened_at.0 x.0.hung;
          ordered = x.0.ordered;
          names = x.0.names;
        },
        x.1,
      )

  head_renamed : (letters : List ℕ) (nodes : List NodeValue) (head : Option ℕ) (fosters : Bool) (n : ℕ)
      (stack : List OpenValue) → is_element (kind_at nodes n) ≡ true → (current stack).node ≡ n
      → EarlyOf choice letters nodes stack head fosters
      → EarlyOf choice letters nodes (head_open n ∷ pop stack) head fosters
  head_renamed letters nodes head fosters n [] e f h =
      absurd (true≢false (sym (element_solid (kind_at nodes n) e)
      ∙ (ap (λ (x : ℕ). is_solid (kind_at nodes x)) (sym f) ∙ h.hung.root)))
  head_renamed letters nodes head fosters n (d ∷ ds) e f h = record {
    hung = record {
      rank = h.hung.rank;
      limit = h.hung.limit;
      at_root = h.hung.at_root;
      order = subst (λ (x : ℕ). Below h.hung.rank h.hung.limit (head_open x ∷ ds)) f h.hung.order;
      hangs = h.hung.hangs;
      opened_at = (e, h.hung.opened_at.1);
      head_at = h.hung.head_at;
      forest = h.hung.forest;
      filled = h.hung.filled;
      root = h.hung.root;
    };
    ordered = record {
      labels = h.ordered.labels;
      fits = h.ordered.fits;
      root = h.ordered.root;
      opens = (subst (λ (x : ℕ). h.ordered.labels.live x ≡ true) f h.ordered.opens.0, h.ordered.opens.1);
      no_fostering = h.ordered.no_fostering;
    };
    names = (refl, h.names.1);
  }

  head_closed : (letters : List ℕ) (s : StateValue) → Early choice letters s → HeadAt 0 s.head s.stack
      → EarlyIn choice letters (close_head s) (opens_in AfterHead choice.reopens false s.head (pop s.stack))
  head_closed letters s h at = (by_head choice.reopens s.head refl, h.1)
    where
      by_head : (reopens : Bool) (head : Option ℕ) → s.head ≡ head
          → EarlyOf choice letters s.nodes (opens_in AfterHead reopens false head (pop s.stack)) s.head
          s.foster_parenting
      by_head true (Some n) e =
          head_renamed letters s.nodes s.head s.foster_parenting n s.stack (h.0.hung.head_at n e) (at n e) h.0
      by_head reopens head e = early_fewer (pop s.stack) (pop_fewer s.stack) h.0

  body_leads : (letters : List ℕ) (name : NameValue) (attributes : List AttributePair) (s : StateValue)
      → name ≡ known tags.Body → Held AfterHead letters s → Onto AfterHead letters (with_body name attributes s)
  body_leads letters name attributes s n held = record { stage = inl late; calm = held.calm; leaves = refl }
    where
      h : Early choice letters s
      h = real_early held

      x : Early choice letters (insert_element name attributes s)
      x = element_put letters name attributes s (held_plain held) (ap is_outer_name n) h

      late : Late choice letters (with_body name attributes s)
      late = record {
        plain = early_plain (insert_element name attributes s) (insert_element name attributes s).stack InBody refl x;
        hung = x.0.hung;
        ordered = x.0.ordered;
        body = length s.nodes;
        rooted = record {
          within = subst (λ (m : ℕ). length s.nodes < m)
              (sym (length-map (insert_element name attributes s).nodes _))
              (element_number (length s.nodes) (insert_element name attributes s).nodes x.0.hung.opened_at.0);
          rooted = inl (
            (ap html n, refl),
            each_more s.stack (λ d y. (y.1, element_number d.node s.nodes y.0))
                (each_both (ElementOpen s.nodes) OuterOpen s.stack h.0.hung.opened_at h.0.names),
          );
          entries_at = λ m l. absurd (true≢false (sym l ∙ ap (is_listed m) h.1.0));
          form_at = λ m f. absurd (let z : None ≡ Some m = sym h.1.1.0 ∙ f in cc);
          late = refl;
        };
        raw = λ r. absurd (true≢false (sym r ∙ held.calm));
      }

  abbrev is_body_name : NameValue → Bool
  is_body_name (known tags.Body) = true
  is_body_name _ = false

  body_named : (name : NameValue) → is_body_name name ≡ true → name ≡ known tags.Body
  body_named (known tags.Body) e = refl
  body_named _ e = absurd (true≢false (sym e))

  abbrev early_turn : InsertionMode → NameValue → Act → Bool
  early_turn Initial name to_quirks = true
  early_turn Initial name (started quirks) = true
  early_turn BeforeHtml name (rules.root given) = outer_given name given
  early_turn BeforeHead name (rules.head given) = outer_given name given
  early_turn InHead name head_left = true
  early_turn InHead name noscript_put = is_outer_name name
  early_turn InHeadNoscript name noscript_left = true
  early_turn AfterHead name (body_put own) = is_body_name name
  early_turn AfterHead name (body_put (implied tags.Body)) = true
  early_turn mode name a = early_act a

  turn_leads : (mode : InsertionMode) (tag : StartTagValue) (a : Act) → early_turn mode tag.name a ≡ true
      → Leads mode (Onto mode) (act_on a tag)
  turn_leads Initial tag to_quirks e =
      lead (λ letters s h. onto Initial BeforeHtml (act_on to_quirks tag s) refl refl refl h.calm h.before.early
      h.before.placed)
  turn_leads Initial tag (started quirks) e =
      lead (λ letters s h. let x = h.before.early in
      onto Initial BeforeHtml (act_on (started quirks) tag s) refl refl refl h.calm
      (early_loose doctype_kind 0 refl refl (λ t e. cc) x.0.hung.filled x.0, x.1) h.before.placed)
  turn_leads BeforeHtml tag (rules.root given) e =
      lead (λ letters s h. onto BeforeHtml BeforeHead (act_on (rules.root given) tag s) refl refl refl h.calm
      (root_put letters (given_name given tag) (given_attributes given tag) s (given_outer given tag e) h.before.early
      h.before.placed) tt)
  turn_leads BeforeHead tag (rules.head given) e =
      lead (λ letters s h. onto BeforeHead InHead (act_on (rules.head given) tag s) refl refl refl h.calm
      (head_put letters (given_name given tag) (given_attributes given tag) s (held_plain h) (given_outer given tag e)
      h.before.early) (λ n e. some_same e))
  turn_leads InHead tag head_left e =
      lead (λ letters s h. onto InHead AfterHead (close_head s) refl refl refl h.calm
      (head_closed letters s h.before.early h.before.placed) (λ z. absurd (true≢false (sym z))))
  turn_leads InHead tag noscript_put e =
      lead (λ letters s h. onto InHead InHeadNoscript (act_on noscript_put tag s) refl refl refl h.calm
      (element_put letters tag.name tag.attributes s (held_plain h) e h.before.early) h.before.placed)
  turn_leads InHeadNoscript tag noscript_left e =
      lead (λ letters s h. onto InHeadNoscript InHead (act_on noscript_left tag s) refl refl refl h.calm
      (early_fewer (pop s.stack) (pop_fewer s.stack) h.before.early.0, h.before.early.1) h.before.placed)
  turn_leads AfterHead tag (body_put own) e =
      lead (λ letters s h. body_leads letters tag.name tag.attributes s (body_named tag.name e) h)
  turn_leads AfterHead tag (body_put (implied tags.Body)) e =
      lead (λ letters s h. body_leads letters (known tags.Body) [] s refl h)
  turn_leads mode tag a e =
      lead (λ letters s h. held_onto mode letters (act_on a tag s) ((act_leads mode tag a e).leads letters s h))

  -- ---- acts that put an element into the head

  module _ (tag : StartTagValue) (p : is_plain_name tag.name ≡ true) (letters : List ℕ) (s : StateValue)
      (m : is_plain_mode s.mode ≡ true) (h : Early choice letters s) where
    void_put : Early choice letters (insert_void_tag tag s)
    void_put = early_step (insert_void_orders choice tag.name tag.attributes p) letters s m h.0.names h.1 h

    raw_put : (element : RawElement) → is_outer_name tag.name ≡ true
        → Early choice letters (insert_raw_tag element tag s)
    raw_put element o =
        early_step (insert_raw_orders choice tag.name element tag.attributes p) letters s m (o, h.0.names) h.1 h

  -- where the head is open
  module _ (mode : InsertionMode) (early_mode : is_early mode ≡ true)
      (inner : (raw : Bool) (letters : List ℕ) (s : StateValue) → Early choice letters s
      → EarlyIn choice letters s (opens_in mode choice.reopens raw s.head s.stack))
      (placed : (e : OpenValue) (head : Option ℕ) (stack : List OpenValue) → Placed mode false head stack
      → Placed mode true head (e ∷ stack)) where
    inside : (raw : Bool) (letters : List ℕ) (s : StateValue) → is_text_mode s.content ≡ raw → s.mode ≡ mode
        → Early choice letters s → Placed mode raw s.head s.stack → Staged choice letters s
    inside raw letters s r m h at =
        staged choice raw mode letters s r m
        (record { early_mode = early_mode; early = inner raw letters s h; placed = at })

    raw_leads : (tag : StartTagValue) (element : RawElement) → is_text_mode (Raw element) ≡ true
        → is_outer_name tag.name ≡ true → Leads mode (Staged choice) (insert_raw_tag element tag)
    raw_leads tag element r o =
        lead (λ letters s h. inside true letters (insert_raw_tag element tag s) r h.at_mode
        (raw_put tag (outer_plain (html tag.name) o) letters s (held_plain h) (real_early h) element o)
        (placed (opened (length s.nodes) (html tag.name)) s.head s.stack h.before.placed))

    of_head_leads : (tag : StartTagValue) → is_plain_name tag.name ≡ true
        → Leads mode (Staged choice) (insert_head_element tag.name tag)
    of_head_leads tag p =
        by_head_element (Leads mode (Staged choice)) tag p (raw_leads tag)
        (lead (λ letters s h. inside false letters (insert_void_tag tag s) h.calm h.at_mode
        (void_put tag p letters s (held_plain h) (real_early h)) h.before.placed))

  -- after the head, where it may be opened once more
  after : (raw : Bool) (letters : List ℕ) (s : StateValue) → choice.reopens ≡ true
      → is_text_mode s.content ≡ raw → s.mode ≡ AfterHead → (head : Option ℕ) (stack : List OpenValue)
      → s.head ≡ head → s.stack ≡ stack → Placed AfterHead raw head stack
      → EarlyIn choice letters s (opens_in AfterHead true raw head stack) → Staged choice letters s
  after raw letters s again e m head stack f g placed h =
      staged choice raw AfterHead letters s e m (record {
        early_mode = refl;
        early = subst (λ (x : List OpenValue). EarlyIn choice letters s x) (sym (
            ap (λ (b : Bool). opens_in AfterHead b raw s.head s.stack) again
            ∙ (ap (λ (x : Option ℕ). opens_in AfterHead true raw x s.stack) f
            ∙ ap (λ (x : List OpenValue). opens_in AfterHead true raw head x) g))) h;
        placed = λ r z. placed r (sym g ∙ z);
      })

  late_leads : (tag : StartTagValue) → is_plain_name tag.name ≡ true → choice.reopens ≡ true
      → Leads AfterHead (Staged choice) (insert_late tag)
  late_leads tag p again =
      lead (λ letters s h. by_head letters s h s.head refl
      (subst (λ (b : Bool). EarlyIn choice letters s (opens_in AfterHead b false s.head s.stack)) again
      h.before.early))
    where
      by_head : (letters : List ℕ) (s : StateValue) → Held AfterHead letters s → (head : Option ℕ) → s.head
          ≡ head → EarlyIn choice letters s (opens_in AfterHead true false head s.stack)
          → Staged choice letters (insert_in_head head tag s)
      by_head letters s h None f x =
          by_head_element (λ put. Staged choice letters (put s)) tag p
          (λ element r o. after true letters (insert_raw_tag element tag s) again r h.at_mode None
          (opened (length s.nodes) (html tag.name) ∷ s.stack) f refl (λ z w. cc)
          (raw_put tag p letters s (held_plain h) x element o))
          (after false letters (insert_void_tag tag s) again h.calm h.at_mode None s.stack f refl
          (λ z. absurd (true≢false (sym z))) (void_put tag p letters s (held_plain h) x))
      by_head letters s h (Some n) f x =
          by_head_element (λ put. Staged choice letters
          (on_stack (without n) (put (open_again n (known tags.Head) s)))) tag p (λ element r o. after true letters
          (on_stack (without n) (insert_raw_tag element tag (open_again n (known tags.Head) s))) again r h.at_mode
          (Some n) (opened (length s.nodes) (html tag.name) ∷ s.stack) f
          (rw (ne_eqb (length s.nodes) n (λ z. let w = within in omega arith), eq-eqb n n refl) refl)
          (λ z w. cc) (raw_put tag p letters (open_again n (known tags.Head) s) (held_plain h) x element o))
          (after false letters (on_stack (without n) (insert_void_tag tag (open_again n (known tags.Head) s))) again
          h.calm h.at_mode (Some n) s.stack f (rw (eq-eqb n n refl) refl) (λ z. absurd (true≢false (sym z)))
          (void_put tag p letters (open_again n (known tags.Head) s) (held_plain h) x))
        where
          within : n < length s.nodes
          within = element_number n s.nodes x.0.hung.opened_at.0

  abbrev early_last : InsertionMode → NameValue → Act → Bool
  early_last InHead name (raw_text raw.Noscript) = is_outer_name name
  early_last InHead name of_head = is_plain_name name
  early_last InHeadNoscript name of_head = is_plain_name name
  early_last AfterHead name late_of_head = is_plain_name name && choice.reopens
  early_last mode name a = early_turn mode name a

  last_leads : (mode : InsertionMode) (tag : StartTagValue) (a : Act) → early_last mode tag.name a ≡ true
      → Leads mode (Staged choice) (act_on a tag)
  last_leads InHead tag (raw_text raw.Noscript) e =
      raw_leads InHead refl (λ raw letters s h. h) (λ e head stack h. h) tag raw.Noscript refl e
  last_leads InHead tag of_head e =
      of_head_leads InHead refl (λ raw letters s h. h) (λ e head stack h. h) tag e
  last_leads InHeadNoscript tag of_head e =
      of_head_leads InHeadNoscript refl (λ raw letters s h. h) (λ e head stack h. h) tag e
  last_leads AfterHead tag late_of_head e =
      let parts = and_parts _ _ e in late_leads tag parts.0 parts.1
  last_leads mode tag a e = lead (λ letters s h. ((turn_leads mode tag a e).leads letters s h).stage)

  -- ---- the rules of each mode

  -- names of start tags that may come in a mode
  abbrev comes : InsertionMode → NameValue → Bool
  comes mode name = is_orderly_name name && (not (is_head_name name && is_after_head mode) || choice.reopens)

  starts_fit : (name : NameValue) (mode : InsertionMode) → is_early mode ≡ true → comes mode name ≡ true
      → reply_fits early_act (early_turn mode name) (early_last mode name) (start_in mode name) ≡ true
  starts_fit (known tags.FrameSet) mode e q = absurd (true≢false (sym q))
  starts_fit (known tags.Template) mode e q = absurd (true≢false (sym q))
  starts_fit (known tags.Table) mode e q = absurd (true≢false (sym q))
  starts_fit name AfterHead e q = q
  starts_fit name mode e q = cc

  ends_fit : (name : NameValue) (mode : InsertionMode) → is_early mode ≡ true
      → reply_fits early_act (early_turn mode (known tags.P)) (early_last mode (known tags.P)) (end_in mode name)
      ≡ true
  ends_fit (known tags.A) Initial e = refl
  ends_fit name InHead e = refl
  ends_fit name AfterHead e = refl
  ends_fit name mode e = cc

  all_fit : (mode : InsertionMode) → is_early mode ≡ true → (t : TokenValue) → IsMarkup (comes mode) t
      → reply_fits early_act (early_turn mode (tag_name t)) (early_last mode (tag_name t)) (rule_in mode t) ≡ true
  all_fit mode e (start_tag tag) p = starts_fit tag.name mode e p
  all_fit mode e (end_tag name) p = ends_fit name mode e
  all_fit Initial e t p = refl
  all_fit mode e t p = cc

  early : (mode : InsertionMode) → is_early mode ≡ true
      → Invariant (comes mode) (λ other. other ≡ mode) (λ name. early_act) (early_turn mode) (early_last mode)
      (Leads mode (Held mode)) (Leads mode (Onto mode)) (Leads mode (Staged choice)) (Leads mode (ModeAnswer mode))
  early mode e = record {
    acts = λ tag p a f. act_leads mode tag a f;
    turn_acts = λ tag p a f. turn_leads mode tag a f;
    last_acts = λ tag p a f. last_leads mode tag a f;
    fit = λ other q t p. subst (λ (m : InsertionMode). reply_fits early_act (early_turn mode (tag_name t))
        (early_last mode (tag_name t)) (rule_in m t) ≡ true) (sym q) (all_fit mode e t p);
    still = lead (λ letters s h. h);
    after = leads_then;
    by_test = leads_by_test;
    fosters = λ name f h. absurd (true≢false (sym f));
    onward = λ h. lead (λ letters s x. held_onto mode letters _ (h.leads letters s x));
    turn_after = leads_then;
    turn_by_test = leads_by_test;
    calm = λ h. lead (λ letters s x. (held_onto mode letters _ (h.leads letters s x)).stage);
    last_after = leads_then;
    last_by_test = leads_by_test;
    last_fosters = λ name f h. absurd (true≢false (sym f));
    says_done = λ h. lead (λ letters s x. says_done mode letters _ (h.leads letters s x));
    says = λ h. lead (λ letters s x. says_onto mode letters _ _ (h.leads letters s x));
    by_answer = leads_by_test;
    ends_template =
        lead (λ letters s h. rw (no_template h) (says_onto mode letters s false (held_onto mode letters s h)));
  }

  in_early_mode : (t : TokenValue) (letters : List ℕ) (s : StateValue) → IsMarkup (comes s.mode) t → Calm s
      → BeforeBody choice false s.mode letters s → ModeAnswer s.mode letters (in_mode s.mode t s)
  in_early_mode t letters s p c h =
      (in_mode_holds (early s.mode h.early_mode) refl t p s.mode refl).leads letters s
      (record { at_mode = refl; calm = c; before = h })

  -- what rules answer
  pub record StageAnswer (letters : List ℕ) (a : Outcome) : Type 0 where
    pub stage : Staged choice letters a.state
    pub calm : a.again ≡ true → Calm a.state

  -- as at the end of the file the mode is left, and the token is processed again
  pub left_early : (letters : List ℕ) (s : StateValue) → Calm s → BeforeBody choice false s.mode letters s
      → StageAnswer letters (in_mode s.mode end_of_file s)
  left_early letters s c h = let x = in_early_mode end_of_file letters s tt c h in
      record { stage = x.stage; calm = x.calm }

  -- between the head and the body none comes, if the head isn't to be opened once more
  abbrev pub MayCome : TokenValue → StateValue → Type 0
  MayCome t s = choice.reopens ≡ false → is_after_head s.mode ≡ true → opens_head t ≡ false

  coming : (t : TokenValue) (s : StateValue) → IsOrderly t → MayCome t s → IsMarkup (comes s.mode) t
  coming (run kind c) s p may = p
  coming (start_tag tag) s p may =
      and_from _ _ p (unless_both (is_head_name tag.name) (is_after_head s.mode) choice.reopens may)
    where
      unless_both : (a b c : Bool) → (c ≡ false → b ≡ true → a ≡ false) → (not (a && b) || c) ≡ true
      unless_both true true false f = absurd (true≢false (f refl refl))
      unless_both a b c f = refl
  coming t s p may = tt

  -- a tag that opens the head is never left to the mode after the head
  head_goes_on : (t : TokenValue) (s : StateValue) → (in_mode InHead t s).again ≡ true → opens_head t ≡ false
  head_goes_on (start_tag tag) s e = by_name tag.name e
    where
      by_name : (name : NameValue) → (start_in_head name tag s).again ≡ true → is_head_name name ≡ false
      by_name (known tags.A) e = refl
      by_name _ e = cc
  head_goes_on t s e = refl

  may_go_on : (t : TokenValue) (s : StateValue) (mode next : InsertionMode) → s.mode ≡ mode → MayCome t s
      → (in_mode mode t s).again ≡ true → Leaves mode next → choice.reopens ≡ false → is_after_head next
      ≡ true → opens_head t ≡ false
  may_go_on t s InHead next e may again l z m = head_goes_on t s again
  may_go_on t s AfterHead next e may again l z m = may z (ap is_after_head e)
  may_go_on t s _ next e may again l z m = absurd (true≢false (sym (ap (λ (b : Bool). b && true) m) ∙ l))

-- ---- nothing foreign is open

pub stays_html : (t : TokenValue) (s : StateValue) → current_is_html s.stack ≡ true → is_foreign t s ≡ false
stays_html end_of_file s h = refl
stays_html t s h =
    ap not (or_right (is_for_math_text t && is_math_text_point (current s.stack)
    || is_for_annotation t && is_annotation (current s.stack)
    || is_for_html_point t && is_html_point s.nodes (current s.stack)) (current_is_html s.stack) h)

module _ (choice : Choice) where
  late_apart : (mode : InsertionMode) → is_late mode ≡ true → is_after_head mode ≡ true → ⊥
  late_apart AfterHead l e = true≢false (sym l)
  late_apart _ l e = true≢false (sym e)

  pub never_foreign : (t : TokenValue) (mode : InsertionMode) (letters : List ℕ) (s : StateValue)
      → BeforeBody choice false mode letters s → is_foreign t s ≡ false
  never_foreign t mode letters s h = stays_html t s (current_html s.stack (real choice false mode letters s h).0.names)

  -- so the rules of the mode apply
  pub html_rules : (P : Outcome → Type 0) (t : TokenValue) (letters : List ℕ) (s : StateValue)
      → BeforeBody choice false s.mode letters s → P (by_mode_rules t s) → P (by_rules t s)
  html_rules P t letters s h x =
      cond_both (is_foreign t s) _ _ P (λ e. absurd (true≢false (sym e ∙ never_foreign t s.mode letters s h)))
      (λ e. x)

  pub by_rules_stage : (t : TokenValue) → IsOrderly t → (letters : List ℕ) (s : StateValue) → Calm s
      → Staged choice letters s → MayCome choice t s → StageAnswer choice letters (by_rules t s)
      × ((by_rules t s).again ≡ true → MayCome choice t (by_rules t s).state)
  by_rules_stage t p letters s calm h may =
      by_stage choice false letters s calm h
      (λ late. let x = by_rules_late choice t p letters s calm late in (
        record { stage = inl x.late; calm = x.calm },
        λ k z m. absurd (late_apart (by_rules t s).state.mode x.late.rooted.late m),
      )) (λ before. let x = in_early_mode choice t letters s (coming choice t s p may) calm before in
      html_rules
      (λ a. StageAnswer choice letters a × (a.again ≡ true → MayCome choice t a.state)) t letters s before (
        record { stage = x.stage; calm = x.calm },
        λ k. may_go_on choice t s s.mode (by_mode_rules t s).state.mode refl may k (x.leaves k),
      ))
