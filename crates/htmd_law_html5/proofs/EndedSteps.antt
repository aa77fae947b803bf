-- What must stay open in a mode, and steps that leave it so.
use Rattle.std.proofs.Common.{Bool, List, None, Option, Some, ap, false, inl, inr, length, refl, subst, sym, true, ℕ}
use Rattle.std.proofs.Common.{[], ◌∙◌, ◌∷◌, ◌≡◌, ⊎_elim, ◌⊎◌}
use Rattle.std.proofs.lemmas.Bool.{and_parts, cond_both}
use Rattle.std.specs.Prelude.{if◌then◌else◌, is_some, unwrap_or, ◌&&◌}
use Rattle.htmd_lexical.proofs.Cases.{test}
use Rattle.htmd_lexical.specs.declared.content_model.RawElement.{RawElement}
use Rattle.htmd_html5.specs.Feeding.{is_text_mode}
use Rattle.htmd_html5.specs.InTable.{fostered}
use Rattle.htmd_html5.specs.Outcomes.{Outcome, done, outcome}
use Rattle.htmd_html5.specs.SharedRules.{insert_raw_tag, with_mode}
use Rattle.htmd_html5.specs.Tokens.{StartTagValue}
use Rattle.htmd_law_html5.proofs.EndedStacks.{Anchor, Has, at_cell, at_head, at_noscript, at_root, at_select, is_any}
use Rattle.htmd_law_html5.proofs.EndedStates.{Ends, Manner, Whole, insert_element_ends, whole_fewer}
use Rattle.htmd_law_html5.proofs.OpenNodes.{pop_until_fewer}
use Rattle.htmd_html5_state.specs.Insertion.{opened}
use Rattle.htmd_html5_state.specs.Names.{ElementNameValue, html, known}
use Rattle.htmd_html5_state.specs.OpenElements.{OpenValue, is_in_scope, pop, pop_until}
use Rattle.htmd_html5_state.specs.Resetting.{mode_for_name, mode_of, reset_insertion_mode, template_mode}
use Rattle.htmd_html5_state.specs.State.{StateValue, on_stack}
use Rattle.htmd_html5_state.specs.declared.modes.InsertionMode.{InsertionMode}
use Rattle.htmd_html5_state.specs.declared.modes.InsertionMode.TheVariants.{InCell, InHead, InHeadNoscript}
use Rattle.htmd_html5_state.specs.declared.modes.InsertionMode.TheVariants.{InSelectInTable}
use Rattle.htmd_html5_state.specs.declared.sets.NameSet.{NameSet}
use Rattle.htmd_html5_state.specs.declared.sets.NameSet.TheVariants.{Only}
use Rattle.htmd_html5_state.specs.declared.sets.Scope.TheVariants.{Template as TemplateScope}
use Rattle.htmd_html5_state.specs.declared.names.TagName.TheVariants as tags

-- ---- modes

-- what the rules of a mode pop without a look
abbrev pub anchor_of : InsertionMode → Option Anchor
anchor_of InHead = Some at_head
anchor_of InHeadNoscript = Some at_noscript
anchor_of InCell = Some at_cell
anchor_of InSelectInTable = Some at_select
anchor_of _ = None

abbrev pub HasSome : Option Anchor → List OpenValue → Type 0
HasSome None stack = Unit {0}
HasSome (Some a) stack = Has a stack

abbrev pub FreeModes : List InsertionMode → Type 0
FreeModes [] = Unit {0}
FreeModes (mode ∷ modes) = (anchor_of mode ≡ None) × FreeModes modes

-- what holds of it, if there is one
abbrev pub covers : (Anchor → Bool) → Option Anchor → Bool
covers p None = true
covers p (Some a) = p a

pub covers_any : (a : Option Anchor) → covers is_any a ≡ true
covers_any None = refl
covers_any (Some a) = refl

pub some_kept : {p : Anchor → Bool} (stack new : List OpenValue) (a : Option Anchor) → covers p a ≡ true
    → ((b : Anchor) → p b ≡ true → Has b stack → Has b new) → HasSome a stack → HasSome a new
some_kept stack new None c f h = tt
some_kept stack new (Some a) c f h = f a c h

pub some_more : (a : Option Anchor) (e : OpenValue) (es : List OpenValue) → HasSome a es → HasSome a (e ∷ es)
some_more None e es h = tt
some_more (Some a) e es h = inr h

pub some_free : (a : Option Anchor) (es : List OpenValue) → a ≡ None → HasSome a es
some_free a es e = subst (λ (o : Option Anchor). HasSome o es) (sym e) tt

-- ---- states from the root on

pub record Ready (s : StateValue) : Type 0 where
  pub whole : Whole s
  pub modes : FreeModes s.template_modes
  pub root : Has at_root s.stack
  pub fact : HasSome (anchor_of s.mode) s.stack

-- what a step leaves after which a state is ready, and the tokenizer reads on as before
pub record Turned (s new : StateValue) : Type 0 where
  pub ready : Ready new
  pub content : new.content ≡ s.content

pub turned : {s new : StateValue} → Whole new → FreeModes new.template_modes → Has at_root new.stack
    → HasSome (anchor_of new.mode) new.stack → new.content ≡ s.content → Turned s new
turned w m r f c = record { ready = record { whole = w; modes = m; root = r; fact = f }; content = c }

-- an element of only text may be open then, above what must stay open
pub record Tagged (s new : StateValue) : Type 0 where
  pub ready : Ready new
  pub rest : is_text_mode s.content ≡ false → (is_text_mode new.content ≡ false)
      ⊎ (Has at_root (pop new.stack) × HasSome (anchor_of new.mode) (pop new.stack))

-- the token isn't processed again where one is open
pub record Answered (s : StateValue) (a : Outcome) : Type 0 where
  pub ready : Ready a.state
  pub rest : is_text_mode s.content ≡ false → (is_text_mode a.state.content ≡ false) ⊎ ((a.again ≡ false)
      × (Has at_root (pop a.state.stack) × HasSome (anchor_of a.state.mode) (pop a.state.stack)))

-- ---- steps of the rules of one mode

-- after which the mode is the same
pub record Steady (mode : InsertionMode) (f : StateValue → StateValue) : Type 0 where
  pub turns : (s : StateValue) → s.mode ≡ mode → Ready s → Turned s (f s)
  pub stays : (s : StateValue) → s.mode ≡ mode → Ready s → (f s).mode ≡ mode

-- or may be another
pub record Onward (mode : InsertionMode) (f : StateValue → StateValue) : Type 0 where
  pub turns : (s : StateValue) → s.mode ≡ mode → Ready s → Turned s (f s)

-- and an element of only text may be open
pub record Tags (mode : InsertionMode) (f : StateValue → StateValue) : Type 0 where
  pub leaves : (s : StateValue) → s.mode ≡ mode → Ready s → Tagged s (f s)

pub record ModeEnds (mode : InsertionMode) (f : StateValue → Outcome) : Type 0 where
  pub answers : (s : StateValue) → s.mode ≡ mode → Ready s → Answered s (f s)

pub fact_at : {s : StateValue} (mode : InsertionMode) → s.mode ≡ mode → Ready s
    → HasSome (anchor_of mode) s.stack
fact_at {s} mode e h = subst (λ (m : InsertionMode). HasSome (anchor_of m) s.stack) e h.fact

pub steady : {p : Anchor → Bool} {f : StateValue → StateValue} {mode : InsertionMode}
    → (p at_root && covers p (anchor_of mode)) ≡ true → Ends p f → Steady mode f
steady {p} {f} {mode} c h = record {
  turns = λ s e g.
      let k = and_parts (p at_root) (covers p (anchor_of mode)) c in
      turned (h.whole s g.whole)
      (subst FreeModes (sym (ap (λ (m : Manner). m.template_modes) (h.same s g.whole))) g.modes)
      (h.keeps at_root k.0 s g.whole g.root)
      (subst (λ (m : InsertionMode). HasSome (anchor_of m) (f s).stack) (sym (stays s e g))
      (some_kept s.stack (f s).stack (anchor_of mode) k.1 (λ a i l. h.keeps a i s g.whole l) (fact_at mode e g)))
      (ap (λ (m : Manner). m.content) (h.same s g.whole));
  stays = stays;
}
  where
    stays : (s : StateValue) → s.mode ≡ mode → Ready s → (f s).mode ≡ mode
    stays s e g = ap (λ (m : Manner). m.mode) (h.same s g.whole) ∙ e

pub any_step : {f : StateValue → StateValue} {mode : InsertionMode} → Ends is_any f → Steady mode f
any_step {f} {mode} h = steady {p = is_any} (covers_any (anchor_of mode)) h

pub onward : {mode : InsertionMode} {f : StateValue → StateValue} → Steady mode f → Onward mode f
onward h = record { turns = h.turns }

pub any_turn : {f : StateValue → StateValue} {mode : InsertionMode} → Ends is_any f → Onward mode f
any_turn h = onward (any_step h)

-- to a mode that asks for nothing
pub to_free : {p : Anchor → Bool} {mode : InsertionMode} {f : StateValue → StateValue} (next : InsertionMode)
    → anchor_of next ≡ None → p at_root ≡ true → Ends p f → Onward mode (λ s. with_mode next (f s))
to_free {p} {mode} {f} next e r h = record {
  turns = λ s i g.
      turned (h.whole s g.whole)
      (subst FreeModes (sym (ap (λ (m : Manner). m.template_modes) (h.same s g.whole))) g.modes)
      (h.keeps at_root r s g.whole g.root) (some_free (anchor_of next) (f s).stack e)
      (ap (λ (m : Manner). m.content) (h.same s g.whole));
}

-- where the test holds
pub onward_where : {mode : InsertionMode} {f : StateValue → StateValue} (b : StateValue → Bool)
    → ((s : StateValue) → b s ≡ true → Ready s → Turned s (f s))
    → Onward mode (λ s. if b s then f s else s)
onward_where b first = record {
  turns = λ s e h. cond_both (b s) _ _ (λ x. Turned s x) (λ t. first s t h)
      (λ t. record { ready = h; content = refl });
}

pub calm : {mode : InsertionMode} {f : StateValue → StateValue} → Onward mode f → Tags mode f
calm f = record {
  leaves = λ s e h. let x = f.turns s e h in
      record { ready = x.ready; rest = λ k. inl (ap is_text_mode x.content ∙ k) };
}

pub raw_tag_tags : {mode : InsertionMode} (element : RawElement) (tag : StartTagValue)
    → Tags mode (insert_raw_tag element tag)
raw_tag_tags element tag = record {
  leaves = λ s e h. record {
    ready = record {
      whole = (insert_element_ends {p = is_any} tag.name tag.attributes).whole s h.whole;
      modes = h.modes;
      root = inr h.root;
      fact = some_more (anchor_of s.mode) (opened (length s.nodes) (html tag.name)) s.stack h.fact;
    };
    rest = λ k. inr (h.root, h.fact);
  };
}

-- ---- steps put together

pub onward_then : {mode : InsertionMode} {f g : StateValue → StateValue} → Onward mode f → Steady mode g
    → Onward mode (λ s. f (g s))
onward_then {mode} {f} {g} first second = record {
  turns = λ s e h.
      let x = second.turns s e h in
      let y = first.turns (g s) (second.stays s e h) x.ready in
      record { ready = y.ready; content = y.content ∙ x.content };
}

pub steady_then : {mode : InsertionMode} {f g : StateValue → StateValue} → Steady mode f → Steady mode g
    → Steady mode (λ s. f (g s))
steady_then {mode} {f} {g} first second = record {
  turns = (onward_then (onward first) second).turns;
  stays = λ s e h. first.stays (g s) (second.stays s e h) (second.turns s e h).ready;
}

pub tags_then : {mode : InsertionMode} {f g : StateValue → StateValue} → Tags mode f → Steady mode g
    → Tags mode (λ s. f (g s))
tags_then {mode} {f} {g} first second = record {
  leaves = λ s e h.
      let x = second.turns s e h in
      let y = first.leaves (g s) (second.stays s e h) x.ready in
      record { ready = y.ready; rest = λ k. y.rest (ap is_text_mode x.content ∙ k) };
}

module _ {mode : InsertionMode} {f g : StateValue → StateValue} (b : StateValue → Bool) where
  pub steady_either : Steady mode f → Steady mode g → Steady mode (λ s. if b s then f s else g s)
  steady_either first second = record {
    turns = λ s e h. cond_both (b s) _ _ (λ x. Turned s x) (λ t. first.turns s e h) (λ t. second.turns s e h);
    stays = λ s e h. cond_both (b s) _ _ (λ (x : StateValue). x.mode ≡ mode) (λ t. first.stays s e h)
        (λ t. second.stays s e h);
  }

  pub onward_either : Onward mode f → Onward mode g → Onward mode (λ s. if b s then f s else g s)
  onward_either first second = record {
    turns = λ s e h. cond_both (b s) _ _ (λ x. Turned s x) (λ t. first.turns s e h) (λ t. second.turns s e h);
  }

  pub tags_either : Tags mode f → Tags mode g → Tags mode (λ s. if b s then f s else g s)
  tags_either first second = record {
    leaves = λ s e h. cond_both (b s) _ _ (λ x. Tagged s x) (λ t. first.leaves s e h) (λ t. second.leaves s e h);
  }

pub mode_either : {mode : InsertionMode} {f g : StateValue → Outcome} (b : StateValue → Bool) → ModeEnds mode f
    → ModeEnds mode g → ModeEnds mode (λ s. if b s then f s else g s)
mode_either b first second = record {
  answers = λ s e h. cond_both (b s) _ _ (λ x. Answered s x) (λ t. first.answers s e h) (λ t. second.answers s e h);
}

-- with foster parenting
pub fostered_ready : {s : StateValue} → Ready s → Ready (record s { foster_parenting = true })
fostered_ready h = record { whole = h.whole; modes = h.modes; root = h.root; fact = h.fact }

pub steady_fostered : {mode : InsertionMode} {f : StateValue → StateValue} → Steady mode f
    → Steady mode (fostered f)
steady_fostered f = record {
  turns = λ s e h.
      let x = f.turns (record s { foster_parenting = true }) e (fostered_ready h) in
      turned x.ready.whole x.ready.modes x.ready.root x.ready.fact x.content;
  stays = λ s e h. f.stays (record s { foster_parenting = true }) e (fostered_ready h);
}

pub tags_fostered : {mode : InsertionMode} {f : StateValue → StateValue} → Tags mode f → Tags mode (fostered f)
tags_fostered f = record {
  leaves = λ s e h.
      let x = f.leaves (record s { foster_parenting = true }) e (fostered_ready h) in
      record {
        ready = record { whole = x.ready.whole; modes = x.ready.modes; root = x.ready.root; fact = x.ready.fact };
        rest = x.rest;
      };
}

-- ---- answers

pub says_onward : {mode : InsertionMode} {f : StateValue → StateValue} {more : StateValue → Bool} → Onward mode f
    → ModeEnds mode (λ s. outcome (f s) (more s))
says_onward h = record {
  answers = λ s e x. let y = h.turns s e x in
      record { ready = y.ready; rest = λ k. inl (ap is_text_mode y.content ∙ k) };
}

pub says_tags : {mode : InsertionMode} {f : StateValue → StateValue} → Tags mode f
    → ModeEnds mode (λ s. done (f s))
says_tags {mode} {f} h = record {
  answers = λ s e x. let y = h.leaves s e x in
      record { ready = y.ready; rest = λ k. ⊎_elim (λ c. inl c) (λ r. inr (refl, r)) (y.rest k) };
}

-- ---- the mode is reset

named_fact : (name : ElementNameValue) (n : ℕ) (outer : List OpenValue) (s : StateValue) (mode : InsertionMode)
    → FreeModes s.template_modes → HasSome (anchor_of mode) outer
    → HasSome (anchor_of (unwrap_or (mode_for_name name outer s) mode)) (opened n name ∷ outer)
named_fact (html (known tags.Select)) n outer s mode f h =
    test (is_in_scope (Only tags.Table) TemplateScope outer) (λ t. rw t (inl (refl, tt))) (λ t. rw t tt)
named_fact (html (known tags.Td)) n [] s mode f h = some_more (anchor_of mode) _ [] h
named_fact (html (known tags.Td)) n (e ∷ es) s mode f h = inl (refl, tt)
named_fact (html (known tags.Th)) n [] s mode f h = some_more (anchor_of mode) _ [] h
named_fact (html (known tags.Th)) n (e ∷ es) s mode f h = inl (refl, tt)
named_fact (html (known tags.Head)) n [] s mode f h = some_more (anchor_of mode) _ [] h
named_fact (html (known tags.Head)) n (e ∷ es) s mode f h = inl (refl, tt)
named_fact (html (known tags.Tr)) n outer s mode f h = tt
named_fact (html (known tags.TBody)) n outer s mode f h = tt
named_fact (html (known tags.THead)) n outer s mode f h = tt
named_fact (html (known tags.TFoot)) n outer s mode f h = tt
named_fact (html (known tags.Caption)) n outer s mode f h = tt
named_fact (html (known tags.ColGroup)) n outer s mode f h = tt
named_fact (html (known tags.Table)) n outer s mode f h = tt
named_fact (html (known tags.Body)) n outer s mode f h = tt
named_fact (html (known tags.FrameSet)) n outer s mode f h = tt
named_fact (html (known tags.Template)) n outer s mode f h =
    some_free (anchor_of (template_mode s.template_modes)) _ (free s.template_modes f)
  where
    free : (modes : List InsertionMode) → FreeModes modes → anchor_of (template_mode modes) ≡ None
    free [] g = refl
    free (m ∷ ms) g = g.0
named_fact (html (known tags.Html)) n outer s mode f h = test (is_some s.head) (λ t. rw t tt) (λ t. rw t tt)
named_fact _ n outer s mode f h = some_more (anchor_of mode) _ outer h

reset_fact : (stack : List OpenValue) (s : StateValue) → FreeModes s.template_modes
    → HasSome (anchor_of (mode_of stack s)) stack
reset_fact [] s f = tt
reset_fact (e ∷ es) s f = named_fact e.name e.node es s (mode_of es s) f (reset_fact es s f)

pub reset_ready : (s : StateValue) → Whole s → FreeModes s.template_modes → Has at_root s.stack
    → Ready (reset_insertion_mode s)
reset_ready s w f r = record { whole = w; modes = f; root = r; fact = reset_fact s.stack s f }

-- elements are popped, and then it is reset
pub popped_reset : (set : NameSet) (s : StateValue) → Ready s → Has at_root (pop_until set s.stack)
    → Turned s (reset_insertion_mode (on_stack (pop_until set) s))
popped_reset set s h r = record {
  ready = reset_ready (on_stack (pop_until set) s)
      (whole_fewer (pop_until set s.stack) (pop_until_fewer set s.stack) h.whole) h.modes r;
  content = refl;
}
