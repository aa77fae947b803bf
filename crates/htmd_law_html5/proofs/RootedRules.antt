-- The rules of the modes of the body leave the body open, and an element of only text is open right under what is left:
-- what each act does.
use Rattle.std.proofs.Common.{◌≡◌, ◌∙◌, ℕ, ◌<◌, Bool, true, false, List, length, Option, Some, None}
use Rattle.std.proofs.Common.{refl, sym, ap, subst, inl, inr, ◌⊎◌, ⊎_elim}
use Rattle.std.specs.Prelude.{if◌then◌else◌, not}
use Rattle.std.proofs.lemmas.Bool.{cond_both, true≢false, not-true}
use Rattle.htmd_lexical.specs.AttributePairs.{AttributePair}
use Rattle.htmd_lexical.specs.declared.content_model.RawElement.{RawElement}
use Rattle.htmd_html5_state.specs.Names.{NameValue, known, text_of_name, same_name}
use Rattle.htmd_html5_state.specs.Sets.{has}
use Rattle.htmd_html5_state.specs.OpenElements.{OpenValue, first_open, is_node_in_scope, pop, pop_until, pop_while}
use Rattle.htmd_html5_state.specs.OpenElements.{without}
use Rattle.htmd_html5_state.specs.State.{StateValue, on_stack}
use Rattle.htmd_html5_state.specs.Insertion.{current}
use Rattle.htmd_html5_state.specs.Adoption.{formatting_element, node_is, adoption_agency}
use Rattle.htmd_html5_state.specs.Resetting.{mode_of}
use Rattle.htmd_html5_state.specs.Foreign.{namespace_of}
use Rattle.htmd_html5_state.specs.declared.modes.InsertionMode.{InsertionMode}
use Rattle.htmd_html5_state.specs.declared.modes.InsertionMode.TheVariants.{InBody}
use Rattle.htmd_html5_state.specs.declared.names.Namespace.{Namespace}
use Rattle.htmd_html5_state.specs.declared.sets.NameSet.{NameSet}
use Rattle.htmd_html5_state.specs.declared.sets.NameSet.TheVariants.{Only, Headings, DescriptionParts, ImpliedEnd}
use Rattle.htmd_html5.specs.Tokens.{StartTagValue}
use Rattle.htmd_html5.specs.Outcomes.{Outcome, outcome, done}
use Rattle.htmd_html5.specs.Feeding.{is_text_mode}
use Rattle.htmd_html5.specs.SharedRules.{with_mode, insert_raw_tag, no_frameset, add_missing_to, end_template}
use Rattle.htmd_html5.specs.SharedRules.{insert_head_element}
use Rattle.htmd_html5.specs.BodyStarts.{is_in_template, open_body, add_to_this_body, mode_of_select, forget}
use Rattle.htmd_html5.specs.BodyEnds.{close_form}
use Rattle.htmd_html5.specs.InSelect.{close_select, has_select, end_select}
use Rattle.htmd_html5.specs.AfterBody.{comment_in}
use Rattle.htmd_html5.specs.ForeignContent.{insert_alike}
use Rattle.htmd_law_html5.proofs.PlainAdoption.{found_listed}
use Rattle.htmd_law_html5.proofs.PlainStates.{Plain}
use Rattle.htmd_law_html5.proofs.RootedStacks.{is_late, is_inner_tag, is_inner_name, is_outer_tag, Rooted, Spares}
use Rattle.htmd_law_html5.proofs.RootedStacks.{only_spares, no_template, close_rooted, close_name_rooted}
use Rattle.htmd_law_html5.proofs.RootedStacks.{pop_while_rooted, pop_where_rooted, option_in_group_rooted}
use Rattle.htmd_law_html5.proofs.RootedStacks.{without_rooted, reset_is_late, select_rooted}
use Rattle.htmd_law_html5.proofs.RootedStates.{RootedAt, Roots, then_roots, rooted_still, roots_by_test}
use Rattle.htmd_law_html5.proofs.RootedStates.{roots_by_state, rooted_stack, rooted_form, rooted_mode, on_stack_roots}
use Rattle.htmd_law_html5.proofs.RootedStates.{number_after, insert_element_roots, insert_void_roots}
use Rattle.htmd_law_html5.proofs.RootedStates.{insert_raw_rooted, insert_foreign_roots, insert_comment_roots}
use Rattle.htmd_law_html5.proofs.RootedStates.{insert_comment_in_roots, add_missing_roots, without_entry_roots}
use Rattle.htmd_law_html5.proofs.RootedStates.{push_marker_roots, clear_to_marker_roots, insert_formatting_roots}
use Rattle.htmd_law_html5.proofs.RootedStates.{reconstruct_roots}
use Rattle.htmd_law_html5.proofs.RootedAdoption.{adoption_agency_roots}
use Rattle.htmd_law_html5.proofs.Rules.{own, given_name, given_attributes, Cut, in_scope, each_of, named, heading}
use Rattle.htmd_law_html5.proofs.Rules.{option, option_and_group, group, left_open, Act, act_on, element, void}
use Rattle.htmd_law_html5.proofs.Rules.{raw_text, of_head, foreign, foreign_alike, formatting, select, comment}
use Rattle.htmd_law_html5.proofs.Rules.{comment_in_root, comment_in_document, cut, agency, forget_anchor, noted_form}
use Rattle.htmd_law_html5.proofs.Rules.{select_closed, template_closed, root_attributes, body_attributes, marked}
use Rattle.htmd_law_html5.proofs.Rules.{to_marker, reconstructed, to_mode, frames_refused, line_feed_skipped}
use Rattle.htmd_law_html5.proofs.Rules.{noted_element, name_given}
use Rattle.htmd_html5_state.specs.declared.names.TagName.TheVariants as tags
use Rattle.htmd_lexical.specs.declared.content_model.RawElement.TheVariants as raw

-- ---- what a tag leaves

-- what is left of a state in which no element of only text is open
pub record TagRooted (body : ℕ) (s new : StateValue) : Type 0 where
  pub rooted : RootedAt body new
  pub rest : is_text_mode s.content ≡ false → (is_text_mode new.content ≡ false) ⊎ Rooted body (pop new.stack)

pub record TagRoots (f : StateValue → StateValue) : Type 0 where
  pub leaves : (body : ℕ) (s : StateValue) → RootedAt body s → TagRooted body s (f s)

pub steady : {f : StateValue → StateValue} → Roots f → TagRoots f
steady f = record {
  leaves = λ body s h. record {
    rooted = f.rooted body s h;
    rest = λ e. inl (ap is_text_mode (f.content body s h) ∙ e);
  };
}

pub tags_by_test : {f g : StateValue → StateValue} (b : StateValue → Bool) → TagRoots f → TagRoots g
    → TagRoots (λ s. if b s then f s else g s)
tags_by_test b first second = record {
  leaves = λ body s h. cond_both (b s) _ _ (λ x. TagRooted body s x) (λ t. first.leaves body s h)
      (λ t. second.leaves body s h);
}

-- a tag's step after others
pub tag_after : {f g : StateValue → StateValue} → TagRoots f → Roots g → TagRoots (λ s. f (g s))
tag_after {f} {g} last first = record {
  leaves = λ body s h. let x = last.leaves body (g s) (first.rooted body s h) in
      record { rooted = x.rooted; rest = λ e. x.rest (ap is_text_mode (first.content body s h) ∙ e) };
}

-- ---- outcomes in a mode

-- the token isn't processed again where an element of only text was opened
pub record AnswerRooted (body : ℕ) (s : StateValue) (a : Outcome) : Type 0 where
  pub rooted : RootedAt body a.state
  pub rest : is_text_mode s.content ≡ false
      → (is_text_mode a.state.content ≡ false) ⊎ ((a.again ≡ false) × Rooted body (pop a.state.stack))

pub record AnswerRoots (f : StateValue → Outcome) : Type 0 where
  pub leaves : (body : ℕ) (s : StateValue) → Plain s → RootedAt body s → AnswerRooted body s (f s)

pub says_rooted : {f : StateValue → StateValue} {more : StateValue → Bool} → Roots f
    → AnswerRoots (λ s. outcome (f s) (more s))
says_rooted f = record {
  leaves = λ body s plain h. record {
    rooted = f.rooted body s h;
    rest = λ e. inl (ap is_text_mode (f.content body s h) ∙ e);
  };
}

pub tag_rooted : {f : StateValue → StateValue} → TagRoots f → AnswerRoots (λ s. done (f s))
tag_rooted g = record {
  leaves = λ body s plain h. let x = g.leaves body s h in
      record { rooted = x.rooted; rest = λ e. ⊎_elim (λ q. inl q) (λ r. inr (refl, r)) (x.rest e) };
}

pub answers_rooted : {f g : StateValue → Outcome} (b : StateValue → Bool) → AnswerRoots f → AnswerRoots g
    → AnswerRoots (λ s. if b s then f s else g s)
answers_rooted b first second = record {
  leaves = λ body s plain h. cond_both (b s) _ _ (λ x. AnswerRooted body s x) (λ t. first.leaves body s plain h)
      (λ t. second.leaves body s plain h);
}

-- ---- acts that leave the body open

abbrev spares_set : NameSet → Bool
spares_set (Only tag) = not (is_outer_tag tag)
spares_set Headings = true
spares_set DescriptionParts = true
spares_set set = false

set_spares : (set : NameSet) → spares_set set ≡ true → Spares set
set_spares (Only tag) e u p = only_spares tag (not-true (is_outer_tag tag) e) u p
set_spares Headings e tags.H1 p = absurd (true≢false (sym p))
set_spares Headings e _ p = cc
set_spares DescriptionParts e tags.Dd p = absurd (true≢false (sym p))
set_spares DescriptionParts e _ p = cc
set_spares _ e u p = absurd (true≢false (sym e))

abbrev spares_body : Cut → Bool
spares_body (in_scope set scope) = spares_set set
spares_body (each_of set) = not (has set tags.Body)
spares_body (named name) = not (same_name (known tags.Body) name)
spares_body heading = true
spares_body option = true
spares_body option_and_group = true
spares_body group = true
spares_body what = false

left_rooted : (what : Cut) → spares_body what ≡ true → (body : ℕ) (stack : List OpenValue) → Rooted body stack
    → Rooted body (left_open what stack)
left_rooted (in_scope set scope) e body stack r = close_rooted set scope (set_spares set e) body stack r
left_rooted (each_of set) e body stack r = pop_while_rooted set (not-true (has set tags.Body) e) body stack r
left_rooted (named name) e body stack r =
    close_name_rooted name (not-true (same_name (known tags.Body) name) e) body stack r
left_rooted heading e body stack r = pop_where_rooted Headings refl body stack r
left_rooted option e body stack r = pop_where_rooted (Only tags.OptionTag) refl body stack r
left_rooted option_and_group e body stack r =
    pop_where_rooted (Only tags.OptGroup) refl body _ (pop_where_rooted (Only tags.OptionTag) refl body stack r)
left_rooted group e body stack r =
    pop_where_rooted (Only tags.OptGroup) refl body _ (option_in_group_rooted body stack r)
left_rooted what e body stack r = absurd (true≢false (sym e))

-- acts for a tag of that name in the body and after it
abbrev pub rooted_act : NameValue → Act → Bool
rooted_act name (element given) = is_inner_name (name_given given name)
rooted_act name (void given) = true
rooted_act name (foreign space) = true
rooted_act name foreign_alike = true
rooted_act name formatting = is_inner_name name
rooted_act name select = is_inner_name name
rooted_act name noted_element = is_inner_name name
rooted_act name (comment text) = true
rooted_act name (comment_in_root text) = true
rooted_act name (comment_in_document text) = true
rooted_act name (cut what) = spares_body what
rooted_act name (agency other) = is_inner_tag other
rooted_act name forget_anchor = true
rooted_act name noted_form = true
rooted_act name select_closed = true
rooted_act name template_closed = true
rooted_act name root_attributes = true
rooted_act name body_attributes = true
rooted_act name marked = true
rooted_act name to_marker = true
rooted_act name reconstructed = true
rooted_act name (to_mode mode) = is_late mode
rooted_act name frames_refused = true
rooted_act name line_feed_skipped = true
rooted_act name a = false

-- and those that open an element of only text
abbrev pub last_rooted_act : NameValue → Act → Bool
last_rooted_act name (raw_text raw) = is_inner_name name
last_rooted_act name of_head = is_inner_name name
last_rooted_act name a = rooted_act name a

-- ---- what each does

pub with_mode_roots : (mode : InsertionMode) → is_late mode ≡ true → Roots (with_mode mode)
with_mode_roots mode l = record { rooted = λ body s h. rooted_mode mode l h; content = λ body s h. refl }

pub no_frameset_roots : Roots no_frameset
no_frameset_roots = record { rooted = λ body s h. h; content = λ body s h. refl }

-- no template is open
template_roots : Roots end_template
template_roots = record {
  rooted = λ body s h. rw (no_template body s.stack h.rooted) h;
  content = λ body s h. rw (no_template body s.stack h.rooted) refl;
}

add_missing_to_roots : (attributes : List AttributePair) (n : Option ℕ) → Roots (add_missing_to n attributes)
add_missing_to_roots attributes None = rooted_still
add_missing_to_roots attributes (Some n) = add_missing_roots n attributes

add_to_body_roots : (tag : StartTagValue) (n : Option ℕ) → Roots (add_to_this_body n tag)
add_to_body_roots tag None = rooted_still
add_to_body_roots tag (Some n) =
    roots_by_test is_in_template rooted_still (then_roots no_frameset_roots (add_missing_roots n tag.attributes))

alike_roots : (tag : StartTagValue) (space : Option Namespace) → Roots (insert_alike space tag)
alike_roots tag None = rooted_still
alike_roots tag (Some space) = insert_foreign_roots space (text_of_name tag.name) tag.attributes tag.self_closing

comment_in_roots : (c : List ℕ) (n : Option ℕ) → Roots (comment_in n c)
comment_in_roots c None = rooted_still
comment_in_roots c (Some n) = insert_comment_in_roots n c

-- a step of one state
record OneStep (body : ℕ) (content : _) (new : StateValue) : Type 0 where
  rooted : RootedAt body new
  content_same : new.content ≡ content

one_step : {f : StateValue → StateValue}
    → ((body : ℕ) (s : StateValue) → RootedAt body s → OneStep body s.content (f s)) → Roots f
one_step g = record { rooted = λ body s h. (g body s h).rooted; content = λ body s h. (g body s h).content_same }

-- a formatting element was opened after the body
forget_roots : Roots (λ s. forget (formatting_element tags.A s) s)
forget_roots = one_step (λ body s h. by_found body s h (formatting_element tags.A s) refl)
  where
    by_found : (body : ℕ) (s : StateValue) → RootedAt body s → (n : Option ℕ)
        → formatting_element tags.A s ≡ n → OneStep body s.content (forget n s)
    by_found body s h None e = record { rooted = h; content_same = refl }
    by_found body s h (Some n) e =
        let agency = adoption_agency_roots tags.A refl in
        let x = agency.rooted body s h in
        let l = (h.entries_at n (found_listed (node_is s.nodes tags.A) s.formatting n e)).0 in
        record {
          rooted = rooted_stack (without n (adoption_agency tags.A s).stack)
              (without_rooted body n l (adoption_agency tags.A s).stack x.rooted)
              ((without_entry_roots n).rooted body (adoption_agency tags.A s) x);
          content_same = agency.content body s h;
        }

close_form_rooted : (body : ℕ) (s : StateValue) (form : Option ℕ) → ((n : ℕ) → form ≡ Some n → body < n)
    → RootedAt body s → OneStep body s.content (close_form form s)
close_form_rooted body s None f h = record { rooted = h; content_same = refl }
close_form_rooted body s (Some n) f h =
    cond_both (is_node_in_scope n s.stack) _ _ (OneStep body s.content)
    (λ t. record {
      rooted = rooted_stack (without n (pop_while ImpliedEnd s.stack))
          (without_rooted body n (f n refl) (pop_while ImpliedEnd s.stack)
          (pop_while_rooted ImpliedEnd refl body s.stack h.rooted)) h;
      content_same = refl;
    }) (λ t. record { rooted = h; content_same = refl })

noted_form_roots : Roots (λ s. close_form s.form (record s { form = None }))
noted_form_roots =
    one_step (λ body s h. close_form_rooted body (record s { form = None }) s.form h.form_at
    (rooted_form (λ n e. absurd (cc)) h))

select_late : (mode : InsertionMode) → is_late mode ≡ true → is_late (mode_of_select mode) ≡ true
select_late InBody l = refl
select_late _ l = cc

closed_select : (body : ℕ) (s : StateValue) → RootedAt body s → has_select s ≡ true
    → RootedAt body (close_select s)
closed_select body s h t =
    rooted_mode (mode_of (pop_until (Only tags.Select) s.stack) (on_stack (pop_until (Only tags.Select)) s))
    (reset_is_late body (pop_until (Only tags.Select) s.stack) (on_stack (pop_until (Only tags.Select)) s)
    (select_rooted body s.stack h.rooted t))
    (rooted_stack (pop_until (Only tags.Select) s.stack) (select_rooted body s.stack h.rooted t) h)

end_select_roots : Roots end_select
end_select_roots =
    one_step (λ body s h. cond_both (has_select s) _ _ (OneStep body s.content)
    (λ t. record { rooted = closed_select body s h t; content_same = refl })
    (λ t. record { rooted = h; content_same = refl }))

module _ (tag : StartTagValue) where
  -- the form comes after the body
  noted_element_roots : is_inner_name tag.name ≡ true → Roots (act_on noted_element tag)
  noted_element_roots p = record {
    rooted = λ body s h. rooted_form
        (λ n e. let same : length s.nodes ≡ n = cc in subst (λ (m : ℕ). body < m) same (number_after body s h))
        ((insert_element_roots tag.name tag.attributes p).rooted body s h);
    content = λ body s h. refl;
  }

  select_roots : is_inner_name tag.name ≡ true → Roots (act_on select tag)
  select_roots p = record {
    rooted = λ body s h. rooted_mode (mode_of_select s.mode) (select_late s.mode h.late) (ordinary.rooted body s h);
    content = λ body s h. ordinary.content body s h;
  }
    where
      ordinary : Roots (λ s. act_on (element own) tag (act_on reconstructed tag s))
      ordinary = then_roots (insert_element_roots tag.name tag.attributes p) reconstruct_roots

  raw_text_roots : is_inner_name tag.name ≡ true → (kind : RawElement) → TagRoots (insert_raw_tag kind tag)
  raw_text_roots p kind = record {
    leaves = λ body s h. record {
      rooted = insert_raw_rooted tag.name kind tag.attributes p body s h;
      rest = λ e. inr h.rooted;
    };
  }

  of_head_roots : is_inner_name tag.name ≡ true → (name : NameValue) → is_inner_name name ≡ true
      → TagRoots (insert_head_element name tag)
  of_head_roots p (known tags.Title) q = raw_text_roots p raw.Title
  of_head_roots p (known tags.NoFrames) q = raw_text_roots p raw.Noframes
  of_head_roots p (known tags.Style) q = raw_text_roots p raw.Style
  of_head_roots p (known tags.Script) q = raw_text_roots p raw.Script
  of_head_roots p (known tags.Template) q = absurd (true≢false (sym q))
  of_head_roots p _ q = steady (insert_void_roots tag.name tag.attributes)

  pub act_roots : (a : Act) → rooted_act tag.name a ≡ true → Roots (act_on a tag)
  act_roots (element given) e = insert_element_roots (given_name given tag) (given_attributes given tag) e
  act_roots (void given) e = insert_void_roots (given_name given tag) (given_attributes given tag)
  act_roots (foreign space) e = insert_foreign_roots space (text_of_name tag.name) tag.attributes tag.self_closing
  act_roots foreign_alike e = roots_by_state (λ s. namespace_of (current s.stack).name) (alike_roots tag)
  act_roots formatting e = insert_formatting_roots tag.name tag.attributes e
  act_roots select e = select_roots e
  act_roots noted_element e = noted_element_roots e
  act_roots (comment text) e = insert_comment_roots text
  act_roots (comment_in_root text) e = roots_by_state (λ s. first_open s.stack) (comment_in_roots text)
  act_roots (comment_in_document text) e = insert_comment_in_roots 0 text
  act_roots (cut what) e = on_stack_roots (left_open what) (left_rooted what e)
  act_roots (agency name) e = adoption_agency_roots name e
  act_roots forget_anchor e = forget_roots
  act_roots noted_form e = noted_form_roots
  act_roots select_closed e = end_select_roots
  act_roots template_closed e = template_roots
  act_roots root_attributes e =
      roots_by_test is_in_template rooted_still
      (roots_by_state (λ s. first_open s.stack) (add_missing_to_roots tag.attributes))
  act_roots body_attributes e = roots_by_state open_body (add_to_body_roots tag)
  act_roots marked e = push_marker_roots
  act_roots to_marker e = clear_to_marker_roots
  act_roots reconstructed e = reconstruct_roots
  act_roots (to_mode mode) e = with_mode_roots mode e
  act_roots frames_refused e = no_frameset_roots
  act_roots line_feed_skipped e = record { rooted = λ body s h. h; content = λ body s h. refl }
  act_roots a e = absurd (true≢false (sym e))

  pub last_act_roots : (a : Act) → last_rooted_act tag.name a ≡ true → TagRoots (act_on a tag)
  last_act_roots (raw_text raw) e = raw_text_roots e raw
  last_act_roots of_head e = of_head_roots e tag.name e
  last_act_roots a e = steady (act_roots a e)
