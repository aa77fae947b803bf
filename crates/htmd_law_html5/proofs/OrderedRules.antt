-- The rules of the modes of the body leave the letters in order, where the tag's name is of none that moves text: what
-- each act does.
use Rattle.std.proofs.Common.{◌≡◌, ℕ, ◌<◌, Bool, true, false, List, [], ◌∷◌, length, Option, Some, None, refl, sym}
use Rattle.std.proofs.Common.{subst}
use Rattle.std.proofs.lemmas.Bool.{true≢false}
use Rattle.htmd_lexical.specs.AttributePairs.{AttributePair}
use Rattle.htmd_html5_state.specs.Names.{NameValue, known, other, text_of_name}
use Rattle.htmd_html5_state.specs.Nodes.{NodeValue, comment as comment_kind}
use Rattle.htmd_html5_state.specs.OpenElements.{OpenValue, first_open, pop_until, pop_while, without, is_node_in_scope}
use Rattle.htmd_html5_state.specs.State.{StateValue}
use Rattle.htmd_html5_state.specs.Insertion.{current}
use Rattle.htmd_html5_state.specs.Adoption.{formatting_element}
use Rattle.htmd_html5_state.specs.Foreign.{namespace_of}
use Rattle.htmd_html5_state.specs.declared.modes.InsertionMode.{InsertionMode}
use Rattle.htmd_html5_state.specs.declared.names.Namespace.{Namespace}
use Rattle.htmd_html5_state.specs.declared.names.TagName.{TagName}
use Rattle.htmd_html5_state.specs.declared.sets.NameSet.TheVariants.{Only, ImpliedEnd}
use Rattle.htmd_html5.specs.Tokens.{StartTagValue, TokenValue}
use Rattle.htmd_html5.specs.SharedRules.{with_mode, no_frameset, add_missing_to, leave_template}
use Rattle.htmd_html5.specs.BodyStarts.{is_in_template, open_body, add_to_this_body, with_form, forget}
use Rattle.htmd_html5.specs.BodyEnds.{close_form}
use Rattle.htmd_html5.specs.InSelect.{has_select, close_select}
use Rattle.htmd_html5.specs.AfterBody.{comment_in}
use Rattle.htmd_html5.specs.ForeignContent.{insert_alike}
use Rattle.htmd_law_html5.proofs.OpenNodes.{EachOpen, fewer_then, pop_while_fewer, pop_until_fewer, without_fewer}
use Rattle.htmd_law_html5.proofs.PlainNames.{is_plain, is_plain_name, no_template_open}
use Rattle.htmd_law_html5.proofs.HungStates.{ElementOpen, Hung, element_number}
use Rattle.htmd_law_html5.proofs.PlainStates.{is_plain_mode, stays_by_state}
use Rattle.htmd_law_html5.proofs.PlainRules.{with_mode_stays, no_frameset_stays, end_template_stays}
use Rattle.htmd_law_html5.proofs.PlainRules.{leave_template_stays, skip_line_feed_stays, with_form_stays}
use Rattle.htmd_law_html5.proofs.PlainRules.{start_select_stays, close_select_stays, close_noted_form_stays}
use Rattle.htmd_law_html5.proofs.PlainRules.{comment_in_stays, plain_given, by_head_element}
use Rattle.htmd_law_html5.proofs.Counted.{Choice}
use Rattle.htmd_law_html5.proofs.OrderedStates.{Ordered, Orders, then_orders, unmoved, orders_by_test, orders_by_state}
use Rattle.htmd_law_html5.proofs.OrderedStates.{on_stack_orders, ordered_fewer, insert_element_orders}
use Rattle.htmd_law_html5.proofs.OrderedStates.{insert_void_orders, insert_raw_orders, insert_foreign_orders}
use Rattle.htmd_law_html5.proofs.OrderedStates.{insert_comment_orders, insert_comment_root_orders, loose_in, no_text}
use Rattle.htmd_law_html5.proofs.OrderedStates.{add_missing_orders, without_entry_orders, push_marker_orders}
use Rattle.htmd_law_html5.proofs.OrderedStates.{clear_to_marker_orders, insert_formatting_orders, reconstruct_orders}
use Rattle.htmd_law_html5.proofs.OrderedAdoption.{adoption_agency_orders}
use Rattle.htmd_law_html5.proofs.Rules.{given_name, given_attributes, left_open, Act, act_on, element, void, raw_text}
use Rattle.htmd_law_html5.proofs.Rules.{of_head, foreign, foreign_alike, formatting, select, comment, comment_in_root}
use Rattle.htmd_law_html5.proofs.Rules.{comment_in_document, cut, agency, forget_anchor, noted_form, select_closed}
use Rattle.htmd_law_html5.proofs.Rules.{template_closed, root_attributes, body_attributes, marked, to_marker}
use Rattle.htmd_law_html5.proofs.Rules.{reconstructed, to_mode, frames_refused, line_feed_skipped, noted_element}
use Rattle.htmd_law_html5.proofs.RuleWalk.{IsMarkup, left_fewer}
use Rattle.htmd_law_html5.proofs.OrderedNodes.{some_same}
use Rattle.htmd_html5_state.specs.declared.names.TagName.TheVariants as tags

-- ---- names

-- names of start tags that move no text
abbrev pub is_orderly_tag : TagName → Bool
is_orderly_tag tags.Table = false
is_orderly_tag tags.Col = true
is_orderly_tag tags.ColGroup = true
is_orderly_tag tag = is_plain tag

abbrev pub is_orderly_name : NameValue → Bool
is_orderly_name (known tag) = is_orderly_tag tag
is_orderly_name (other s) = true

-- a token that is no text, and whose name moves none if it is a start tag
abbrev pub IsOrderly : TokenValue → Type 0
IsOrderly t = IsMarkup is_orderly_name t

-- ---- acts that leave the letters in order

-- acts for a tag of that name in the body and after it, but those that move text
abbrev pub orderly_act : NameValue → Act → Bool
orderly_act name (element given) = plain_given name given
orderly_act name (void given) = plain_given name given
orderly_act name (raw_text raw) = is_plain_name name
orderly_act name of_head = is_plain_name name
orderly_act name (foreign space) = true
orderly_act name foreign_alike = true
orderly_act name formatting = is_plain_name name
orderly_act name select = is_plain_name name
orderly_act name (comment text) = true
orderly_act name (comment_in_root text) = true
orderly_act name (comment_in_document text) = true
orderly_act name (cut what) = true
orderly_act name (agency tag) = is_plain tag
orderly_act name forget_anchor = true
orderly_act name noted_form = true
orderly_act name select_closed = true
orderly_act name template_closed = true
orderly_act name root_attributes = true
orderly_act name body_attributes = true
orderly_act name marked = true
orderly_act name to_marker = true
orderly_act name reconstructed = true
orderly_act name (to_mode mode) = is_plain_mode mode
orderly_act name frames_refused = true
orderly_act name line_feed_skipped = true
orderly_act name noted_element = is_plain_name name
orderly_act name a = false

pub first_within : (nodes : List NodeValue) (stack : List OpenValue) (n : ℕ) → first_open stack ≡ Some n
    → EachOpen (ElementOpen nodes) stack → n < length nodes
first_within nodes [] n e h = absurd (cc)
first_within nodes (d ∷ []) n e h =
    subst (λ (x : ℕ). x < length nodes) (some_same e) (element_number d.node nodes h.0)
first_within nodes (d ∷ f ∷ es) n e h = first_within nodes (f ∷ es) n e h.1

module _ (choice : Choice) where
  pub with_mode_orders : (mode : InsertionMode) → is_plain_mode mode ≡ true → Orders choice (with_mode mode)
  with_mode_orders mode p = record { stays = with_mode_stays mode p; orders = λ letters s h x o. o }

  pub no_frameset_orders : Orders choice no_frameset
  no_frameset_orders = record { stays = no_frameset_stays; orders = λ letters s h x o. o }

  with_form_orders : Orders choice with_form
  with_form_orders = record { stays = with_form_stays; orders = λ letters s h x o. o }

  add_missing_to_orders : (attributes : List AttributePair) (n : Option ℕ)
      → Orders choice (add_missing_to n attributes)
  add_missing_to_orders attributes None = unmoved choice
  add_missing_to_orders attributes (Some n) = add_missing_orders choice n attributes

  add_to_body_orders : (tag : StartTagValue) (body : Option ℕ) → Orders choice (add_to_this_body body tag)
  add_to_body_orders tag None = unmoved choice
  add_to_body_orders tag (Some body) =
      orders_by_test choice is_in_template (unmoved choice)
      (then_orders choice no_frameset_orders (add_missing_orders choice body tag.attributes))

  alike_orders : (tag : StartTagValue) (space : Option Namespace) → Orders choice (insert_alike space tag)
  alike_orders tag None = unmoved choice
  alike_orders tag (Some space) =
      insert_foreign_orders choice space (text_of_name tag.name) tag.attributes tag.self_closing

  -- a comment after the body goes to the outermost element
  comment_in_root_orders : (c : List ℕ) → Orders choice (λ s. comment_in (first_open s.stack) c s)
  comment_in_root_orders c = record {
    stays = stays_by_state (λ s. first_open s.stack) (comment_in_stays c);
    orders = λ letters s h x o. by_first letters s (first_open s.stack) refl x o;
  }
    where
      by_first : (letters : List ℕ) (s : StateValue) (n : Option ℕ) → first_open s.stack ≡ n → Hung s
          → Ordered choice letters s → Ordered choice letters (comment_in n c s)
      by_first letters s None e x o = o
      by_first letters s (Some n) e x o =
          loose_in choice (comment_kind c) n x o (first_within s.nodes s.stack n e x.opened_at) refl (no_text c)

  forget_orders : (n : Option ℕ) → Orders choice (forget n)
  forget_orders None = unmoved choice
  forget_orders (Some n) =
      then_orders choice (on_stack_orders choice (without n) (without_fewer n))
      (then_orders choice (without_entry_orders choice n) (adoption_agency_orders choice tags.A refl))

  close_form_orders : (form : Option ℕ) → Orders choice (close_form form)
  close_form_orders None = unmoved choice
  close_form_orders (Some n) =
      orders_by_test choice (λ s. is_node_in_scope n s.stack)
      (on_stack_orders choice (λ stack. without n (pop_while ImpliedEnd stack))
      (λ stack. fewer_then (without_fewer n (pop_while ImpliedEnd stack)) (pop_while_fewer ImpliedEnd stack)))
      (unmoved choice)

  pub leave_template_orders : Orders choice leave_template
  leave_template_orders = record {
    stays = leave_template_stays;
    orders = λ letters s h x o. ordered_fewer choice (pop_until (Only tags.Template) s.stack)
        (pop_until_fewer (Only tags.Template) s.stack) o;
  }

  close_select_orders : Orders choice close_select
  close_select_orders = record {
    stays = close_select_stays;
    orders = λ letters s h x o. ordered_fewer choice (pop_until (Only tags.Select) s.stack)
        (pop_until_fewer (Only tags.Select) s.stack) o;
  }

  module _ (tag : StartTagValue) where
    pub act_orders : (a : Act) → orderly_act tag.name a ≡ true → Orders choice (act_on a tag)
    act_orders (element given) e =
        insert_element_orders choice (given_name given tag) (given_attributes given tag) e
    act_orders (void given) e = insert_void_orders choice (given_name given tag) (given_attributes given tag) e
    act_orders (raw_text raw) e = insert_raw_orders choice tag.name raw tag.attributes e
    act_orders of_head e =
        by_head_element (Orders choice) tag e
        (λ element r o. insert_raw_orders choice tag.name element tag.attributes e)
        (insert_void_orders choice tag.name tag.attributes e)
    act_orders (foreign space) e =
        insert_foreign_orders choice space (text_of_name tag.name) tag.attributes tag.self_closing
    act_orders foreign_alike e = orders_by_state choice (λ s. namespace_of (current s.stack).name) (alike_orders tag)
    act_orders formatting e = insert_formatting_orders choice tag.name tag.attributes e
    act_orders select e = record {
      stays = start_select_stays tag e;
      orders = λ letters s h x o. (then_orders choice (insert_element_orders choice tag.name tag.attributes e)
          (reconstruct_orders choice)).orders letters s h x o;
    }
    act_orders (comment text) e = insert_comment_orders choice text
    act_orders (comment_in_root text) e = comment_in_root_orders text
    act_orders (comment_in_document text) e = insert_comment_root_orders choice text
    act_orders (cut what) e = on_stack_orders choice (left_open what) (left_fewer what)
    act_orders (agency name) e = adoption_agency_orders choice name e
    act_orders forget_anchor e = orders_by_state choice (formatting_element tags.A) forget_orders
    act_orders noted_form e = record {
      stays = close_noted_form_stays;
      orders = λ letters s h x o. (close_form_orders s.form).orders letters (record s { form = None }) h x o;
    }
    act_orders select_closed e = orders_by_test choice has_select close_select_orders (unmoved choice)
    -- no template is open
    act_orders template_closed e =
        record { stays = end_template_stays; orders = λ letters s h x o. rw (no_template_open s.stack h.names) o }
    act_orders root_attributes e =
        orders_by_test choice is_in_template (unmoved choice)
        (orders_by_state choice (λ s. first_open s.stack) (add_missing_to_orders tag.attributes))
    act_orders body_attributes e = orders_by_state choice open_body (add_to_body_orders tag)
    act_orders marked e = push_marker_orders choice
    act_orders to_marker e = clear_to_marker_orders choice
    act_orders reconstructed e = reconstruct_orders choice
    act_orders (to_mode mode) e = with_mode_orders mode e
    act_orders frames_refused e = no_frameset_orders
    act_orders line_feed_skipped e = record { stays = skip_line_feed_stays; orders = λ letters s h x o. o }
    act_orders noted_element e =
        then_orders choice with_form_orders (insert_element_orders choice tag.name tag.attributes e)
    act_orders a e = absurd (true≢false (sym e))
