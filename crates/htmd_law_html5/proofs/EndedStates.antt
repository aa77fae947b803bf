-- States that keep the root and cells open, and steps that leave them so.
use Rattle.std.proofs.Common.{Bool, List, Option, Some, ap, false, get_or, inr, length, refl, subst, sym}
use Rattle.std.proofs.Common.{true, ℕ, [], ◌++◌, ◌∙◌, ◌∷◌, ◌≡◌, ⊎_elim, ◌⊎◌}
use Rattle.std.proofs.lemmas.Bool.{cond_both, eqb-true, true≢false}
use Rattle.std.specs.Prelude.{if◌then◌else◌, not, ◌==◌, ◌||◌}
use Rattle.htmd_lexical.proofs.Cases.{test}
use Rattle.htmd_lexical.specs.AttributePairs.{AttributePair}
use Rattle.htmd_lexical.specs.declared.content_model.ContentModel.{ContentModel}
use Rattle.htmd_law_html5.proofs.EndedStacks.{Anchor, Apart, Has, is_any, is_common, is_common_name}
use Rattle.htmd_law_html5.proofs.KeepingInsertion.{listed_after_marker, listed_closed, listed_first, listed_pushed}
use Rattle.htmd_law_html5.proofs.KeepingInsertion.{listed_without, reconstructed}
use Rattle.htmd_law_html5.proofs.NamedKinds.{Grows, NamedAt, grows_added, grows_missing, grows_same, grows_text}
use Rattle.htmd_law_html5.proofs.NamedKinds.{grows_then, is_named, named_added}
use Rattle.htmd_law_html5.proofs.NodeTexts.{kind_read, kinds, kinds_add, kinds_detach}
use Rattle.htmd_law_html5.proofs.OpenNodes.{EachOpen, Fewer, each_more}
use Rattle.htmd_html5_state.specs.Foreign.{foreign_attributes, foreign_name, insert_foreign}
use Rattle.htmd_html5_state.specs.Formatting.{after_closed, clear_to_marker, insert_formatting, insert_like, is_listed}
use Rattle.htmd_html5_state.specs.Formatting.{push_marker, reconstruct, without_entry}
use Rattle.htmd_html5_state.specs.Insertion.{current, insert_at, insert_comment, insert_comment_in, insert_doctype}
use Rattle.htmd_html5_state.specs.Insertion.{insert_element, insert_named, insert_root, insert_text, insert_void}
use Rattle.htmd_html5_state.specs.Insertion.{opened, place}
use Rattle.htmd_html5_state.specs.Names.{ElementNameValue, NameValue, html}
use Rattle.htmd_html5_state.specs.Nodes.{KindValue, NodeValue, add_missing, comment, detach, doctype, document, element}
use Rattle.htmd_html5_state.specs.Nodes.{kind_at, last_in}
use Rattle.htmd_html5_state.specs.OpenElements.{OpenValue}
use Rattle.htmd_html5_state.specs.State.{StateValue, on_formatting, on_nodes, on_stack}
use Rattle.htmd_html5_state.specs.declared.modes.InsertionMode.{InsertionMode}
use Rattle.htmd_html5_state.specs.declared.names.Namespace.{Namespace}

-- ---- states

-- neither the root nor a cell
abbrev pub CommonAt : List KindValue → ℕ → Type 0
CommonAt ks n = NamedAt is_common ks n

abbrev is_uncommon : ElementNameValue → Bool
is_uncommon name = not (is_common name)

-- a root or a cell that is open is a node with such a name
abbrev pub is_guarded : List KindValue → OpenValue → Bool
is_guarded ks e = is_common e.name || is_named is_uncommon (get_or ks e.node document)

abbrev pub Guarded : List KindValue → List OpenValue → Type 0
Guarded ks stack = EachOpen (λ e. is_guarded ks e ≡ true) stack

-- what may be opened again or go from the stack by its number is neither
pub record WholeIn (ks : List KindValue) (entries : List (Option ℕ)) (first : Option ℕ) (form : Option ℕ)
    (stack : List OpenValue)
    : Type 0 where
  pub guarded : Guarded ks stack
  pub entries_at : (n : ℕ) → is_listed n entries ≡ true → CommonAt ks n
  pub head_at : (n : ℕ) → first ≡ Some n → CommonAt ks n
  pub form_at : (n : ℕ) → form ≡ Some n → CommonAt ks n

abbrev pub Whole : StateValue → Type 0
Whole s = WholeIn (kinds s.nodes) s.formatting s.head s.form s.stack

-- how a state goes on
pub record Manner : Type 0 where
  pub content : ContentModel
  pub mode : InsertionMode
  pub template_modes : List InsertionMode

abbrev pub manner : StateValue → Manner
manner s = record { content = s.content; mode = s.mode; template_modes = s.template_modes }

-- a step that leaves these open, and goes on as before
pub record Ends (p : Anchor → Bool) (f : StateValue → StateValue) : Type 0 where
  pub whole : (s : StateValue) → Whole s → Whole (f s)
  pub keeps : (a : Anchor) → p a ≡ true → (s : StateValue) → Whole s → Has a s.stack → Has a (f s).stack
  pub same : (s : StateValue) → Whole s → manner (f s) ≡ manner s

-- ---- steps put together

pub then_ends : {p : Anchor → Bool} {f g : StateValue → StateValue} → Ends p f → Ends p g
    → Ends p (λ s. f (g s))
then_ends {p} {f} {g} first second = record {
  whole = λ s h. first.whole (g s) (second.whole s h);
  keeps = λ a k s h l. first.keeps a k (g s) (second.whole s h) (second.keeps a k s h l);
  same = λ s h. first.same (g s) (second.whole s h) ∙ second.same s h;
}

pub ends_still : {p : Anchor → Bool} → Ends p (λ s. s)
ends_still = record { whole = λ s h. h; keeps = λ a k s h l. l; same = λ s h. refl }

pub ends_by_test : {p : Anchor → Bool} {f g : StateValue → StateValue} (b : StateValue → Bool) → Ends p f
    → Ends p g → Ends p (λ s. if b s then f s else g s)
ends_by_test b first second = record {
  whole = λ s h. cond_both (b s) _ _ (λ x. Whole x) (λ t. first.whole s h) (λ t. second.whole s h);
  keeps = λ a k s h l. cond_both (b s) _ _ (λ (x : StateValue). Has a x.stack) (λ t. first.keeps a k s h l)
      (λ t. second.keeps a k s h l);
  same = λ s h. cond_both (b s) _ _ (λ x. manner x ≡ manner s) (λ t. first.same s h) (λ t. second.same s h);
}

pub ends_by_state : {p : Anchor → Bool} {A : Type 0} {f : A → StateValue → StateValue} (a : StateValue → A)
    → ((x : A) → Ends p (f x)) → Ends p (λ s. f (a s) s)
ends_by_state a h = record {
  whole = λ s k. (h (a s)).whole s k;
  keeps = λ b q s k l. (h (a s)).keeps b q s k l;
  same = λ s k. (h (a s)).same s k;
}

-- a step that opens and closes none
pub stack_kept : {p : Anchor → Bool} {f : StateValue → StateValue}
    → ((s : StateValue) → Whole s → Whole (f s))
    → ((s : StateValue) → (f s).stack ≡ s.stack) → ((s : StateValue) → manner (f s) ≡ manner s) → Ends p f
stack_kept w e m = record {
  whole = w;
  keeps = λ a k s h l. subst (λ (es : List OpenValue). Has a es) (sym (e s)) l;
  same = λ s h. m s;
}

-- ---- the root and cells have nodes of their own

both_named : (k : KindValue) → is_named is_common k ≡ true → is_named is_uncommon k ≡ true → ⊥
both_named (element name attributes) c u = true≢false (sym u ∙ ap not c)
both_named k c u = true≢false (sym c)

-- what is guarded and may go by its number is neither
pub common_named : (ks : List KindValue) (e : OpenValue) → is_guarded ks e ≡ true → CommonAt ks e.node
    → is_common e.name ≡ true
common_named ks e h c =
    test (is_common e.name) (λ t. t) (λ t. absurd (both_named (get_or ks e.node document) c (rw t at h)))

pub apart : (ks : List KindValue) (n : ℕ) → CommonAt ks n → (stack : List OpenValue) → Guarded ks stack
    → Apart n stack
apart ks n c stack h = each_more stack one h
  where
    one : (e : OpenValue) → is_guarded ks e ≡ true → is_common e.name ≡ false → (e.node == n) ≡ false
    one e g u =
        test (e.node == n) (λ t. absurd (true≢false (sym (common_named ks e g
        (subst (λ (m : ℕ). CommonAt ks m) (sym (eqb-true e.node n t)) c)) ∙ u))) (λ t. t)

pub grown_guarded : {ks new : List KindValue} → Grows ks new → (e : OpenValue) → is_guarded ks e ≡ true
    → is_guarded new e ≡ true
grown_guarded g e h = test (is_common e.name) (λ t. rw t refl) (λ t. rw t (g.names is_uncommon e.node (rw t at h)))

fresh_guarded : (nodes : List NodeValue) (name : ElementNameValue) (attributes : List AttributePair)
    {new : List KindValue} → new ≡ kinds nodes ++ element name attributes ∷ []
    → is_guarded new (opened (length nodes) name) ≡ true
fresh_guarded nodes name attributes e =
    test (is_common name) (λ t. rw t refl)
    (λ t. rw t (named_added is_uncommon nodes (element name attributes) e (ap not t)))

-- ---- parts of a state changed

module _ {ks : List KindValue} {entries : List (Option ℕ)} {first form : Option ℕ} {stack : List OpenValue} where
  pub whole_grown : {new : List KindValue} → Grows ks new → WholeIn ks entries first form stack
      → WholeIn new entries first form stack
  whole_grown g h = record {
    guarded = each_more stack (λ e k. grown_guarded g e k) h.guarded;
    entries_at = λ n l. g.names is_common n (h.entries_at n l);
    head_at = λ n l. g.names is_common n (h.head_at n l);
    form_at = λ n l. g.names is_common n (h.form_at n l);
  }

  pub whole_stack : (es : List OpenValue) → Guarded ks es → WholeIn ks entries first form stack
      → WholeIn ks entries first form es
  whole_stack es r h =
      record { guarded = r; entries_at = h.entries_at; head_at = h.head_at; form_at = h.form_at }

  pub whole_fewer : (es : List OpenValue) → Fewer es stack → WholeIn ks entries first form stack
      → WholeIn ks entries first form es
  whole_fewer es f h = whole_stack es (f.each (is_guarded ks) h.guarded) h

  pub whole_entries : {later : List (Option ℕ)} → ((n : ℕ) → is_listed n later ≡ true → CommonAt ks n)
      → WholeIn ks entries first form stack → WholeIn ks later first form stack
  whole_entries f h = record { guarded = h.guarded; entries_at = f; head_at = h.head_at; form_at = h.form_at }

  pub whole_head : {new : Option ℕ} → ((n : ℕ) → new ≡ Some n → CommonAt ks n)
      → WholeIn ks entries first form stack → WholeIn ks entries new form stack
  whole_head f h = record { guarded = h.guarded; entries_at = h.entries_at; head_at = f; form_at = h.form_at }

  pub whole_form : {new : Option ℕ} → ((n : ℕ) → new ≡ Some n → CommonAt ks n)
      → WholeIn ks entries first form stack → WholeIn ks entries first new stack
  whole_form f h = record { guarded = h.guarded; entries_at = h.entries_at; head_at = h.head_at; form_at = f }

pub on_stack_ends : {p : Anchor → Bool} (f : List OpenValue → List OpenValue)
    → ((stack : List OpenValue) → Fewer (f stack) stack)
    → ((a : Anchor) → p a ≡ true → (stack : List OpenValue) → Has a stack → Has a (f stack))
    → Ends p (on_stack f)
on_stack_ends f fewer g = record {
  whole = λ s h. whole_fewer (f s.stack) (fewer s.stack) h;
  keeps = λ a k s h l. g a k s.stack l;
  same = λ s h. refl;
}

-- ---- what is inserted

insert_at_ends : {p : Anchor → Bool} (at : StateValue → _) (name : ElementNameValue)
    (attributes : List AttributePair) → Ends p (λ s. insert_at (at s) name attributes s)
insert_at_ends at name attributes = record {
  whole = λ s h.
      let grown = grows_added (element name attributes) (at s) s.nodes in
      whole_stack (opened (length s.nodes) name ∷ s.stack) (
        fresh_guarded s.nodes name attributes (kinds_add (element name attributes) (at s) s.nodes),
        (whole_grown grown h).guarded,
      ) (whole_grown grown h);
  keeps = λ a k s h l. inr l;
  same = λ s h. refl;
}

pub insert_named_ends : {p : Anchor → Bool} (name : ElementNameValue) (attributes : List AttributePair)
    → Ends p (insert_named name attributes)
insert_named_ends name attributes = insert_at_ends place name attributes

pub insert_element_ends : {p : Anchor → Bool} (name : NameValue) (attributes : List AttributePair)
    → Ends p (insert_element name attributes)
insert_element_ends name attributes = insert_named_ends (html name) attributes

pub insert_root_ends : {p : Anchor → Bool} (name : NameValue) (attributes : List AttributePair)
    → Ends p (insert_root name attributes)
insert_root_ends name attributes = insert_at_ends (λ s. last_in 0) (html name) attributes

pub insert_void_ends : {p : Anchor → Bool} (name : NameValue) (attributes : List AttributePair)
    → Ends p (insert_void name attributes)
insert_void_ends name attributes =
    stack_kept (λ s h. whole_grown (grows_added (element (html name) attributes) (place s) s.nodes) h)
    (λ s. refl) (λ s. refl)

pub insert_foreign_ends : {p : Anchor → Bool} (space : Namespace) (name : List ℕ)
    (attributes : List AttributePair) (closes : Bool) → Ends p (insert_foreign space name attributes closes)
insert_foreign_ends space name attributes true =
    stack_kept (λ s h. whole_grown (grows_added
    (element (foreign_name space name) (foreign_attributes space attributes)) (place s) s.nodes) h)
    (λ s. refl) (λ s. refl)
insert_foreign_ends space name attributes false = record {
  whole = λ s h.
      (insert_named_ends {p = is_any} (foreign_name space name) (foreign_attributes space attributes)).whole s h;
  keeps = λ a k s h l. inr l;
  same = λ s h. refl;
}

pub insert_comment_in_ends : {p : Anchor → Bool} (parent : ℕ) (c : List ℕ) → Ends p (insert_comment_in parent c)
insert_comment_in_ends parent c =
    stack_kept (λ s h. whole_grown (grows_added (comment c) (last_in parent) s.nodes) h) (λ s. refl) (λ s. refl)

pub insert_comment_ends : {p : Anchor → Bool} (c : List ℕ) → Ends p (insert_comment c)
insert_comment_ends c = ends_by_state (λ s. (current s.stack).node) (λ n. insert_comment_in_ends n c)

pub insert_doctype_ends : {p : Anchor → Bool} → Ends p insert_doctype
insert_doctype_ends =
    stack_kept (λ s h. whole_grown (grows_added doctype (last_in 0) s.nodes) h) (λ s. refl) (λ s. refl)

pub add_missing_ends : {p : Anchor → Bool} (n : ℕ) (more : List AttributePair)
    → Ends p (on_nodes (add_missing n more))
add_missing_ends n more = stack_kept (λ s h. whole_grown (grows_missing n more s.nodes) h) (λ s. refl) (λ s. refl)

pub detach_ends : {p : Anchor → Bool} (n : ℕ) → Ends p (on_nodes (detach n))
detach_ends n = stack_kept (λ s h. whole_grown (grows_same (kinds_detach n s.nodes)) h) (λ s. refl) (λ s. refl)

pub insert_text_ends : {p : Anchor → Bool} (t : List ℕ) → Ends p (insert_text t)
insert_text_ends t = stack_kept (λ s h. whole_grown (grows_text t (place s) s.nodes) h) (λ s. refl) (λ s. refl)

-- ---- the list of active formatting elements

pub without_entry_ends : {p : Anchor → Bool} (n : ℕ) → Ends p (on_formatting (without_entry n))
without_entry_ends n =
    stack_kept (λ s h. whole_entries (λ m l. h.entries_at m (listed_without m n s.formatting l)) h)
    (λ s. refl) (λ s. refl)

pub push_marker_ends : {p : Anchor → Bool} → Ends p push_marker
push_marker_ends = stack_kept (λ s h. whole_entries (λ n l. h.entries_at n l) h) (λ s. refl) (λ s. refl)

pub clear_to_marker_ends : {p : Anchor → Bool} → Ends p clear_to_marker
clear_to_marker_ends =
    stack_kept (λ s h. whole_entries (λ n l. h.entries_at n (listed_after_marker n s.formatting l)) h)
    (λ s. refl) (λ s. refl)

-- what is listed then is one new element, or was listed before
pub whole_listed : {ks : List KindValue} {entries later : List (Option ℕ)} {first form : Option ℕ}
    {stack : List OpenValue} (m : ℕ) → CommonAt ks m
    → ((n : ℕ) → is_listed n later ≡ true → (n ≡ m) ⊎ (is_listed n entries ≡ true))
    → WholeIn ks entries first form stack → WholeIn ks later first form stack
whole_listed {ks} m p f h =
    whole_entries
    (λ n l. ⊎_elim (λ e. subst (λ (x : ℕ). CommonAt ks x) (sym e) p) (λ k. h.entries_at n k) (f n l)) h

-- a new element with a common name
pub common_added : (name : NameValue) (attributes : List AttributePair) → is_common_name name ≡ true
    → (s : StateValue) → CommonAt (kinds (insert_element name attributes s).nodes) (length s.nodes)
common_added name attributes p s =
    named_added is_common s.nodes (element (html name) attributes)
    (kinds_add (element (html name) attributes) (place s) s.nodes) p

pub insert_formatting_ends : {p : Anchor → Bool} (name : NameValue) (attributes : List AttributePair)
    → is_common_name name ≡ true → Ends p (insert_formatting name attributes)
insert_formatting_ends name attributes c = record {
  whole = λ s h. whole_listed (length s.nodes) (common_added name attributes c s)
      (λ n l. listed_pushed n (length s.nodes) (insert_element name attributes s).nodes s.formatting l)
      ((insert_element_ends {p = is_any} name attributes).whole s h);
  keeps = λ a k s h l. inr l;
  same = λ s h. refl;
}

-- ---- elements are reconstructed

record Reopened (s new : StateValue) : Type 0 where
  whole : Whole new
  grows : Grows (kinds s.nodes) (kinds new.nodes)
  keeps : (a : Anchor) → Has a s.stack → Has a new.stack
  same : manner new ≡ manner s

like_reopened : (s : StateValue) (k : KindValue) → is_named is_common k ≡ true → Whole s
    → Reopened s (on_formatting (λ entries. Some (length s.nodes) ∷ entries) (insert_like k s))
like_reopened s (element name attributes) p h = record {
  whole = whole_listed (length s.nodes) (named_added is_common s.nodes (element name attributes)
      (kinds_add (element name attributes) (place s) s.nodes) p)
      (λ n l. listed_first n (length s.nodes) s.formatting l)
      ((insert_named_ends {p = is_any} name attributes).whole s h);
  grows = grows_added (element name attributes) (place s) s.nodes;
  keeps = λ a l. inr l;
  same = refl;
}
like_reopened s k p h = absurd (true≢false (sym p))

all_reopened : (s : StateValue) → Whole s → Reopened (on_formatting (after_closed s.stack) s) (reconstruct s)
all_reopened s h =
    reconstructed (CommonAt (kinds s.nodes)) (Reopened (on_formatting (after_closed s.stack) s)) s h.entries_at
    (record {
      whole = whole_entries (λ n l. h.entries_at n (listed_closed n s.stack s.formatting l)) h;
      grows = grows_same refl;
      keeps = λ a l. l;
      same = refl;
    })
    (λ n t c before. let last = like_reopened t (kind_at t.nodes n)
    (ap (is_named is_common) (kind_read t.nodes n) ∙ before.grows.names is_common n c) before.whole in
    record {
      whole = last.whole;
      grows = grows_then before.grows last.grows;
      keeps = λ a l. last.keeps a (before.keeps a l);
      same = last.same ∙ before.same;
    })

pub reconstruct_ends : {p : Anchor → Bool} → Ends p reconstruct
reconstruct_ends = record {
  whole = λ s h. (all_reopened s h).whole;
  keeps = λ a k s h l. (all_reopened s h).keeps a l;
  same = λ s h. (all_reopened s h).same;
}
