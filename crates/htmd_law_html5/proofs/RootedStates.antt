-- States in which the body is open in one of its modes, and steps that leave them so.
use Rattle.std.proofs.Common.{◌≡◌, ◌∙◌, ℕ, ◌<◌, Bool, true, false, List, ◌∷◌, length, Option, Some, refl, sym, ap}
use Rattle.std.proofs.Common.{subst, arith, inr, ◌⊎◌}
use Rattle.std.specs.Prelude.{if◌then◌else◌}
use Rattle.std.proofs.lemmas.Bool.{true≢false, cond_both}
use Rattle.std.proofs.lemmas.List.{length-map}
use Rattle.htmd_lexical.specs.AttributePairs.{AttributePair}
use Rattle.htmd_lexical.specs.declared.content_model.RawElement.{RawElement}
use Rattle.htmd_html5_state.specs.Names.{NameValue, ElementNameValue, html}
use Rattle.htmd_html5_state.specs.Nodes.{KindValue, comment, element, kind_at, last_in, add_missing}
use Rattle.htmd_html5_state.specs.OpenElements.{OpenValue}
use Rattle.htmd_html5_state.specs.State.{StateValue, on_nodes, on_stack, on_formatting}
use Rattle.htmd_html5_state.specs.Foreign.{foreign_name, foreign_attributes, insert_foreign}
use Rattle.htmd_html5_state.specs.Insertion.{opened, current, place, insert_named, insert_element, insert_void}
use Rattle.htmd_html5_state.specs.Insertion.{insert_raw, insert_text, insert_comment_in, insert_comment}
use Rattle.htmd_html5_state.specs.Formatting.{is_listed, push_marker, clear_to_marker, without_entry, insert_formatting}
use Rattle.htmd_html5_state.specs.Formatting.{after_closed, insert_like, reconstruct}
use Rattle.htmd_html5_state.specs.declared.modes.InsertionMode.{InsertionMode}
use Rattle.htmd_html5_state.specs.declared.names.Namespace.{Namespace}
use Rattle.htmd_html5_state.specs.declared.names.Namespace.TheVariants.{Svg, MathMl}
use Rattle.htmd_law_html5.proofs.NodeTexts.{kinds, kinds_add, kind_read}
use Rattle.htmd_law_html5.proofs.NamedKinds.{is_named, NamedAt, Grows, grows_same, grows_then, grows_added}
use Rattle.htmd_law_html5.proofs.NamedKinds.{named_added, grows_missing, grows_text}
use Rattle.htmd_law_html5.proofs.KeepingInsertion.{listed_without, listed_after_marker, listed_closed, listed_first}
use Rattle.htmd_law_html5.proofs.KeepingInsertion.{listed_pushed, one_or_listed, reconstructed}
use Rattle.htmd_law_html5.proofs.RootedStacks.{is_late, is_inner, is_inner_name, Rooted}

-- ---- states

-- a node of these is an element with an inner name
abbrev pub InnerAt : List KindValue → ℕ → Type 0
InnerAt ks n = NamedAt is_inner ks n

-- the body is open, and what may be opened again, and the form, came after it
pub record RootedIn (body : ℕ) (ks : List KindValue) (entries : List (Option ℕ)) (form : Option ℕ)
    (stack : List OpenValue) (mode : InsertionMode)
    : Type 0 where
  pub within : body < length ks
  pub rooted : Rooted body stack
  pub entries_at : (n : ℕ) → is_listed n entries ≡ true → (body < n) × InnerAt ks n
  pub form_at : (n : ℕ) → form ≡ Some n → body < n
  pub late : is_late mode ≡ true

abbrev pub RootedAt : ℕ → StateValue → Type 0
RootedAt body s = RootedIn body (kinds s.nodes) s.formatting s.form s.stack s.mode

-- a step that leaves the body open, and the tokenizer to read on as before
pub record Roots (f : StateValue → StateValue) : Type 0 where
  pub rooted : (body : ℕ) (s : StateValue) → RootedAt body s → RootedAt body (f s)
  pub content : (body : ℕ) (s : StateValue) → RootedAt body s → (f s).content ≡ s.content

-- ---- steps put together

pub then_roots : {f g : StateValue → StateValue} → Roots f → Roots g → Roots (λ s. f (g s))
then_roots {f} {g} first second = record {
  rooted = λ body s h. first.rooted body (g s) (second.rooted body s h);
  content = λ body s h. first.content body (g s) (second.rooted body s h) ∙ second.content body s h;
}

pub rooted_still : Roots (λ s. s)
rooted_still = record { rooted = λ body s h. h; content = λ body s h. refl }

pub roots_by_test : {f g : StateValue → StateValue} (b : StateValue → Bool) → Roots f → Roots g
    → Roots (λ s. if b s then f s else g s)
roots_by_test b first second = record {
  rooted = λ body s h. cond_both (b s) _ _ (RootedAt body) (λ t. first.rooted body s h)
      (λ t. second.rooted body s h);
  content = λ body s h. cond_both (b s) _ _ (λ (x : StateValue). x.content ≡ s.content)
      (λ t. first.content body s h) (λ t. second.content body s h);
}

pub roots_by_state : {A : Type 0} {f : A → StateValue → StateValue} (a : StateValue → A)
    → ((x : A) → Roots (f x)) → Roots (λ s. f (a s) s)
roots_by_state a h =
    record { rooted = λ body s r. (h (a s)).rooted body s r; content = λ body s r. (h (a s)).content body s r }

-- ---- parts of a state changed

module _ {body : ℕ} {ks : List KindValue} {entries : List (Option ℕ)} {form : Option ℕ} {stack : List OpenValue}
    {mode : InsertionMode} where
  pub rooted_grown : {new : List KindValue} → Grows ks new → RootedIn body ks entries form stack mode
      → RootedIn body new entries form stack mode
  rooted_grown g h = record {
    within = let a = g.size in let b = h.within in omega arith;
    rooted = h.rooted;
    entries_at = λ n l. let x = h.entries_at n l in (x.0, g.names is_inner n x.1);
    form_at = h.form_at;
    late = h.late;
  }

  pub rooted_stack : (es : List OpenValue) → Rooted body es → RootedIn body ks entries form stack mode
      → RootedIn body ks entries form es mode
  rooted_stack es r h =
      record { within = h.within; rooted = r; entries_at = h.entries_at; form_at = h.form_at; late = h.late }

  rooted_entries : {later : List (Option ℕ)}
      → ((n : ℕ) → is_listed n later ≡ true → (body < n) × InnerAt ks n)
      → RootedIn body ks entries form stack mode → RootedIn body ks later form stack mode
  rooted_entries f h =
      record { within = h.within; rooted = h.rooted; entries_at = f; form_at = h.form_at; late = h.late }

  pub rooted_form : {new : Option ℕ} → ((n : ℕ) → new ≡ Some n → body < n)
      → RootedIn body ks entries form stack mode → RootedIn body ks entries new stack mode
  rooted_form f h =
      record { within = h.within; rooted = h.rooted; entries_at = h.entries_at; form_at = f; late = h.late }

  pub rooted_mode : (new : InsertionMode) → is_late new ≡ true → RootedIn body ks entries form stack mode
      → RootedIn body ks entries form stack new
  rooted_mode new l h =
      record { within = h.within; rooted = h.rooted; entries_at = h.entries_at; form_at = h.form_at; late = l }

pub on_stack_roots : (f : List OpenValue → List OpenValue)
    → ((body : ℕ) (stack : List OpenValue) → Rooted body stack → Rooted body (f stack)) → Roots (on_stack f)
on_stack_roots f g =
    record { rooted = λ body s h. rooted_stack (f s.stack) (g body s.stack h.rooted) h; content = λ body s h. refl }

-- ---- one more node

-- it comes after the body
pub number_after : (body : ℕ) (s : StateValue) → RootedAt body s → body < length s.nodes
number_after body s h = subst (λ (m : ℕ). body < m) (length-map s.nodes _) h.within

-- ---- what is inserted

insert_named_roots : (name : ElementNameValue) (attributes : List AttributePair) → is_inner name ≡ true
    → Roots (insert_named name attributes)
insert_named_roots name attributes p = record {
  rooted = λ body s h. rooted_stack (opened (length s.nodes) name ∷ s.stack) (inr (p, h.rooted))
      (rooted_grown (grows_added (element name attributes) (place s) s.nodes) h);
  content = λ body s h. refl;
}

pub insert_element_roots : (name : NameValue) (attributes : List AttributePair) → is_inner_name name ≡ true
    → Roots (insert_element name attributes)
insert_element_roots name attributes p = insert_named_roots (html name) attributes p

-- it is closed at once, whatever its name
pub insert_void_roots : (name : NameValue) (attributes : List AttributePair) → Roots (insert_void name attributes)
insert_void_roots name attributes = record {
  rooted = λ body s h. rooted_grown (grows_added (element (html name) attributes) (place s) s.nodes) h;
  content = λ body s h. refl;
}

pub insert_raw_rooted : (name : NameValue) (raw : RawElement) (attributes : List AttributePair)
    → is_inner_name name ≡ true → (body : ℕ) (s : StateValue) → RootedAt body s
    → RootedAt body (insert_raw name raw attributes s)
insert_raw_rooted name raw attributes p body s h = (insert_element_roots name attributes p).rooted body s h

foreign_is_inner : (space : Namespace) (name : List ℕ) → is_inner (foreign_name space name) ≡ true
foreign_is_inner Svg name = refl
foreign_is_inner MathMl name = refl

pub insert_foreign_roots : (space : Namespace) (name : List ℕ) (attributes : List AttributePair) (closes : Bool)
    → Roots (insert_foreign space name attributes closes)
insert_foreign_roots space name attributes true = record {
  rooted = λ body s h. rooted_grown
      (grows_added (element (foreign_name space name) (foreign_attributes space attributes)) (place s) s.nodes) h;
  content = λ body s h. refl;
}
insert_foreign_roots space name attributes false = record {
  rooted = λ body s h. (insert_named_roots (foreign_name space name) (foreign_attributes space attributes)
      (foreign_is_inner space name)).rooted body s h;
  content = λ body s h. refl;
}

pub insert_comment_in_roots : (parent : ℕ) (c : List ℕ) → Roots (insert_comment_in parent c)
insert_comment_in_roots parent c = record {
  rooted = λ body s h. rooted_grown (grows_added (comment c) (last_in parent) s.nodes) h;
  content = λ body s h. refl;
}

pub insert_comment_roots : (c : List ℕ) → Roots (insert_comment c)
insert_comment_roots c = roots_by_state (λ s. (current s.stack).node) (λ n. insert_comment_in_roots n c)

pub add_missing_roots : (n : ℕ) (more : List AttributePair) → Roots (on_nodes (add_missing n more))
add_missing_roots n more =
    record { rooted = λ body s h. rooted_grown (grows_missing n more s.nodes) h; content = λ body s h. refl }

pub insert_text_roots : (t : List ℕ) → Roots (insert_text t)
insert_text_roots t =
    record { rooted = λ body s h. rooted_grown (grows_text t (place s) s.nodes) h; content = λ body s h. refl }

-- ---- the list of active formatting elements

pub without_entry_roots : (n : ℕ) → Roots (on_formatting (without_entry n))
without_entry_roots n = record {
  rooted = λ body s h. rooted_entries (λ m l. h.entries_at m (listed_without m n s.formatting l)) h;
  content = λ body s h. refl;
}

pub push_marker_roots : Roots push_marker
push_marker_roots =
    record { rooted = λ body s h. rooted_entries (λ n l. h.entries_at n l) h; content = λ body s h. refl }

pub clear_to_marker_roots : Roots clear_to_marker
clear_to_marker_roots = record {
  rooted = λ body s h. rooted_entries (λ n l. h.entries_at n (listed_after_marker n s.formatting l)) h;
  content = λ body s h. refl;
}

-- what is listed then is one new element, or was listed before
pub rooted_listed : {body : ℕ} {ks : List KindValue} {entries later : List (Option ℕ)} {form : Option ℕ}
    {stack : List OpenValue} {mode : InsertionMode} (m : ℕ) → (body < m) × InnerAt ks m
    → ((n : ℕ) → is_listed n later ≡ true → (n ≡ m) ⊎ (is_listed n entries ≡ true))
    → RootedIn body ks entries form stack mode → RootedIn body ks later form stack mode
rooted_listed {body} {ks} m p f h =
    rooted_entries (λ n l. one_or_listed (λ x. (body < x) × InnerAt ks x) m n p (h.entries_at n) (f n l)) h

pub insert_formatting_roots : (name : NameValue) (attributes : List AttributePair) → is_inner_name name ≡ true
    → Roots (insert_formatting name attributes)
insert_formatting_roots name attributes p = record {
  rooted = λ body s h. rooted_listed (length s.nodes) (
    number_after body s h,
    named_added is_inner s.nodes (element (html name) attributes)
        (kinds_add (element (html name) attributes) (place s) s.nodes) p,
  ) (λ n l. listed_pushed n (length s.nodes) (insert_element name attributes s).nodes s.formatting l)
      ((insert_element_roots name attributes p).rooted body s h);
  content = λ body s h. refl;
}

-- ---- elements are reconstructed

-- a step that leaves the body open, and elements with their names
record RootedGrown (body : ℕ) (s new : StateValue) : Type 0 where
  rooted : RootedAt body new
  grows : Grows (kinds s.nodes) (kinds new.nodes)

like_grown : (body : ℕ) (s : StateValue) (k : KindValue) → is_named is_inner k ≡ true → RootedAt body s
    → RootedGrown body s (on_formatting (λ entries. Some (length s.nodes) ∷ entries) (insert_like k s))
like_grown body s (element name attributes) p h = record {
  rooted = rooted_listed (length s.nodes) (
    number_after body s h,
    named_added is_inner s.nodes (element name attributes) (kinds_add (element name attributes) (place s) s.nodes) p,
  ) (λ n l. listed_first n (length s.nodes) s.formatting l) ((insert_named_roots name attributes p).rooted body s h);
  grows = grows_added (element name attributes) (place s) s.nodes;
}
like_grown body s _ p h = absurd (true≢false (sym p))

-- ---- how the tokenizer reads on

like_content : (k : KindValue) (s : StateValue) → (insert_like k s).content ≡ s.content
like_content (element name attributes) s = refl
like_content _ s = refl

pub reconstruct_content : (s : StateValue) → (reconstruct s).content ≡ s.content
reconstruct_content s =
    reconstructed (λ n. Unit {0}) (λ t. t.content ≡ s.content) s (λ n l. tt) refl
    (λ n t q e. like_content (kind_at t.nodes n) t ∙ e)

pub reconstruct_roots : Roots reconstruct
reconstruct_roots = record {
  rooted = λ body s h. (reconstructed (InnerAt (kinds s.nodes))
      (RootedGrown body (on_formatting (after_closed s.stack) s)) s (λ n l. (h.entries_at n l).1) (record {
        rooted = rooted_entries (λ n l. h.entries_at n (listed_closed n s.stack s.formatting l)) h;
        grows = grows_same refl;
      })
      (λ n t q before. let last = like_grown body t (kind_at t.nodes n)
      (ap (is_named is_inner) (kind_read t.nodes n) ∙ before.grows.names is_inner n q) before.rooted in
      record { rooted = last.rooted; grows = grows_then before.grows last.grows })).rooted;
  content = λ body s h. reconstruct_content s;
}
