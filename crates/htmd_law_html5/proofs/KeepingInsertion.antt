-- What is inserted that isn't text, and what the list of active formatting elements becomes.
use Rattle.std.proofs.Common.{◌≡◌, ◌∙◌, ℕ, zero, suc, Bool, true, List, [], ◌∷◌, length, get_or, set, Option, Some}
use Rattle.std.proofs.Common.{None, refl, sym, ap, subst, All, inl, inr, ◌⊎◌, ⊎_elim}
use Rattle.std.specs.Prelude.{IsUtf8, ◌==◌}
use Rattle.std.proofs.lemmas.Bool.{true≢false, eqb-true, eq-eqb}
use Rattle.htmd_lexical.proofs.Cases.{test}
use Rattle.htmd_lexical.specs.AttributePairs.{AttributePair}
use Rattle.htmd_lexical.specs.declared.content_model.RawElement.{RawElement}
use Rattle.htmd_html5_state.specs.Names.{ElementNameValue, NameValue, html}
use Rattle.htmd_html5_state.specs.Nodes.{KindValue, NodeValue, document, doctype, comment, element, kind_at, last_in}
use Rattle.htmd_html5_state.specs.Nodes.{add_missing, kind_with_missing, detach}
use Rattle.htmd_html5_state.specs.OpenElements.{OpenValue, pop, is_open_node}
use Rattle.htmd_html5_state.specs.State.{StateValue, on_formatting, on_nodes}
use Rattle.htmd_html5_state.specs.Insertion.{insert_at, insert_named, insert_element, insert_root, insert_void}
use Rattle.htmd_html5_state.specs.Insertion.{insert_raw, insert_comment_in, insert_comment, insert_doctype, open_again}
use Rattle.htmd_html5_state.specs.Insertion.{place, current}
use Rattle.htmd_html5_state.specs.Formatting.{is_listed, is_entry, without_entry, after_marker, replace_entry}
use Rattle.htmd_html5_state.specs.Formatting.{insert_after, without_some, with_room, with_room_for, push_entry}
use Rattle.htmd_html5_state.specs.Formatting.{push_marker, clear_to_marker, insert_formatting, closed_elements}
use Rattle.htmd_html5_state.specs.Formatting.{after_closed, insert_like, reopen, reopen_all, reconstruct}
use Rattle.htmd_html5_state.specs.Foreign.{insert_foreign, foreign_name, foreign_attributes, pop_if}
use Rattle.htmd_html5_state.specs.Resetting.{push_template_mode, pop_template_mode, reset_insertion_mode}
use Rattle.htmd_html5_state.specs.declared.names.Namespace.{Namespace}
use Rattle.htmd_html5_state.specs.declared.modes.InsertionMode.{InsertionMode}
use Rattle.htmd_law_html5.proofs.NodeTexts.{kinds, texts, with_text, is_element, kinds_add, kinds_detach}
use Rattle.htmd_law_html5.proofs.NodeTexts.{kinds_with_kind, kind_read, element_set, with_missing_element}
use Rattle.htmd_law_html5.proofs.Forests.{forest_add, forest_detach, forest_with_kind}
use Rattle.htmd_law_html5.proofs.OpenNodes.{pop_fewer, pop_if_fewer}
use Rattle.htmd_law_html5.proofs.Keeping.{ElementAt, IsRooted, Held, as_head, as_entry, as_open, SoundIn, Sound, Kept}
use Rattle.htmd_law_html5.proofs.Keeping.{Keeps, held_in, held_opened, kept_same, kept_then, after, by_state}
use Rattle.htmd_law_html5.proofs.Keeping.{kept_kinds, sound_held, untouched, on_stack_keeps, IsElement, kept_new}

-- ---- elements, comments and doctypes

-- what is held is a new element, or was held before
pub opened_new : {nodes : List NodeValue} {head : Option ℕ} {entries : List (Option ℕ)} {stack : List OpenValue}
    (k : KindValue) (n : ℕ) → is_element k ≡ true → SoundIn nodes head entries stack
    → (n ≡ length nodes) ⊎ Held n head entries stack → IsElement nodes k n
opened_new k n e h (inl p) = inl (p, e)
opened_new k n e h (inr l) = inr (h.held n l)

pub insert_at_keeps : (at : StateValue → _) (name : ElementNameValue) (attributes : List AttributePair)
    → Keeps (λ s. insert_at (at s) name attributes s)
insert_at_keeps at name attributes = record {
  keeps = λ s h. kept_new (element name attributes) (kinds_add (element name attributes) (at s) s.nodes) refl
      (forest_add (element name attributes) (at s) s.nodes h.forest) h
      (λ n l. opened_new (element name attributes) n refl h (held_opened (length s.nodes) name s.stack l));
}

pub insert_named_keeps : (name : ElementNameValue) (attributes : List AttributePair)
    → Keeps (insert_named name attributes)
insert_named_keeps name attributes = insert_at_keeps place name attributes

pub insert_element_keeps : (name : NameValue) (attributes : List AttributePair)
    → Keeps (insert_element name attributes)
insert_element_keeps name attributes = insert_named_keeps (html name) attributes

pub insert_root_keeps : (name : NameValue) (attributes : List AttributePair) → Keeps (insert_root name attributes)
insert_root_keeps name attributes = insert_at_keeps (λ s. last_in 0) (html name) attributes

pub insert_void_keeps : (name : NameValue) (attributes : List AttributePair) → Keeps (insert_void name attributes)
insert_void_keeps name attributes = after (on_stack_keeps pop pop_fewer) (insert_element_keeps name attributes)

pub insert_raw_keeps : (name : NameValue) (raw : RawElement) (attributes : List AttributePair)
    → Keeps (insert_raw name raw attributes)
insert_raw_keeps name raw attributes = record { keeps = λ s h. (insert_element_keeps name attributes).keeps s h }

pub insert_comment_in_keeps : (parent : ℕ) (s : List ℕ) → Keeps (insert_comment_in parent s)
insert_comment_in_keeps parent c = record {
  keeps = λ s h. kept_new (comment c) (kinds_add (comment c) (last_in parent) s.nodes) refl
      (forest_add (comment c) (last_in parent) s.nodes h.forest) h (λ n l. inr (h.held n l));
}

pub insert_comment_keeps : (s : List ℕ) → Keeps (insert_comment s)
insert_comment_keeps c = by_state (λ s. (current s.stack).node) (λ n. insert_comment_in_keeps n c)

pub insert_doctype_keeps : Keeps insert_doctype
insert_doctype_keeps = record {
  keeps = λ s h. kept_new doctype (kinds_add doctype (last_in 0) s.nodes) refl
      (forest_add doctype (last_in 0) s.nodes h.forest) h (λ n l. inr (h.held n l));
}

pub insert_foreign_keeps : (space : Namespace) (name : List ℕ) (attributes : List AttributePair) (closes : Bool)
    → Keeps (insert_foreign space name attributes closes)
insert_foreign_keeps space name attributes closes =
    after (on_stack_keeps (pop_if closes) (pop_if_fewer closes))
    (insert_named_keeps (foreign_name space name) (foreign_attributes space attributes))

pub detach_keeps : (n : ℕ) → Keeps (on_nodes (detach n))
detach_keeps n = record { keeps = λ s h. kept_kinds (kinds_detach n s.nodes) (forest_detach n s.nodes h.forest) h }

-- ---- attributes that an element lacks

missing_text : (more : List AttributePair) (k : KindValue) (ts : List (List ℕ))
    → with_text (kind_with_missing more k) ts ≡ with_text k ts
missing_text more (element name attributes) ts = refl
missing_text more _ ts = refl

missing_texts : (ks : List KindValue) (n : ℕ) (more : List AttributePair)
    → texts (set ks n (kind_with_missing more (get_or ks n document))) ≡ texts ks
missing_texts [] n more = refl
missing_texts (k ∷ ks) zero more = missing_text more k (texts ks)
missing_texts (k ∷ ks) (suc n) more = ap (with_text k) (missing_texts ks n more)

rooted_missing : (ks : List KindValue) (n : ℕ) (more : List AttributePair) → IsRooted ks
    → IsRooted (set ks n (kind_with_missing more (get_or ks n document)))
rooted_missing [] n more r = absurd (true≢false r)
rooted_missing (k ∷ ks) zero more r = with_missing_element more k ∙ r
rooted_missing (k ∷ ks) (suc n) more r = r

pub add_missing_keeps : (n : ℕ) (more : List AttributePair) → Keeps (on_nodes (add_missing n more))
add_missing_keeps n more = record { keeps = λ s h. kept s h }
  where
    is : (nodes : List NodeValue) → kinds (add_missing n more nodes)
        ≡ set (kinds nodes) n (kind_with_missing more (get_or (kinds nodes) n document))
    is nodes =
        kinds_with_kind n (kind_with_missing more (kind_at nodes n)) nodes
        ∙ ap (λ k. set (kinds nodes) n (kind_with_missing more k)) (kind_read nodes n)

    stays : (nodes : List NodeValue) (m : ℕ) → ElementAt (kinds nodes) m
        → ElementAt (kinds (add_missing n more nodes)) m
    stays nodes m e =
        subst (λ (ks : List KindValue). ElementAt ks m) (sym (is nodes))
        (element_set (kinds nodes) n m (kind_with_missing more (get_or (kinds nodes) n document))
        (λ f. with_missing_element more (get_or (kinds nodes) n document) ∙ f) e)

    kept : (s : StateValue) → Sound s → Kept s (on_nodes (add_missing n more) s)
    kept s h = record {
      same = ap texts (is s.nodes) ∙ missing_texts (kinds s.nodes) n more;
      stays = stays s.nodes;
      sound = record {
        held = λ m l. stays s.nodes m (h.held m l);
        utf8 = subst (All IsUtf8) (sym (ap texts (is s.nodes) ∙ missing_texts (kinds s.nodes) n more)) h.utf8;
        forest = forest_with_kind n (kind_with_missing more (kind_at s.nodes n)) s.nodes h.forest;
        root = subst IsRooted (sym (is s.nodes)) (rooted_missing (kinds s.nodes) n more h.root);
      };
    }

-- ---- the list of active formatting elements

pub listed_more : (n : ℕ) (e : Option ℕ) (entries : List (Option ℕ)) → is_listed n entries ≡ true
    → is_listed n (e ∷ entries) ≡ true
listed_more n e entries l = test (is_entry n e) (λ t. rw t refl) (λ t. rw t l)

pub listed_under : (n : ℕ) (e : Option ℕ) (entries others : List (Option ℕ))
    → (is_listed n entries ≡ true → is_listed n others ≡ true) → is_listed n (e ∷ entries) ≡ true
    → is_listed n (e ∷ others) ≡ true
listed_under n e entries others f l = test (is_entry n e) (λ t. rw t refl) (λ t. rw t (f (rw t at l)))

pub listed_without : (n m : ℕ) (entries : List (Option ℕ)) → is_listed n (without_entry m entries) ≡ true
    → is_listed n entries ≡ true
listed_without n m [] l = l
listed_without n m (e ∷ entries) l =
    test (is_entry m e) (λ t. listed_more n e entries (rw t at l))
    (λ t. listed_under n e (without_entry m entries) entries (listed_without n m entries) (rw t at l))

pub listed_after_marker : (n : ℕ) (entries : List (Option ℕ)) → is_listed n (after_marker entries) ≡ true
    → is_listed n entries ≡ true
listed_after_marker n [] l = l
listed_after_marker n (None ∷ entries) l = l
listed_after_marker n (Some m ∷ entries) l = listed_more n (Some m) entries (listed_after_marker n entries l)

listed_without_some : (n : ℕ) (m : Option ℕ) (entries : List (Option ℕ))
    → is_listed n (without_some m entries) ≡ true → is_listed n entries ≡ true
listed_without_some n None entries l = l
listed_without_some n (Some m) entries l = listed_without n m entries l

pub listed_closed : (n : ℕ) (stack : List OpenValue) (entries : List (Option ℕ))
    → is_listed n (after_closed stack entries) ≡ true → is_listed n entries ≡ true
listed_closed n stack [] l = l
listed_closed n stack (None ∷ entries) l = l
listed_closed n stack (Some m ∷ entries) l =
    test (is_open_node m stack) (λ t. rw t at l)
    (λ t. listed_more n (Some m) entries (listed_closed n stack entries (rw t at l)))

-- the first entry is this, or the number is listed after it
pub listed_first : (n m : ℕ) (entries : List (Option ℕ)) → is_listed n (Some m ∷ entries) ≡ true
    → (n ≡ m) ⊎ (is_listed n entries ≡ true)
listed_first n m entries l = test (m == n) (λ t. inl (sym (eqb-true m n t))) (λ t. inr (rw t at l))

-- what holds of a number, and of all that are listed, holds of one that is that number or listed
pub one_or_listed : {Listed : Type 0} (P : ℕ → Type 0) (m n : ℕ) → P m → (Listed → P n)
    → (n ≡ m) ⊎ Listed → P n
one_or_listed P m n p f (inl e) = subst P (sym e) p
one_or_listed P m n p f (inr l) = f l

or_listed : (n new : ℕ) (e : Option ℕ) (entries : List (Option ℕ))
    → (n ≡ new) ⊎ (is_listed n entries ≡ true) → (n ≡ new) ⊎ (is_listed n (e ∷ entries) ≡ true)
or_listed n new e entries (inl p) = inl p
or_listed n new e entries (inr p) = inr (listed_more n e entries p)

pub listed_replaced : (n old new : ℕ) (entries : List (Option ℕ))
    → is_listed n (replace_entry old new entries) ≡ true → (n ≡ new) ⊎ (is_listed n entries ≡ true)
listed_replaced n old new [] l = inr l
listed_replaced n old new (e ∷ entries) l =
    test (is_entry old e) (λ t. or_listed n new e entries (listed_first n new entries (rw t at l)))
    (λ t. test (is_entry n e) (λ u. inr (rw u refl))
    (λ u. or_listed n new e entries (listed_replaced n old new entries (rw u at (rw t at l)))))

pub listed_inserted : (n old new : ℕ) (entries : List (Option ℕ))
    → is_listed n (insert_after old new entries) ≡ true → (n ≡ new) ⊎ (is_listed n entries ≡ true)
listed_inserted n old new [] l = inr l
listed_inserted n old new (e ∷ entries) l =
    test (is_entry old e) (λ t. listed_first n new (e ∷ entries) (rw t at l))
    (λ t. test (is_entry n e) (λ u. inr (rw u refl))
    (λ u. or_listed n new e entries (listed_inserted n old new entries (rw u at (rw t at l)))))

pub without_entry_keeps : (n : ℕ) → Keeps (on_formatting (without_entry n))
without_entry_keeps n = untouched (λ s. refl)
    (λ s m l. held_in s.formatting s.stack (listed_without m n s.formatting) (λ e. e) l)

pub push_marker_keeps : Keeps push_marker
push_marker_keeps = untouched (λ s. refl) (λ s n l. held_in s.formatting s.stack (λ e. e) (λ e. e) l)

pub clear_to_marker_keeps : Keeps clear_to_marker
clear_to_marker_keeps = untouched (λ s. refl)
    (λ s n l. held_in s.formatting s.stack (listed_after_marker n s.formatting) (λ e. e) l)

-- where one number more is listed, that is held, or what was held before
pub held_more : {n m : ℕ} {head : Option ℕ} {entries later : List (Option ℕ)} {stack : List OpenValue}
    → (is_listed n later ≡ true → (n ≡ m) ⊎ (is_listed n entries ≡ true))
    → (n ≡ m) ⊎ Held n head later stack → (n ≡ m) ⊎ Held n head entries stack
held_more f (inl p) = inl p
held_more f (inr (as_head e)) = inr (as_head e)
held_more f (inr (as_entry e)) = ⊎_elim (λ p. inl p) (λ l. inr (as_entry l)) (f e)
held_more f (inr (as_open e)) = inr (as_open e)

pub listed_pushed : (n m : ℕ) (nodes : List NodeValue) (entries : List (Option ℕ))
    → is_listed n (push_entry nodes m entries) ≡ true → (n ≡ m) ⊎ (is_listed n entries ≡ true)
listed_pushed n m nodes entries l =
    ⊎_elim (λ p. inl p) (λ p. inr (listed_without_some n _ entries
    (listed_without_some n _ (with_room_for nodes (kind_at nodes m) entries) p)))
    (listed_first n m (with_room (with_room_for nodes (kind_at nodes m) entries)) l)

pub insert_formatting_keeps : (name : NameValue) (attributes : List AttributePair)
    → Keeps (insert_formatting name attributes)
insert_formatting_keeps name attributes = record {
  keeps = λ s h. kept_new (element (html name) attributes)
      (kinds_add (element (html name) attributes) (place s) s.nodes) refl
      (forest_add (element (html name) attributes) (place s) s.nodes h.forest) h
      (λ n l. opened_new (element (html name) attributes) n refl h
      (held_more (listed_pushed n (length s.nodes) (insert_element name attributes s).nodes s.formatting)
      (held_opened (length s.nodes) (html name) s.stack l)));
}

-- ---- elements are reconstructed

abbrev EachOf : (ℕ → Type 0) → List ℕ → Type 0
EachOf Q [] = Unit {0}
EachOf Q (n ∷ ns) = Q n × EachOf Q ns

closed_each : (Q : ℕ → Type 0) (stack : List OpenValue) (entries : List (Option ℕ))
    → ((n : ℕ) → is_listed n entries ≡ true → Q n) → EachOf Q (closed_elements stack entries)
closed_each Q stack [] f = tt
closed_each Q stack (None ∷ entries) f = tt
closed_each Q stack (Some m ∷ entries) f =
    test (is_open_node m stack) (λ t. rw t tt)
    (λ t. rw t (
      f m (rw (eq-eqb m m refl) refl),
      closed_each Q stack entries (λ n l. f n (listed_more n (Some m) entries l)),
    ))

-- what holds at first (R), and after each of the elements that are listed (Q) is opened again, holds of the end
pub reconstructed : (Q : ℕ → Type 0) (R : StateValue → Type 0) (s : StateValue)
    → ((n : ℕ) → is_listed n s.formatting ≡ true → Q n) → R (on_formatting (after_closed s.stack) s)
    → ((n : ℕ) (t : StateValue) → Q n → R t → R (reopen n t)) → R (reconstruct s)
reconstructed Q R s q first next = all (closed_elements s.stack s.formatting) (closed_each Q s.stack s.formatting q)
  where
    all : (ns : List ℕ) → EachOf Q ns → R (reopen_all ns (on_formatting (after_closed s.stack) s))
    all [] each = first
    all (n ∷ ns) each = next n _ each.0 (all ns each.1)

like_kept : (s : StateValue) (k : KindValue) → is_element k ≡ true → Sound s
    → Kept s (on_formatting (λ entries. Some (length s.nodes) ∷ entries) (insert_like k s))
like_kept s (element name attributes) e h =
    kept_new (element name attributes) (kinds_add (element name attributes) (place s) s.nodes) refl
    (forest_add (element name attributes) (place s) s.nodes h.forest) h
    (λ m l. opened_new (element name attributes) m refl h
    (held_more (listed_first m (length s.nodes) s.formatting) (held_opened (length s.nodes) name s.stack l)))
like_kept s _ e h = absurd (true≢false (sym e))

pub reconstruct_keeps : Keeps reconstruct
reconstruct_keeps = record {
  keeps = λ s h. reconstructed (ElementAt (kinds s.nodes)) (Kept (on_formatting (after_closed s.stack) s)) s
      (λ n l. h.held n (as_entry l)) (kept_same
      (sound_held (λ n l. h.held n (held_in s.formatting s.stack (listed_closed n s.stack s.formatting) (λ e. e) l))
      h)) (λ n t e k. kept_then k
      (like_kept t (kind_at t.nodes n) (ap is_element (kind_read t.nodes n) ∙ k.stays n e) k.sound));
}

-- ---- what isn't a node

pub open_again_kept : (n : ℕ) (name : NameValue) (s : StateValue) → ElementAt (kinds s.nodes) n → Sound s
    → Kept s (open_again n name s)
open_again_kept n name s e h =
    kept_same (sound_held (λ m l. one_or_listed (ElementAt (kinds s.nodes)) n m e (h.held m)
    (held_opened n (html name) s.stack l)) h)

pub push_template_mode_keeps : (mode : InsertionMode) → Keeps (push_template_mode mode)
push_template_mode_keeps mode = untouched (λ s. refl) (λ s n l. l)

pub pop_template_mode_keeps : Keeps pop_template_mode
pop_template_mode_keeps = untouched (λ s. refl) (λ s n l. l)

pub reset_insertion_mode_keeps : Keeps reset_insertion_mode
reset_insertion_mode_keeps = untouched (λ s. refl) (λ s n l. l)
