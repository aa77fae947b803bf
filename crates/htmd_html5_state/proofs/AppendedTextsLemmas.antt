-- Texts that are put at the end of a node one after another are joined.
use Rattle.std.proofs.Common.{◌≡◌, ◌∙◌, ℕ, zero, suc, ◌+◌, ◌<◌, ◌≤◌, true, false, not, ◌&&◌, List, [], ◌∷◌, ◌++◌}
use Rattle.std.proofs.Common.{length, Option, Some, None, set, refl, sym, ap, subst, arith, inl, inr, ◌⊎◌}
use Rattle.std.specs.Prelude.{insert, nat_lt}
use Rattle.std.proofs.lemmas.Bool.{true≢false, and_parts, cases_lt, ltb-true, not_from_true}
use Rattle.std.proofs.lemmas.List.{get_or_append_left, get_or_at, get_or-set_same, get_or_past}
use Rattle.std.proofs.lemmas.List.{set-append_left, set_at, set-set, length-set, length-append, append_assoc}
use Rattle.htmd_lexical.proofs.Cases.{test}
use Rattle.htmd_lexical.specs.CharacterClasses.{is_empty}
use Rattle.htmd_html5_state.proofs.DocumentLemmas.{insert_last}
use Rattle.htmd_html5_state.specs.Nodes.{NodeValue, KindValue, document, text, new_node, node_at, kind_at, children_at}
use Rattle.htmd_html5_state.specs.Nodes.{text_of, with_kind, with_parent, with_children, last_in, put_child, add}
use Rattle.htmd_html5_state.specs.declared.document.Place.{Place}
use Rattle.htmd_html5_state.specs.Nodes.{child_before, preceding, joined_with, joined, joined_to, or_add, add_text}
use Rattle.htmd_html5_state.specs.Formatting.{closed_elements, after_closed, reconstruct, reopen_all}
use Rattle.htmd_html5_state.specs.Insertion.{current, insert_text, place}
use Rattle.htmd_html5_state.specs.OpenElements.{OpenValue, is_open_node}
use Rattle.htmd_html5_state.specs.AppendedTexts.{is_reconstructed, appends_text}
use Rattle.htmd_html5_state.specs.State.{StateValue, on_formatting, on_nodes}

-- ---- a new node at the end of another one

last_child : (cs : List ℕ) (n : ℕ) → child_before (length (cs ++ n ∷ [])) (cs ++ n ∷ []) ≡ Some n
last_child [] n = refl
last_child (c ∷ []) n = refl
last_child (c ∷ d ∷ cs) n = last_child (d ∷ cs) n

-- the nodes, with one more child of a node
abbrev grown : ℕ → List NodeValue → List NodeValue
grown p nodes = with_children p (children_at nodes p ++ length nodes ∷ []) nodes

abbrev placed : KindValue → ℕ → NodeValue
placed kind p = record { kind = kind; parent = Some p; children = [] }

grown_long : (p : ℕ) (nodes : List NodeValue) → length (grown p nodes) ≡ length nodes
grown_long p nodes = length-set nodes p
    (record (node_at nodes p) { children = children_at nodes p ++ length nodes ∷ [] })

add_last : (kind : KindValue) (p : ℕ) (nodes : List NodeValue) → p < length nodes
    → add kind (last_in p) nodes ≡ grown p nodes ++ placed kind p ∷ []
add_last kind p nodes l = ap (with_parent (length nodes) (Some p)) child ∙ parent
  where
    child : put_child (length nodes) (last_in p) (nodes ++ new_node kind ∷ [])
        ≡ grown p nodes ++ new_node kind ∷ []
    child =
        ap (λ (x : NodeValue). set (nodes ++ new_node kind ∷ []) p
        (record x { children = insert x.children (length x.children) (length nodes) }))
        (get_or_append_left nodes (new_node kind ∷ []) (new_node document) p l)
        ∙ (ap (λ (cs : List ℕ). set (nodes ++ new_node kind ∷ []) p (record (node_at nodes p) { children = cs }))
        (insert_last (children_at nodes p) (length nodes))
        ∙ set-append_left nodes (new_node kind ∷ []) p
        (record (node_at nodes p) { children = children_at nodes p ++ length nodes ∷ [] }) l)

    parent : with_parent (length nodes) (Some p) (grown p nodes ++ new_node kind ∷ [])
        ≡ grown p nodes ++ placed kind p ∷ []
    parent =
        ap (λ (x : NodeValue). set (grown p nodes ++ new_node kind ∷ []) (length nodes)
        (record x { parent = Some p }))
        (get_or_at (grown p nodes) (new_node kind) [] (new_node document) (length nodes) (grown_long p nodes))
        ∙ set_at (grown p nodes) (new_node kind) [] (placed kind p) (length nodes) (grown_long p nodes)

children_of_kind : (n p : ℕ) (k : KindValue) (nodes : List NodeValue)
    → children_at (with_kind n k nodes) p ≡ children_at nodes p
children_of_kind n p k [] = refl
children_of_kind zero zero k (x ∷ nodes) = refl
children_of_kind zero (suc p) k (x ∷ nodes) = refl
children_of_kind (suc n) zero k (x ∷ nodes) = refl
children_of_kind (suc n) (suc p) k (x ∷ nodes) = children_of_kind n p k nodes

-- a text is one of the nodes
text_within : (nodes : List NodeValue) (n : ℕ) (before : List ℕ) → text_of (kind_at nodes n) ≡ Some before
    → n < length nodes
text_within nodes n before e = either (cases_lt n (length nodes))
  where
    either : (n < length nodes) ⊎ (length nodes ≤ n) → n < length nodes
    either (inl l) = l
    either (inr l) =
        let none : text_of (kind_at nodes n) ≡ None =
        ap (λ (x : NodeValue). text_of x.kind) (get_or_past nodes n (new_node document) l) in
        absurd (cc)

-- ---- two texts at the end of a node

module _ (a b : List ℕ) (p : ℕ) (nodes : List NodeValue) (l : p < length nodes) where
  -- the second after a new one
  after_new : add_text b (last_in p) (add (text a) (last_in p) nodes) ≡ add (text (a ++ b)) (last_in p) nodes
  after_new = ap (add_text b (last_in p)) (add_last (text a) p nodes l) ∙ both
      ∙ sym (add_last (text (a ++ b)) p nodes l)
    where
      new : List NodeValue
      new = grown p nodes ++ placed (text a) p ∷ []

      parent : node_at new p
          ≡ record (node_at nodes p) { children = children_at nodes p ++ length nodes ∷ [] }
      parent =
          get_or_append_left (grown p nodes) (placed (text a) p ∷ []) (new_node document) p
          (omega (arith, grown_long p nodes))
          ∙ get_or-set_same nodes p
          (record (node_at nodes p) { children = children_at nodes p ++ length nodes ∷ [] })
          (new_node document) l

      before : preceding (last_in p) new ≡ Some (length nodes)
      before =
          ap (λ (x : NodeValue). child_before (length x.children) x.children) parent
          ∙ last_child (children_at nodes p) (length nodes)

      last : node_at new (length nodes) ≡ placed (text a) p
      last =
          get_or_at (grown p nodes) (placed (text a) p) [] (new_node document) (length nodes) (grown_long p nodes)

      joins : joined b (length nodes) new ≡ Some (grown p nodes ++ placed (text (a ++ b)) p ∷ [])
      joins =
          ap (λ (x : NodeValue). joined_with b (length nodes) (text_of x.kind) new) last
          ∙ ap Some (ap (λ (x : NodeValue). set new (length nodes) (record x { kind = text (a ++ b) })) last
          ∙ set_at (grown p nodes) (placed (text a) p) [] (placed (text (a ++ b)) p) (length nodes)
          (grown_long p nodes))

      both : add_text b (last_in p) new ≡ grown p nodes ++ placed (text (a ++ b)) p ∷ []
      both =
          ap (λ (o : Option ℕ). or_add b (last_in p) new (joined_to b o new)) before
          ∙ ap (or_add b (last_in p) new) joins

  -- both at the end of a text
  after_old : (n : ℕ) (before : List ℕ) → text_of (kind_at nodes n) ≡ Some before
      → preceding (last_in p) nodes ≡ Some n
      → add_text b (last_in p) (with_kind n (text (before ++ a)) nodes)
      ≡ with_kind n (text (before ++ (a ++ b))) nodes
  after_old n before e f =
      ap (λ (o : Option ℕ). or_add b (last_in p) new (joined_to b o new)) found
      ∙ ap (or_add b (last_in p) new) joins
    where
      within : n < length nodes
      within = text_within nodes n before e

      changed : NodeValue
      changed = record (node_at nodes n) { kind = text (before ++ a) }

      new : List NodeValue
      new = with_kind n (text (before ++ a)) nodes

      found : preceding (last_in p) new ≡ Some n
      found =
          ap (λ (cs : List ℕ). child_before (length cs) cs) (children_of_kind n p (text (before ++ a)) nodes) ∙ f

      here : node_at new n ≡ changed
      here = get_or-set_same nodes n changed (new_node document) within

      joins : joined b n new ≡ Some (with_kind n (text (before ++ (a ++ b))) nodes)
      joins =
          ap (λ (x : NodeValue). joined_with b n (text_of x.kind) new) here
          ∙ ap Some (ap (λ (x : NodeValue). set new n (record x { kind = text ((before ++ a) ++ b) })) here
          ∙ (set-set nodes n changed (record (node_at nodes n) { kind = text ((before ++ a) ++ b) })
          ∙ ap (λ (t : List ℕ). with_kind n (text t) nodes) (append_assoc before a b)))

  by_text : (n : ℕ) (t : Option (List ℕ)) → text_of (kind_at nodes n) ≡ t
      → preceding (last_in p) nodes ≡ Some n
      → add_text b (last_in p) (or_add a (last_in p) nodes (joined_with a n t nodes))
      ≡ or_add (a ++ b) (last_in p) nodes (joined_with (a ++ b) n t nodes)
  by_text n None e f = after_new
  by_text n (Some before) e f = after_old n before e f

  by_preceding : (o : Option ℕ) → preceding (last_in p) nodes ≡ o
      → add_text b (last_in p) (or_add a (last_in p) nodes (joined_to a o nodes))
      ≡ or_add (a ++ b) (last_in p) nodes (joined_to (a ++ b) o nodes)
  by_preceding None e = after_new
  by_preceding (Some n) e = by_text n (text_of (kind_at nodes n)) refl e

  pub add_text-twice : add_text b (last_in p) (add_text a (last_in p) nodes) ≡ add_text (a ++ b) (last_in p) nodes
  add_text-twice = by_preceding (preceding (last_in p) nodes) refl

-- ---- no node is lost

kept_at : (s : List ℕ) (p : ℕ) (nodes : List NodeValue) (o : Option (List NodeValue)) → p < length nodes
    → ((new : List NodeValue) → o ≡ Some new → p < length new) → p < length (or_add s (last_in p) nodes o)
kept_at s p nodes None l h =
    rw (add_last (text s) p nodes l)
    (let g = grown_long p nodes in
    let m = length-append (grown p nodes) (placed (text s) p ∷ []) in
    omega arith)
kept_at s p nodes (Some new) l h = h new refl

kept_in : (s : List ℕ) (n p : ℕ) (t : Option (List ℕ)) (nodes new : List NodeValue) → p < length nodes
    → joined_with s n t nodes ≡ Some new → p < length new
kept_in s n p None nodes new l e = absurd (cc)
kept_in s n p (Some before) nodes new l e =
    let same : with_kind n (text (before ++ s)) nodes ≡ new = cc in
    let g = length-set nodes n (record (node_at nodes n) { kind = text (before ++ s) }) in
    let m = ap length same in
    omega arith

kept_to : (s : List ℕ) (o : Option ℕ) (p : ℕ) (nodes new : List NodeValue) → p < length nodes
    → joined_to s o nodes ≡ Some new → p < length new
kept_to s None p nodes new l e = absurd (cc)
kept_to s (Some n) p nodes new l e = kept_in s n p (text_of (kind_at nodes n)) nodes new l e

add_text-kept : (s : List ℕ) (p : ℕ) (nodes : List NodeValue) → p < length nodes
    → p < length (add_text s (last_in p) nodes)
add_text-kept s p nodes l =
    kept_at s p nodes (joined_to s (preceding (last_in p) nodes) nodes) l
    (λ new e. kept_to s (preceding (last_in p) nodes) p nodes new l e)

-- ---- a state in which text goes to the end of the current node

pub record AppendsText (s : StateValue) : Type 0 where
  pub fosters : s.foster_parenting ≡ false
  pub listed : is_reconstructed s ≡ true
  pub within : (current s.stack).node < length s.nodes

pub appends : (s : StateValue) → appends_text s ≡ true → AppendsText s
appends s e =
    let both = and_parts (not s.foster_parenting && is_reconstructed s)
    (nat_lt (current s.stack).node (length s.nodes)) e in
    let front = and_parts (not s.foster_parenting) (is_reconstructed s) both.0 in
    record {
      fosters = test s.foster_parenting
          (λ t. absurd (true≢false (sym front.0 ∙ not_from_true s.foster_parenting t))) (λ t. t);
      listed = front.1;
      within = ltb-true (current s.stack).node (length s.nodes) both.1;
    }

put_last : (a : List ℕ) (s : StateValue) → AppendsText s
    → insert_text a s ≡ on_nodes (add_text a (last_in (current s.stack).node)) s
put_last a s h = ap (λ (p : Place). on_nodes (add_text a p) s) at_end
  where
    at_end : place s ≡ last_in (current s.stack).node
    at_end = rw h.fosters refl

still_appends : (a : List ℕ) (s : StateValue) → AppendsText s
    → AppendsText (on_nodes (add_text a (last_in (current s.stack).node)) s)
still_appends a s h = record {
  fosters = h.fosters;
  listed = h.listed;
  within = add_text-kept a (current s.stack).node s.nodes h.within;
}

-- two texts are as one
pub insert_text-twice : (a b : List ℕ) (s : StateValue) → AppendsText s
    → insert_text b (insert_text a s) ≡ insert_text (a ++ b) s
insert_text-twice a b s h =
    ap (insert_text b) (put_last a s h)
    ∙ (put_last b (on_nodes (add_text a (last_in (current s.stack).node)) s) (still_appends a s h)
    ∙ (ap (λ (nodes : List NodeValue). record s { nodes = nodes })
    (add_text-twice a b (current s.stack).node s.nodes h.within)
    ∙ sym (put_last (a ++ b) s h)))

pub insert_text-appends : (a : List ℕ) (s : StateValue) → AppendsText s → AppendsText (insert_text a s)
insert_text-appends a s h = subst AppendsText (sym (put_last a s h)) (still_appends a s h)

none_closed : (stack : List OpenValue) (es : List (Option ℕ)) → is_empty (closed_elements stack es) ≡ true
    → (closed_elements stack es ≡ []) × (after_closed stack es ≡ es)
none_closed stack [] e = (refl, refl)
none_closed stack (None ∷ es) e = (refl, refl)
none_closed stack (Some n ∷ es) e =
    test (is_open_node n stack) (λ t. (rw t refl, rw t refl)) (λ t. absurd (true≢false (sym (rw t at e))))

-- nothing is reconstructed
pub none_reopened : (s : StateValue) → is_reconstructed s ≡ true → reconstruct s ≡ s
none_reopened s h =
    let none = none_closed s.stack s.formatting h in
    ap (λ (ns : List ℕ). reopen_all ns (on_formatting (after_closed s.stack) s)) none.0
    ∙ ap (λ (es : List (Option ℕ)). record s { formatting = es }) none.1

pub appends-reconstruct : (s : StateValue) → AppendsText s → reconstruct s ≡ s
appends-reconstruct s h = none_reopened s h.listed
