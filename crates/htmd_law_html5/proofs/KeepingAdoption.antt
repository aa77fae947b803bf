-- The adoption agency leaves the texts as they are.
use Rattle.std.proofs.Common.{◌≡◌, ◌∙◌, ℕ, Bool, true, List, [], ◌∷◌, ◌++◌, length, Option}
use Rattle.std.proofs.Common.{Some, None, refl, sym, ap, subst, arith, inl, inr, ◌⊎◌, ⊎_elim}
use Rattle.std.specs.Prelude.{◌==◌, find}
use Rattle.std.proofs.lemmas.Bool.{true≢false, eqb-true, eq-eqb}
use Rattle.htmd_lexical.proofs.Cases.{test}
use Rattle.htmd_html5_state.specs.Names.{known, html}
use Rattle.htmd_html5_state.specs.Nodes.{KindValue, NodeValue, element, kind_at, last_in, new_node, detach}
use Rattle.htmd_html5_state.specs.Nodes.{move_children}
use Rattle.htmd_html5_state.specs.OpenElements.{OpenValue, pop, close_name, inside, around, is_open_node}
use Rattle.htmd_html5_state.specs.State.{StateValue, on_stack, on_nodes}
use Rattle.htmd_html5_state.specs.Insertion.{opened, place}
use Rattle.htmd_html5_state.specs.Formatting.{is_listed, insert_after, since_marker}
use Rattle.htmd_html5_state.specs.Adoption.{kind_is, node_is, Furthest, Chain, begin_chain, copy_into, with_copy, chain}
use Rattle.htmd_html5_state.specs.Adoption.{move_last, wrap_children, with_bookmark, finish, adopt, adoption_agency}
use Rattle.htmd_html5_state.specs.declared.names.TagName.{TagName}
use Rattle.htmd_law_html5.proofs.NodeTexts.{kinds, is_element, element_no_text, kinds_new, kinds_attach, kinds_put}
use Rattle.htmd_law_html5.proofs.NodeTexts.{kinds_detach, kinds_move_children, kind_read}
use Rattle.htmd_law_html5.proofs.Forests.{IsForest, forest_put, forest_detached_put, forest_attach, forest_new}
use Rattle.htmd_law_html5.proofs.Forests.{length_new, new_is_free, forest_move, free_moved, length_moved}
use Rattle.htmd_law_html5.proofs.OpenNodes.{open_more, pop_fewer, close_name_fewer, inside_fewer, around_fewer}
use Rattle.htmd_law_html5.proofs.OpenNodes.{EachOpen, each_append, each_more}
use Rattle.htmd_law_html5.proofs.Keeping.{ElementAt, Held, as_head, as_entry, as_open, Sound, Kept, Keeps, kept_same}
use Rattle.htmd_law_html5.proofs.Keeping.{kept_then, kept_kinds, sound_open, on_stack_keeps, new_element, IsElement}
use Rattle.htmd_law_html5.proofs.Keeping.{kept_new, element_within}
use Rattle.htmd_law_html5.proofs.KeepingInsertion.{opened_new, held_more, listed_without, listed_replaced}
use Rattle.htmd_law_html5.proofs.KeepingInsertion.{listed_inserted, without_entry_keeps}
use Rattle.htmd_law_html5.proofs.AdoptionWalk.{FurthestAt, furthest_at, ChainSteps, chain_holds, AdoptionSteps}
use Rattle.htmd_law_html5.proofs.AdoptionWalk.{agency_holds}

element_kind : (nodes : List NodeValue) (n : ℕ) → ElementAt (kinds nodes) n → is_element (kind_at nodes n)
    ≡ true
element_kind nodes n e = ap is_element (kind_read nodes n) ∙ e

-- ---- the elements between

copy_kept : (n last : ℕ) (s : StateValue) → ElementAt (kinds s.nodes) n → ElementAt (kinds s.nodes) last
    → Sound s → Kept s (copy_into n last s)
copy_kept n last s e l h =
    kept_new (kind_at s.nodes n)
    (kinds_attach last (last_in (length s.nodes)) (s.nodes ++ new_node (kind_at s.nodes n) ∷ [])
    ∙ kinds_new s.nodes (kind_at s.nodes n)) (element_no_text (kind_at s.nodes n) (element_kind s.nodes n e))
    (forest_attach last (last_in (length s.nodes)) (s.nodes ++ new_node (kind_at s.nodes n) ∷ [])
    (let w = element_within s.nodes last l in let f = length_new (kind_at s.nodes n) s.nodes in omega arith)
    (forest_new (kind_at s.nodes n) s.nodes h.forest)) h
    (λ m k. opened_new (kind_at s.nodes n) m (element_kind s.nodes n e) h
    (held_more (listed_replaced m n (length s.nodes) s.formatting) (inr k)))

-- an open element's node is an element
abbrev ElementIn : List NodeValue → OpenValue → Type 0
ElementIn nodes e = ElementAt (kinds nodes) e.node

-- what is made between is made of elements
record ChainKept (s : StateValue) (c : Chain) : Type 0 where
  kept : Kept s c.state
  last : ElementAt (kinds c.state.nodes) c.last
  copies : EachOpen (ElementIn c.state.nodes) c.copies

copied : (s : StateValue) (e : OpenValue) (c : Chain) → is_listed e.node c.state.formatting ≡ true
    → ChainKept s c → ChainKept s (with_copy e c)
copied s e c listed h = record {
  kept = kept_then h.kept kept;
  last = new;
  copies = each_append (ElementIn (copy_into e.node c.last c.state).nodes) c.copies
      (opened (length c.state.nodes) e.name ∷ []) (each_more c.copies (λ x. kept.stays x.node) h.copies) (new, tt);
}
  where
    at : ElementAt (kinds c.state.nodes) e.node
    at = h.kept.sound.held e.node (as_entry listed)

    kept : Kept c.state (copy_into e.node c.last c.state)
    kept = copy_kept e.node c.last c.state at h.last h.kept.sound

    new : ElementAt (kinds (copy_into e.node c.last c.state).nodes) (length c.state.nodes)
    new =
        subst (λ (ks : List KindValue). ElementAt ks (length c.state.nodes))
        (sym (kinds_attach c.last (last_in (length c.state.nodes))
        (c.state.nodes ++ new_node (kind_at c.state.nodes e.node) ∷ [])
        ∙ kinds_new c.state.nodes (kind_at c.state.nodes e.node)))
        (new_element c.state.nodes (kind_at c.state.nodes e.node) (length c.state.nodes) refl
        (element_kind c.state.nodes e.node at))

keeping_chain : (s : StateValue) → ChainSteps (λ e. Unit {0}) (λ left c. ChainKept s c)
keeping_chain s = record {
  copied = λ left e c q more listed h. copied s e c listed h;
  passed = λ left e c h. record {
    kept = kept_then h.kept ((without_entry_keeps e.node).keeps c.state h.kept.sound);
    last = h.last;
    copies = h.copies;
  };
}

-- ---- a round

move_kept : (last : ℕ) (s : StateValue) → ElementAt (kinds s.nodes) last → Sound s → Kept s (move_last last s)
unfolding move_last
move_kept last s e h =
    kept_kinds (kinds_put last (place (on_nodes (detach last) s)) (detach last s.nodes) ∙ kinds_detach last s.nodes)
    (forest_detached_put last (place (on_nodes (detach last) s)) s.nodes (element_within s.nodes last e) h.forest) h

pub wrap_forest : (formatting block : ℕ) (nodes : List NodeValue) → IsForest nodes
    → IsForest (wrap_children formatting block nodes)
unfolding wrap_children
wrap_forest formatting block nodes h =
    let more = forest_new (kind_at nodes formatting) nodes h in
    forest_put (length nodes) (last_in block)
    (move_children block (length nodes) (nodes ++ new_node (kind_at nodes formatting) ∷ []))
    (let e = length_moved block (length nodes) (nodes ++ new_node (kind_at nodes formatting) ∷ []) in
    let f = length_new (kind_at nodes formatting) nodes in
    omega arith)
    (free_moved block (length nodes) (length nodes) (nodes ++ new_node (kind_at nodes formatting) ∷ []) more
    (new_is_free (kind_at nodes formatting) nodes))
    (forest_move block (length nodes) (nodes ++ new_node (kind_at nodes formatting) ∷ []) more)

pub wrap_kinds : (formatting block : ℕ) (nodes : List NodeValue)
    → kinds (wrap_children formatting block nodes) ≡ kinds nodes ++ kind_at nodes formatting ∷ []
unfolding wrap_children
wrap_kinds formatting block nodes =
    kinds_put (length nodes) (last_in block)
    (move_children block (length nodes) (nodes ++ new_node (kind_at nodes formatting) ∷ []))
    ∙ (kinds_move_children block (length nodes) (nodes ++ new_node (kind_at nodes formatting) ∷ [])
    ∙ kinds_new nodes (kind_at nodes formatting))

pub listed_marked : (n formatting copy : ℕ) (bookmark : Option ℕ) (entries : List (Option ℕ))
    → is_listed n (with_bookmark formatting copy bookmark entries) ≡ true → (n ≡ copy)
    ⊎ (is_listed n entries ≡ true)
listed_marked n formatting copy None entries l = listed_replaced n formatting copy entries l
listed_marked n formatting copy (Some first) entries l =
    listed_inserted n first copy entries (listed_without n formatting (insert_after first copy entries) l)

-- what holds of the numbers of open elements holds of the elements, and the other way round
each_open : (P : ℕ → Type 0) (es : List OpenValue) → ((n : ℕ) → is_open_node n es ≡ true → P n)
    → EachOpen (λ e. P e.node) es
each_open P [] f = tt
each_open P (e ∷ es) f =
    (f e.node (rw (eq-eqb e.node e.node refl) refl), each_open P es (λ n l. f n (open_more e es n l)))

open_each : (P : ℕ → Type 0) (es : List OpenValue) → EachOpen (λ e. P e.node) es → (n : ℕ)
    → is_open_node n es ≡ true → P n
open_each P [] h n l = absurd (true≢false (sym l))
open_each P (e ∷ es) h n l =
    test (e.node == n) (λ t. subst P (eqb-true e.node n t) h.0) (λ t. open_each P es h.1 n (rw t at l))

finish_kept : (formatting : ℕ) (tag : TagName) (f : Furthest) (c : Chain) (s : StateValue)
    → ElementAt (kinds s.nodes) formatting → FurthestAt (ElementIn s.nodes) f
    → EachOpen (ElementIn s.nodes) c.copies → Sound s → Kept s (finish formatting tag f c s)
finish_kept formatting tag f c s e at copies h =
    kept_new (kind_at s.nodes formatting) (wrap_kinds formatting f.block.node s.nodes)
    (element_no_text (kind_at s.nodes formatting) (element_kind s.nodes formatting e))
    (wrap_forest formatting f.block.node s.nodes h.forest) h here
  where
    whole : List OpenValue
    whole = opened (length s.nodes) (html (known tag)) ∷ f.block ∷ (c.copies ++ s.stack)

    Element : ℕ → Type 0
    Element n = IsElement s.nodes (kind_at s.nodes formatting) n

    all : EachOpen (λ x. Element x.node) (f.inner ++ whole)
    all =
        each_append (λ x. Element x.node) f.inner whole (each_more f.inner (λ x a. inr a) at.inner) (
          inl (refl, element_kind s.nodes formatting e),
          (
            inr at.block,
            each_append (λ x. Element x.node) c.copies s.stack (each_more c.copies (λ x a. inr a) copies)
                (each_open Element s.stack (λ n l. inr (h.held n (as_open l)))),
          ),
        )

    here : (n : ℕ)
        → Held n s.head (with_bookmark formatting (length s.nodes) c.bookmark s.formatting) (f.inner ++ whole)
        → Element n
    here n (as_head l) = inr (h.held n (as_head l))
    here n (as_entry l) =
        ⊎_elim (λ p. inl (p, element_kind s.nodes formatting e)) (λ k. inr (h.held n (as_entry k)))
        (listed_marked n formatting (length s.nodes) c.bookmark s.formatting l)
    here n (as_open l) = open_each Element (f.inner ++ whole) all n l

adopt_kept : (formatting : ℕ) (tag : TagName) (f : Furthest) (s : StateValue) → ElementAt (kinds s.nodes) formatting
    → FurthestAt (ElementIn s.nodes) f → Sound s → Kept s (adopt formatting tag f s)
adopt_kept formatting tag f s e at h =
    kept_then chained.kept (kept_then moved
    (finish_kept formatting tag f made (move_last made.last made.state) (stays formatting e) (record {
      inner = each_more f.inner (λ x. stays x.node) at.inner;
      block = stays f.block.node at.block;
      between = each_more f.between (λ x. stays x.node) at.between;
    }) (each_more made.copies (λ x. moved.stays x.node) chained.copies) moved.sound))
  where
    made : Chain
    made = chain 3 f.between (begin_chain f.block.node s)

    chained : ChainKept s (chain 3 f.between (begin_chain f.block.node s))
    chained =
        (chain_holds (keeping_chain s) 3 f.between (begin_chain f.block.node s)
        (each_more f.between (λ x a. tt) at.between) (record { kept = kept_same h; last = at.block; copies = tt })).1

    moved : Kept made.state (move_last made.last made.state)
    moved = move_kept made.last made.state chained.last chained.kept.sound

    stays : (n : ℕ) → ElementAt (kinds s.nodes) n → ElementAt (kinds (move_last made.last made.state).nodes) n
    stays n a = moved.stays n (chained.kept.stays n a)

-- ---- the rounds

pub found : {A : Type 0} (p : A → Bool) (xs : List A) (x : A) → find p xs ≡ Some x → p x ≡ true
found p [] x e = absurd (cc)
found p (y ∷ xs) x e =
    test (p y) (λ t. let f : Some y ≡ Some x = rw t at e in let same : y ≡ x = cc in rw (sym same) t)
    (λ t. found p xs x (rw t at e))

is_kind : (tag : TagName) (k : KindValue) → kind_is tag k ≡ true → is_element k ≡ true
is_kind tag (element name attributes) e = refl
is_kind tag _ e = absurd (true≢false (sym e))

keeping_steps : (tag : TagName) → AdoptionSteps tag Sound Kept
keeping_steps tag = record {
  same = λ s h. kept_same h;
  after = λ a b. kept_then a b;
  holds = λ k. k.sound;
  removed = λ formatting s h. (without_entry_keeps formatting).keeps s h;
  popped = λ s h e. (on_stack_keeps pop pop_fewer).keeps s h;
  closed = λ s h. (on_stack_keeps (close_name (known tag)) (close_name_fewer (known tag))).keeps s h;
  left_around = λ formatting s h o. (on_stack_keeps (around formatting) (around_fewer formatting)).keeps s h;
  adopts = λ formatting s h o f e.
      adopt_kept formatting tag f (on_stack (around formatting) s) (sym (ap is_element (kind_read s.nodes formatting))
      ∙ is_kind tag (kind_at s.nodes formatting)
      (found (node_is s.nodes tag) (since_marker s.formatting) formatting o.found))
      (furthest_at (ElementIn s.nodes) (inside formatting s.stack) f e
      (each_open (ElementAt (kinds s.nodes)) (inside formatting s.stack)
      (λ n l. h.held n (as_open ((inside_fewer formatting s.stack).opened n l)))))
      (sound_open (around formatting s.stack) (around_fewer formatting s.stack).opened h);
}

pub adoption_agency_keeps : (tag : TagName) → Keeps (adoption_agency tag)
adoption_agency_keeps tag = record { keeps = λ s h. agency_holds (keeping_steps tag) s h }
