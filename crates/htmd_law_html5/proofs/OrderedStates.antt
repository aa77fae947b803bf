-- States in which the letters stand in order, and steps that leave them so.
use Rattle.std.proofs.Common.{◌≡◌, ℕ, ◌<◌, ◌≤◌, Bool, true, false, List, [], ◌∷◌, ◌++◌, length, refl, sym, subst, arith}
use Rattle.std.proofs.Common.{Option, ◌∙◌}
use Rattle.std.proofs.lemmas.Bool.{cond_both}
use Rattle.std.specs.Prelude.{if◌then◌else◌, IsUtf8}
use Rattle.htmd_lexical.specs.AttributePairs.{AttributePair}
use Rattle.htmd_lexical.specs.declared.content_model.RawElement.{RawElement}
use Rattle.htmd_html5_state.specs.Names.{NameValue, ElementNameValue, html}
use Rattle.htmd_html5_state.specs.Nodes.{KindValue, NodeValue, text, comment, element, kind_at, last_in, add, add_text}
use Rattle.htmd_html5_state.specs.Nodes.{add_missing, kind_with_missing}
use Rattle.htmd_html5_state.specs.OpenElements.{OpenValue, pop}
use Rattle.htmd_html5_state.specs.State.{StateValue, on_nodes, on_stack, on_formatting}
use Rattle.htmd_html5_state.specs.Foreign.{foreign_name, foreign_attributes, pop_if, insert_foreign}
use Rattle.htmd_html5_state.specs.Insertion.{opened, current, place, insert_named, insert_element, insert_void}
use Rattle.htmd_html5_state.specs.Insertion.{insert_raw, insert_text, insert_comment_in, insert_comment}
use Rattle.htmd_html5_state.specs.Formatting.{push_marker, clear_to_marker, without_entry, insert_formatting}
use Rattle.htmd_html5_state.specs.Formatting.{insert_like, reconstruct}
use Rattle.htmd_html5_state.specs.declared.names.Namespace.{Namespace}
use Rattle.htmd_law_html5.proofs.OpenNodes.{EachOpen, Below, each_more, Fewer, pop_fewer, pop_if_fewer}
use Rattle.htmd_law_html5.proofs.HungStates.{ElementOpen, HungIn, Hung, element_number, hung_named}
use Rattle.htmd_law_html5.proofs.HungAdoption.{below_each, each_both}
use Rattle.htmd_law_html5.proofs.PlainNames.{is_plain_name, is_plain_element, foreign_is_plain}
use Rattle.htmd_law_html5.proofs.PlainStates.{Plain, Stays, then_stays, still, stays_by_test, stays_by_state}
use Rattle.htmd_law_html5.proofs.PlainStates.{on_stack_stays, insert_named_stays, insert_raw_stays}
use Rattle.htmd_law_html5.proofs.PlainStates.{insert_comment_in_stays, add_missing_stays, without_entry_stays}
use Rattle.htmd_law_html5.proofs.PlainStates.{push_marker_stays, clear_to_marker_stays, insert_formatting_stays}
use Rattle.htmd_law_html5.proofs.PlainStates.{reconstruct_stays}
use Rattle.htmd_law_html5.proofs.KeepingInsertion.{reconstructed}
use Rattle.htmd_law_html5.proofs.OrderedNodes.{bears, Labels, FitsBy, none_out, Ranked}
use Rattle.htmd_law_html5.proofs.OrderedTexts.{loose_added, element_added, text_put, fits_like}
use Rattle.htmd_law_html5.proofs.Counted.{Choice, counted_of}

module _ (choice : Choice) where
  -- ---- states

  -- the letters stand in order among the nodes, and what is open is live
  pub record OrderedIn (letters : List ℕ) (nodes : List NodeValue) (stack : List OpenValue) (fosters : Bool)
      : Type 0 where
    pub labels : Labels
    pub fits : FitsBy choice none_out letters nodes labels
    pub root : labels.live 0 ≡ true
    pub opens : EachOpen (λ e. labels.live e.node ≡ true) stack
    pub no_fostering : fosters ≡ false

  abbrev pub Ordered : List ℕ → StateValue → Type 0
  Ordered letters s = OrderedIn letters s.nodes s.stack s.foster_parenting

module _ (choice : Choice) where
  -- a step that leaves the letters in order
  pub record Orders (f : StateValue → StateValue) : Type 0 where
    pub stays : Stays f
    pub orders : (letters : List ℕ) (s : StateValue) → Plain s → Hung s → Ordered choice letters s
        → Ordered choice letters (f s)

  -- ---- steps put together

  pub then_orders : {f g : StateValue → StateValue} → Orders f → Orders g → Orders (λ s. f (g s))
  then_orders {f} {g} first second = record {
    stays = then_stays first.stays second.stays;
    orders = λ letters s h x o. first.orders letters (g s) (second.stays.stays s h) (second.stays.hangs s h x)
        (second.orders letters s h x o);
  }

  pub unmoved : Orders (λ s. s)
  unmoved = record { stays = still; orders = λ letters s h x o. o }

  pub orders_by_test : {f g : StateValue → StateValue} (b : StateValue → Bool) → Orders f → Orders g
      → Orders (λ s. if b s then f s else g s)
  orders_by_test {f} {g} b first second = record {
    stays = stays_by_test b first.stays second.stays;
    orders = λ letters s h x o. cond_both (b s) _ _ (λ x. Ordered choice letters x)
        (λ e. first.orders letters s h x o) (λ e. second.orders letters s h x o);
  }

  pub orders_by_state : {A : Type 0} {f : A → StateValue → StateValue} (a : StateValue → A)
      → ((x : A) → Orders (f x)) → Orders (λ s. f (a s) s)
  orders_by_state a h = record {
    stays = stays_by_state a (λ x. (h x).stays);
    orders = λ letters s plain x o. (h (a s)).orders letters s plain x o;
  }

  -- ---- parts of a state changed

  pub ordered_fewer : {letters : List ℕ} {nodes : List NodeValue} {stack : List OpenValue} {fosters : Bool}
      (es : List OpenValue) → Fewer es stack → OrderedIn choice letters nodes stack fosters
      → OrderedIn choice letters nodes es fosters
  ordered_fewer es f o = record {
    labels = o.labels;
    fits = o.fits;
    root = o.root;
    opens = f.each (λ e. o.labels.live e.node) o.opens;
    no_fostering = o.no_fostering;
  }

  pub on_stack_orders : (f : List OpenValue → List OpenValue) → ((stack : List OpenValue) → Fewer (f stack) stack)
      → Orders (on_stack f)
  on_stack_orders f fewer = record {
    stays = on_stack_stays f fewer;
    orders = λ letters s h x o. ordered_fewer (f s.stack) (fewer s.stack) o;
  }

pub ranked_of : {nodes : List NodeValue} {stack : List OpenValue} {head : Option ℕ} (h : HungIn nodes stack head)
    → Ranked h.rank nodes
ranked_of h = record { hangs = h.hangs; forest = h.forest; root = h.root }

-- ---- the current node

pub low_ranks : (rank : ℕ → ℕ) (limit : ℕ) (stack : List OpenValue) → Below rank limit stack
    → EachOpen (λ e. rank e.node ≤ rank (current stack).node) stack
low_ranks rank limit [] h = tt
low_ranks rank limit (e ∷ es) h =
    (omega arith, each_more es (λ x l. omega arith) (below_each rank (rank e.node) es h.1))

pub current_within : {nodes : List NodeValue} {head : Option ℕ} (stack : List OpenValue)
    → HungIn nodes stack head → (current stack).node < length nodes
current_within [] h = h.filled
current_within {nodes} (e ∷ es) h = element_number e.node nodes h.opened_at.0

pub current_live : (live : ℕ → Bool) (stack : List OpenValue) → live 0 ≡ true
    → EachOpen (λ e. live e.node ≡ true) stack → live (current stack).node ≡ true
current_live live [] root opens = root
current_live live (e ∷ es) root opens = opens.0

-- no node is put before a table
pub place_last : (s : StateValue) → s.foster_parenting ≡ false → place s ≡ last_in (current s.stack).node
place_last s e = rw e refl

-- what is open is live still
pub opens_still : (old new : ℕ → Bool) (rank : ℕ → ℕ) (p : ℕ) (nodes : List NodeValue)
    (stack : List OpenValue)
    → ((m : ℕ) → m < length nodes → old m ≡ true → rank m ≤ rank p → new m ≡ true)
    → EachOpen (ElementOpen nodes) stack → EachOpen (λ e. rank e.node ≤ rank p) stack
    → EachOpen (λ e. old e.node ≡ true) stack → EachOpen (λ e. new e.node ≡ true) stack
opens_still old new rank p nodes stack still at low opens =
    each_more stack (λ e x. still e.node (element_number e.node nodes x.0) x.1.0 x.1.1)
    (each_both (ElementOpen nodes) (λ e. (old e.node ≡ true) × (rank e.node ≤ rank p)) stack at
    (each_both (λ e. old e.node ≡ true) (λ e. rank e.node ≤ rank p) stack opens low))

pub stack_still : (old new : ℕ → Bool) (nodes : List NodeValue) (stack : List OpenValue)
    → ((m : ℕ) → m < length nodes → old m ≡ true → new m ≡ true) → EachOpen (ElementOpen nodes) stack
    → EachOpen (λ e. old e.node ≡ true) stack → EachOpen (λ e. new e.node ≡ true) stack
stack_still old new nodes stack still at opens =
    each_more stack (λ e x. still e.node (element_number e.node nodes x.0) x.1)
    (each_both (ElementOpen nodes) (λ e. old e.node ≡ true) stack at opens)

module _ (choice : Choice) {letters : List ℕ} {nodes : List NodeValue} {stack : List OpenValue} {head : Option ℕ}
    {fosters : Bool} where
  -- ---- what is inserted

  -- an element at the end of a live node, with what is open around it
  pub element_in : (name : ElementNameValue) (attributes : List AttributePair) (p : ℕ) (h : HungIn nodes stack head)
      (o : OrderedIn choice letters nodes stack fosters) → p < length nodes → o.labels.live p ≡ true
      → EachOpen (λ e. h.rank e.node ≤ h.rank p) stack
      → OrderedIn choice letters (add (element name attributes) (last_in p) nodes) (opened (length nodes) name
      ∷ stack) fosters
  element_in name attributes p h o within live low =
      let g = element_added choice h.rank letters nodes o.labels o.fits (ranked_of h) p within live
      (element name attributes) refl in
      record {
        labels = g.labels;
        fits = g.fits;
        root = g.still 0 h.filled o.root (let z = h.at_root in omega arith);
        opens = (
          g.opened_new,
          opens_still o.labels.live g.labels.live h.rank p nodes stack g.still h.opened_at low o.opens,
        );
        no_fostering = o.no_fostering;
      }

  -- what bears no letter may be put at the end of any node
  pub loose_in : (k : KindValue) (p : ℕ) → HungIn nodes stack head → OrderedIn choice letters nodes stack fosters
      → p < length nodes → bears choice k ≡ false → ((t : List ℕ) → k ≡ text t → ⊥)
      → OrderedIn choice letters (add k (last_in p) nodes) stack fosters
  loose_in k p h o within e none =
      let g = loose_added choice h.rank letters nodes o.labels o.fits (ranked_of h) p within k e
      (λ t f. absurd (none t f)) in
      record {
        labels = g.labels;
        fits = g.fits;
        root = g.still 0 h.filled o.root;
        opens = stack_still o.labels.live g.labels.live nodes stack g.still h.opened_at o.opens;
        no_fostering = o.no_fostering;
      }

module _ (choice : Choice) where
  named_ordered : (letters : List ℕ) (name : ElementNameValue) (attributes : List AttributePair) (s : StateValue)
      → Hung s → Ordered choice letters s → Ordered choice letters (insert_named name attributes s)
  named_ordered letters name attributes s h o =
      subst (λ (at : _). OrderedIn choice letters (add (element name attributes) at s.nodes)
      (opened (length s.nodes) name ∷ s.stack) s.foster_parenting) (sym (place_last s o.no_fostering))
      (element_in choice name attributes (current s.stack).node h o (current_within s.stack h)
      (current_live o.labels.live s.stack o.root o.opens) (low_ranks h.rank h.limit s.stack h.order))

  pub insert_named_orders : (name : ElementNameValue) (attributes : List AttributePair) → is_plain_element name
      ≡ true → Orders choice (insert_named name attributes)
  insert_named_orders name attributes p = record {
    stays = insert_named_stays name attributes p;
    orders = λ letters s h x o. named_ordered letters name attributes s x o;
  }

  pub insert_element_orders : (name : NameValue) (attributes : List AttributePair) → is_plain_name name ≡ true
      → Orders choice (insert_element name attributes)
  insert_element_orders name attributes p = insert_named_orders (html name) attributes p

  pub insert_void_orders : (name : NameValue) (attributes : List AttributePair) → is_plain_name name ≡ true
      → Orders choice (insert_void name attributes)
  insert_void_orders name attributes p =
      then_orders choice (on_stack_orders choice pop pop_fewer) (insert_element_orders name attributes p)

  pub insert_raw_orders : (name : NameValue) (raw : RawElement) (attributes : List AttributePair)
      → is_plain_name name ≡ true → Orders choice (insert_raw name raw attributes)
  insert_raw_orders name raw attributes p = record {
    stays = insert_raw_stays name raw attributes p;
    orders = λ letters s h x o. (insert_element_orders name attributes p).orders letters s h x o;
  }

  pub insert_foreign_orders : (space : Namespace) (name : List ℕ) (attributes : List AttributePair) (closes : Bool)
      → Orders choice (insert_foreign space name attributes closes)
  insert_foreign_orders space name attributes closes =
      then_orders choice (on_stack_orders choice (pop_if closes) (pop_if_fewer closes))
      (insert_named_orders (foreign_name space name) (foreign_attributes space attributes)
      (foreign_is_plain space name))

pub no_text : (c t : List ℕ) → comment c ≡ text t → ⊥
no_text c t e = cc

module _ (choice : Choice) where
  pub insert_comment_orders : (c : List ℕ) → Orders choice (insert_comment c)
  insert_comment_orders c = record {
    stays = stays_by_state (λ s. (current s.stack).node) (λ n. insert_comment_in_stays n c);
    orders = λ letters s h x o. loose_in choice (comment c) (current s.stack).node x o (current_within s.stack x) refl
        (no_text c);
  }

  pub insert_comment_root_orders : (c : List ℕ) → Orders choice (insert_comment_in 0 c)
  insert_comment_root_orders c = record {
    stays = insert_comment_in_stays 0 c;
    orders = λ letters s h x o. loose_in choice (comment c) 0 x o x.filled refl (no_text c);
  }

  -- ---- attributes that an element lacks

  missing_bears : (more : List AttributePair) (k : KindValue) → bears choice (kind_with_missing more k)
      ≡ bears choice k
  missing_bears more (element name attributes) = refl
  missing_bears more _ = refl

missing_text : (more : List AttributePair) (k : KindValue) (t : List ℕ) → kind_with_missing more k ≡ text t
    → k ≡ text t
missing_text more (element name attributes) t e = absurd (cc)
missing_text more _ t e = e

module _ (choice : Choice) where
  pub missing_ordered : {letters : List ℕ} {nodes : List NodeValue} {stack : List OpenValue} {fosters : Bool}
      (n : ℕ) (more : List AttributePair) → OrderedIn choice letters nodes stack fosters
      → OrderedIn choice letters (add_missing n more nodes) stack fosters
  missing_ordered {letters} {nodes} n more o = record {
    labels = o.labels;
    fits = fits_like choice n (kind_with_missing more (kind_at nodes n)) letters nodes o.labels
        (λ b. sym (missing_bears choice more (kind_at nodes n)) ∙ b) o.fits
        (λ t e. o.fits.texts n t (missing_text more (kind_at nodes n) t e));
    root = o.root;
    opens = o.opens;
    no_fostering = o.no_fostering;
  }

  pub add_missing_orders : (n : ℕ) (more : List AttributePair) → Orders choice (on_nodes (add_missing n more))
  add_missing_orders n more =
      record { stays = add_missing_stays n more; orders = λ letters s h x o. missing_ordered n more o }

  -- ---- the list of active formatting elements

  pub without_entry_orders : (n : ℕ) → Orders choice (on_formatting (without_entry n))
  without_entry_orders n =
      record { stays = without_entry_stays n; orders = λ letters s h x o. o }

  pub push_marker_orders : Orders choice push_marker
  push_marker_orders = record { stays = push_marker_stays; orders = λ letters s h x o. o }

  pub clear_to_marker_orders : Orders choice clear_to_marker
  clear_to_marker_orders = record { stays = clear_to_marker_stays; orders = λ letters s h x o. o }

  pub insert_formatting_orders : (name : NameValue) (attributes : List AttributePair) → is_plain_name name ≡ true
      → Orders choice (insert_formatting name attributes)
  insert_formatting_orders name attributes p = record {
    stays = insert_formatting_stays name attributes p;
    orders = λ letters s h x o. (insert_element_orders choice name attributes p).orders letters s h x o;
  }

  -- ---- elements are reconstructed

  like_ordered : (letters : List ℕ) (s : StateValue) (k : KindValue) → Hung s × Ordered choice letters s
      → Hung (insert_like k s) × Ordered choice letters (insert_like k s)
  like_ordered letters s (element name attributes) h =
      (hung_named name attributes s h.0, named_ordered choice letters name attributes s h.0 h.1)
  like_ordered letters s _ h = h

  pub reconstruct_orders : Orders choice reconstruct
  reconstruct_orders = record {
    stays = reconstruct_stays;
    orders = λ letters s h x o. (reconstructed (λ n. Unit {0}) (λ t. Hung t × Ordered choice letters t) s
        (λ n l. tt) (x, o) (λ n t q g. like_ordered letters t (kind_at t.nodes n) g)).1;
  }

  -- ---- text

  -- its letters stand after all others then
  pub text_ordered : (letters t : List ℕ) (s : StateValue) → IsUtf8 t → Hung s → Ordered choice letters s
      → Ordered choice (letters ++ counted_of choice t) (insert_text t s)
  text_ordered letters t s u h o =
      subst (λ (at : _). OrderedIn choice (letters ++ counted_of choice t) (add_text t at s.nodes) s.stack
      s.foster_parenting) (sym (place_last s o.no_fostering))
      (let p = (current s.stack).node in
      let g = text_put choice h.rank letters s.nodes o.labels o.fits (ranked_of h) p (current_within s.stack h)
      (current_live o.labels.live s.stack o.root o.opens) t u in
      record {
        labels = g.labels;
        fits = g.fits;
        root = g.still 0 h.filled o.root (let z = h.at_root in omega arith);
        opens = opens_still o.labels.live g.labels.live h.rank p s.nodes s.stack g.still h.opened_at
            (low_ranks h.rank h.limit s.stack h.order) o.opens;
        no_fostering = o.no_fostering;
      })
