-- States in which each text and each element hangs under the Document, and steps that leave it so.
use Rattle.std.proofs.Common.{◌≡◌, ◌∙◌, ℕ, zero, suc, ◌+◌, ◌<◌, Bool, true, false, List, [], ◌∷◌, ◌++◌, length, refl}
use Rattle.std.proofs.Common.{sym, ap, subst, arith, cond, Option, Some, None, inl, inr, ◌⊎◌, ⊎_elim}
use Rattle.std.specs.Prelude.{◌==◌, ◌&&◌, if◌then◌else◌}
use Rattle.std.proofs.lemmas.Bool.{true≢false, eq-eqb, ne_eqb}
use Rattle.std.proofs.lemmas.List.{length-set}
use Rattle.htmd_lexical.proofs.Cases.{test}
use Rattle.htmd_lexical.specs.AttributePairs.{AttributePair}
use Rattle.htmd_html5_state.specs.Names.{ElementNameValue, known, html}
use Rattle.htmd_html5_state.specs.Nodes.{NodeValue, KindValue, text, element, new_node, kind_at, parent_at, children_at}
use Rattle.htmd_html5_state.specs.Nodes.{with_kind, last_in, place_index, add, kind_with_missing, add_missing, add_text}
use Rattle.htmd_html5_state.specs.OpenElements.{OpenValue, is_in, without}
use Rattle.htmd_html5_state.specs.State.{StateValue}
use Rattle.htmd_html5_state.specs.Insertion.{opened, current, place_by_table, foster_place, place, insert_named}
use Rattle.htmd_html5_state.specs.Insertion.{insert_text, open_again}
use Rattle.htmd_html5_state.specs.declared.sets.NameSet.TheVariants.{Only, Fostering}
use Rattle.htmd_html5_state.specs.declared.names.TagName.TheVariants.{Table, Template, Head}
use Rattle.htmd_law_html5.proofs.NodeTexts.{is_element, with_missing_element}
use Rattle.htmd_law_html5.proofs.NamedKinds.{by_text}
use Rattle.htmd_law_html5.proofs.NodeParts.{children_of_kind, parent_of_kind}
use Rattle.htmd_law_html5.proofs.Forests.{IsForest, length_new, forest_add, forest_with_kind}
use Rattle.htmd_law_html5.proofs.HungNodes.{is_solid, element_solid, HangsBy, Hangs, Torn, AllHang, Fits, solid_within}
use Rattle.htmd_law_html5.proofs.HungNodes.{kind_with_new, kind_new_at, holder_within, put_at, put_kind, put_size}
use Rattle.htmd_law_html5.proofs.HungNodes.{put_torn, put_loose, appended_torn, same_hang, either_by}
use Rattle.htmd_law_html5.proofs.OpenNodes.{EachOpen, Below, below_more, below_tail, each_more, Fewer}

-- an open element is an element among the nodes
abbrev pub is_element_open : List NodeValue → OpenValue → Bool
is_element_open nodes e = is_element (kind_at nodes e.node)

abbrev pub ElementOpen : List NodeValue → OpenValue → Type 0
ElementOpen nodes e = is_element_open nodes e ≡ true

-- each text and each element hangs, in an order in which what is open stands too
pub record HungIn (nodes : List NodeValue) (stack : List OpenValue) (head : Option ℕ) : Type 0 where
  pub rank : ℕ → ℕ
  pub limit : ℕ
  pub at_root : rank 0 ≡ 0
  pub order : Below rank limit stack
  pub hangs : AllHang rank nodes
  pub opened_at : EachOpen (ElementOpen nodes) stack
  pub head_at : (n : ℕ) → head ≡ Some n → is_element (kind_at nodes n) ≡ true
  pub forest : IsForest nodes
  pub filled : 0 < length nodes
  pub root : is_solid (kind_at nodes 0) ≡ false

abbrev pub Hung : StateValue → Type 0
Hung s = HungIn s.nodes s.stack s.head

-- others are open, and another is the head
hung_open : {nodes : List NodeValue} {stack es : List OpenValue} {head first : Option ℕ} (limit : ℕ)
    (h : HungIn nodes stack head) → Below h.rank limit es → EachOpen (ElementOpen nodes) es
    → ((n : ℕ) → first ≡ Some n → is_element (kind_at nodes n) ≡ true) → HungIn nodes es first
hung_open limit h order opens head_at = record {
  rank = h.rank;
  limit = limit;
  at_root = h.at_root;
  order = order;
  hangs = h.hangs;
  opened_at = opens;
  head_at = head_at;
  forest = h.forest;
  filled = h.filled;
  root = h.root;
}

pub hung_fewer : {nodes : List NodeValue} {stack : List OpenValue} {head : Option ℕ} (es : List OpenValue)
    → Fewer es stack → HungIn nodes stack head → HungIn nodes es head
hung_fewer {nodes} es f h =
    hung_open h.limit h (f.below h.rank h.limit h.order) (f.each (is_element_open nodes) h.opened_at) h.head_at

pub element_number : (n : ℕ) (nodes : List NodeValue) → is_element (kind_at nodes n) ≡ true → n < length nodes
element_number n nodes e = solid_within n nodes (element_solid (kind_at nodes n) e)

-- ---- ranks

-- mapped, with the same order
pub below_mapped : (f : ℕ → ℕ) → ((a b : ℕ) → a < b → f a < f b) → (rank new : ℕ → ℕ)
    (limit : ℕ) (es : List OpenValue) → EachOpen (λ e. new e.node ≡ f (rank e.node)) es → Below rank limit es
    → Below new (f limit) es
below_mapped f order rank new limit [] same h = tt
below_mapped f order rank new limit (e ∷ es) same h =
    let a = same.0 in
    let b = order (rank e.node) limit h.0 in (
      omega arith,
      subst (λ (x : ℕ). Below new x es) (sym a) (below_mapped f order rank new (rank e.node) es same.1 h.1),
    )

abbrev pub raised : ℕ → ℕ → (ℕ → ℕ) → ℕ → ℕ
raised n v rank m = cond (m == n) v (rank m)

pub raised_own : (n v : ℕ) (rank : ℕ → ℕ) → raised n v rank n ≡ v
raised_own n v rank = rw (eq-eqb n n refl) refl

pub raised_other : (n v : ℕ) (rank : ℕ → ℕ) (m : ℕ) → (m ≡ n → ⊥) → raised n v rank m ≡ rank m
raised_other n v rank m h = rw (ne_eqb m n h) refl

-- the order of numbers before is the same
pub raised_order : (n v : ℕ) (rank : ℕ → ℕ) (a b : ℕ) → a < n → b < n → rank a < rank b
    → raised n v rank a < raised n v rank b
raised_order n v rank a b k l less =
    let i = raised_other n v rank a (λ e. omega arith) in
    let j = raised_other n v rank b (λ e. omega arith) in
    omega arith

pub below_raised : (nodes : List NodeValue) (v : ℕ) (rank : ℕ → ℕ) (limit : ℕ) (es : List OpenValue)
    → EachOpen (ElementOpen nodes) es → Below rank limit es → Below (raised (length nodes) v rank) limit es
below_raised nodes v rank limit es opens h =
    below_mapped (λ n. n) (λ a b l. l) rank (raised (length nodes) v rank) limit es
    (each_more es (λ e o. raised_other (length nodes) v rank e.node
    (λ f. let w = element_number e.node nodes o in omega arith)) opens) h

-- ---- a new node

pub none_out : (rank : ℕ → ℕ) (nodes : List NodeValue) → Torn (λ m. ⊥) rank nodes → AllHang rank nodes
none_out rank nodes torn n s = ⊎_elim (λ o. absurd o) (λ h. h) (torn n s)

abbrev pub added_at : KindValue → ℕ → ℕ → List NodeValue → List NodeValue
added_at k p i nodes = put_at (length nodes) p i (nodes ++ new_node k ∷ [])

added_before : (k : KindValue) (p i : ℕ) (nodes : List NodeValue) (n : ℕ) → n < length nodes
    → kind_at (added_at k p i nodes) n ≡ kind_at nodes n
added_before k p i nodes n l =
    put_kind (length nodes) p i (nodes ++ new_node k ∷ []) n ∙ kind_with_new n k nodes (λ e. omega arith)

added_size : (k : KindValue) (p i : ℕ) (nodes : List NodeValue) → length (added_at k p i nodes)
    ≡ suc (length nodes)
added_size k p i nodes = put_size (length nodes) p i (nodes ++ new_node k ∷ []) ∙ length_new k nodes

elements_stay : (k : KindValue) (p i : ℕ) (nodes : List NodeValue) (n : ℕ) → is_element (kind_at nodes n) ≡ true
    → is_element (kind_at (added_at k p i nodes) n) ≡ true
elements_stay k p i nodes n e = ap is_element (added_before k p i nodes n (element_number n nodes e)) ∙ e

-- the new node is above all that is open
pub record Added (k : KindValue) (nodes new : List NodeValue) (stack : List OpenValue) (head : Option ℕ)
    : Type 0 where
  pub hung : HungIn new stack head
  pub top : hung.rank (length nodes) ≡ hung.limit
  pub kind : kind_at new (length nodes) ≡ k

pub hung_added : (k : KindValue) (p i : ℕ) (nodes : List NodeValue) {stack : List OpenValue} {head : Option ℕ}
    → Fits nodes p → IsForest (added_at k p i nodes) → HungIn nodes stack head
    → Added k nodes (added_at k p i nodes) stack head
hung_added k p i nodes {stack} {head} fits forest h = record {
  hung = record {
    rank = rank;
    limit = suc (h.rank p + h.limit);
    at_root = raised_other (length nodes) _ h.rank 0 (λ e. let f = h.filled in omega arith) ∙ h.at_root;
    order = below_more rank h.limit (suc (h.rank p + h.limit)) stack (omega arith)
        (below_raised nodes (suc (h.rank p + h.limit)) h.rank h.limit stack h.opened_at h.order);
    hangs = none_out rank (added_at k p i nodes)
        (put_torn (λ m. ⊥) rank (length nodes) p i (nodes ++ new_node k ∷ [])
        (appended_torn (λ m. ⊥) h.rank rank k nodes (raised_order (length nodes) _ h.rank)
        (λ m s. inr (h.hangs m s))) (let e = length_new k nodes in omega arith)
        (let e = length_new k nodes in let l = fits.0 in (
          omega arith,
          either_by nodes (nodes ++ new_node k ∷ []) p
              (ap is_element (kind_with_new p k nodes (λ e. omega arith))) fits.1,
        ))
        (let l = fits.0 in
        let a = raised_other (length nodes) (suc (h.rank p + h.limit)) h.rank p (λ e. omega arith) in
        let b = raised_own (length nodes) (suc (h.rank p + h.limit)) h.rank in
        omega arith));
    opened_at = each_more stack (λ e o. elements_stay k p i nodes e.node o) h.opened_at;
    head_at = λ n e. elements_stay k p i nodes n (h.head_at n e);
    forest = forest;
    filled = let e = added_size k p i nodes in omega arith;
    root = ap is_solid (added_before k p i nodes 0 h.filled) ∙ h.root;
  };
  top = raised_own (length nodes) (suc (h.rank p + h.limit)) h.rank;
  kind = put_kind (length nodes) p i (nodes ++ new_node k ∷ []) (length nodes) ∙ kind_new_at k nodes;
}
  where
    rank : ℕ → ℕ
    rank = raised (length nodes) (suc (h.rank p + h.limit)) h.rank

-- and so it may be open
pub hung_opened : (name : ElementNameValue) (attributes : List AttributePair) (nodes : List NodeValue)
    {new : List NodeValue} {stack : List OpenValue} {head : Option ℕ}
    → Added (element name attributes) nodes new stack head → HungIn new (opened (length nodes) name ∷ stack) head
hung_opened name attributes nodes {new} {stack} a =
    hung_open (suc a.hung.limit) a.hung
    (let e = a.top in omega arith, subst (λ (x : ℕ). Below a.hung.rank x stack) (sym a.top) a.hung.order)
    (ap is_element a.kind, a.hung.opened_at) a.hung.head_at

-- what is neither text nor element hangs anywhere
pub hung_last : (k : KindValue) (p : ℕ) (nodes : List NodeValue) {stack : List OpenValue} {head : Option ℕ}
    → is_solid k ≡ false → HungIn nodes stack head → HungIn (add k (last_in p) nodes) stack head
hung_last k p nodes {stack} {head} loose h = record {
  rank = h.rank;
  limit = h.limit;
  at_root = h.at_root;
  order = h.order;
  hangs = put_loose h.rank (length nodes) p i (nodes ++ new_node k ∷ []) (ap is_solid (kind_new_at k nodes) ∙ loose)
      (λ m s. ⊎_elim (⊎_elim (λ e. absurd (true≢false (sym s ∙ (ap (λ (x : ℕ). is_solid
      (kind_at (nodes ++ new_node k ∷ []) x)) e ∙ (ap is_solid (kind_new_at k nodes) ∙ loose)))))
      (λ o. absurd o))
      (λ g. g) (appended_torn (λ m. ⊥) h.rank h.rank k nodes (λ a b i j l. l) (λ m s. inr (h.hangs m s)) m s));
  opened_at = each_more stack (λ e o. elements_stay k p i nodes e.node o) h.opened_at;
  head_at = λ n e. elements_stay k p i nodes n (h.head_at n e);
  forest = forest_add k (last_in p) nodes h.forest;
  filled = let e = added_size k p i nodes in omega arith;
  root = ap is_solid (added_before k p i nodes 0 h.filled) ∙ h.root;
}
  where
    i : ℕ
    i = length (children_at (nodes ++ new_node k ∷ []) p)

-- ---- what a node is changes, but not what it is like

with_kind_like : (f : KindValue → Bool) (n : ℕ) (k : KindValue) (nodes : List NodeValue) (m : ℕ)
    → f k ≡ f (kind_at nodes n) → f (kind_at (with_kind n k nodes) m) ≡ f (kind_at nodes m)
with_kind_like f n k [] m e = refl
with_kind_like f zero k (x ∷ nodes) zero e = e
with_kind_like f zero k (x ∷ nodes) (suc m) e = refl
with_kind_like f (suc n) k (x ∷ nodes) zero e = refl
with_kind_like f (suc n) k (x ∷ nodes) (suc m) e = with_kind_like f n k nodes m e

pub hung_like : (n : ℕ) (k : KindValue) (nodes : List NodeValue) {stack : List OpenValue} {head : Option ℕ}
    → is_solid k ≡ is_solid (kind_at nodes n) → is_element k ≡ is_element (kind_at nodes n)
    → HungIn nodes stack head → HungIn (with_kind n k nodes) stack head
hung_like n k nodes {stack} solid same h = record {
  rank = h.rank;
  limit = h.limit;
  at_root = h.at_root;
  order = h.order;
  hangs = same_hang h.rank nodes (with_kind n k nodes) (λ m. with_kind_like is_solid n k nodes m solid)
      (λ m. with_kind_like is_element n k nodes m same) (λ m. parent_of_kind n m k nodes)
      (λ m. children_of_kind n m k nodes) h.hangs;
  opened_at = each_more stack (λ e o. with_kind_like is_element n k nodes e.node same ∙ o) h.opened_at;
  head_at = λ m e. with_kind_like is_element n k nodes m same ∙ h.head_at m e;
  forest = forest_with_kind n k nodes h.forest;
  filled =
      let e : length (with_kind n k nodes) ≡ length nodes = length-set nodes n _ in
      let f = h.filled in
      omega arith;
  root = with_kind_like is_solid n k nodes 0 solid ∙ h.root;
}

missing_solid : (more : List AttributePair) (k : KindValue) → is_solid (kind_with_missing more k) ≡ is_solid k
missing_solid more (element name attributes) = refl
missing_solid more _ = refl

pub hung_missing : (n : ℕ) (more : List AttributePair) (nodes : List NodeValue) {stack : List OpenValue}
    {head : Option ℕ} → HungIn nodes stack head → HungIn (add_missing n more nodes) stack head
hung_missing n more nodes h =
    hung_like n (kind_with_missing more (kind_at nodes n)) nodes (missing_solid more (kind_at nodes n))
    (with_missing_element more (kind_at nodes n)) h

-- ---- places

-- a place is in the Document or in an element, and below all that is open
pub record PlaceOk (rank : ℕ → ℕ) (nodes : List NodeValue) (stack : List OpenValue) (p : ℕ) : Type 0 where
  pub fits : Fits nodes p
  pub low : (bound : ℕ) → Below rank bound stack → 0 < bound → rank p < bound

abbrev pub HangsOpen : (ℕ → ℕ) → List NodeValue → OpenValue → Type 0
HangsOpen rank nodes e = ElementOpen nodes e × Hangs rank nodes e.node

module _ (rank : ℕ → ℕ) (nodes : List NodeValue) (at_root : rank 0 ≡ 0) (filled : 0 < length nodes)
    (root : is_solid (kind_at nodes 0) ≡ false) where
  in_document : (stack : List OpenValue) → PlaceOk rank nodes stack 0
  in_document stack = record { fits = (filled, inl refl); low = λ bound b l. let e = at_root in omega arith }

  in_element : (e : OpenValue) (es : List OpenValue) → ElementOpen nodes e → PlaceOk rank nodes (e ∷ es) e.node
  in_element e es o = record { fits = (element_number e.node nodes o, inr o); low = λ bound b l. b.0 }

  by_table : (e f : OpenValue) (es : List OpenValue) (parent : Option ℕ) → parent_at nodes e.node ≡ parent
      → HangsOpen rank nodes e → ElementOpen nodes f
      → PlaceOk rank nodes (e ∷ f ∷ es) (place_by_table e.node f.node parent).parent
  by_table e f es None q h o = record {
    fits = (element_number f.node nodes o, inr o);
    low = λ bound b l. let x = b.0 in let y = b.1.0 in omega arith;
  }
  by_table e f es (Some p) q h o =
      ⊎_elim (λ z. absurd (true≢false (sym (element_solid (kind_at nodes e.node) h.0)
      ∙ (ap (λ (x : ℕ). is_solid (kind_at nodes x)) z ∙ root))))
      (λ (g : HangsBy rank nodes e.node). let both = sym g.parent ∙ q in
      let same : g.by ≡ p = cc in
      let less = g.less in
      subst (λ (x : ℕ). PlaceOk rank nodes (e ∷ f ∷ es) x) same (record {
        fits = (holder_within rank nodes e.node g, g.holder.either);
        low = λ bound b l. let x = b.0 in omega arith;
      })) h.1

  pub foster_ok : (stack : List OpenValue) → EachOpen (HangsOpen rank nodes) stack
      → PlaceOk rank nodes stack (foster_place nodes stack).parent
  foster_ok [] h = in_document []
  foster_ok (e ∷ []) h = in_element e [] h.0.0
  foster_ok (e ∷ f ∷ es) h =
      let later = foster_ok (f ∷ es) h.1 in
      test (is_in (Only Template) e) (λ t. rw t (in_element e (f ∷ es) h.0.0)) (λ t. test (is_in (Only Table) e)
      (λ u. rw (t, u) (by_table e f es (parent_at nodes e.node) refl h.0 h.1.0.0))
      (λ u. rw (t, u) (record {
        fits = later.fits;
        low = λ bound b l. later.low bound (below_tail rank bound e (f ∷ es) b) l;
      })))

  pub current_ok : (stack : List OpenValue) → EachOpen (HangsOpen rank nodes) stack
      → PlaceOk rank nodes stack (current stack).node
  current_ok [] h = in_document []
  current_ok (e ∷ es) h = in_element e es h.0.0

pub place_ok : (rank : ℕ → ℕ) (s : StateValue) → rank 0 ≡ 0 → 0 < length s.nodes
    → is_solid (kind_at s.nodes 0) ≡ false → EachOpen (HangsOpen rank s.nodes) s.stack
    → PlaceOk rank s.nodes s.stack (place s).parent
place_ok rank s at_root filled root h =
    either (s.foster_parenting && is_in Fostering (current s.stack))
  where
    either : (b : Bool) → PlaceOk rank s.nodes s.stack
        (if b then foster_place s.nodes s.stack else last_in (current s.stack).node).parent
    either true = foster_ok rank s.nodes at_root filled root s.stack h
    either false = current_ok rank s.nodes at_root filled root s.stack h

pub opens_hang : {nodes : List NodeValue} {stack : List OpenValue} {head : Option ℕ} (h : HungIn nodes stack head)
    → EachOpen (HangsOpen h.rank nodes) stack
opens_hang {nodes} {stack} h =
    each_more stack (λ e o. (o, h.hangs e.node (element_solid (kind_at nodes e.node) o))) h.opened_at

pub fits_place : (s : StateValue) → Hung s → Fits s.nodes (place s).parent
fits_place s h = (place_ok h.rank s h.at_root h.filled h.root (opens_hang h)).fits

-- ---- what is inserted

pub hung_named : (name : ElementNameValue) (attributes : List AttributePair) (s : StateValue) → Hung s
    → Hung (insert_named name attributes s)
hung_named name attributes s h =
    hung_opened name attributes s.nodes (hung_added (element name attributes) (place s).parent
    (place_index (place s).next (children_at (s.nodes ++ new_node (element name attributes) ∷ []) (place s).parent))
    s.nodes (fits_place s h) (forest_add (element name attributes) (place s) s.nodes h.forest) h)

pub hung_under_root : (name : ElementNameValue) (attributes : List AttributePair) (nodes : List NodeValue)
    {stack : List OpenValue} {head : Option ℕ} → HungIn nodes stack head
    → HungIn (add (element name attributes) (last_in 0) nodes) (opened (length nodes) name ∷ stack) head
hung_under_root name attributes nodes h =
    hung_opened name attributes nodes (hung_added (element name attributes) 0
    (length (children_at (nodes ++ new_node (element name attributes) ∷ []) 0)) nodes (h.filled, inl refl)
    (forest_add (element name attributes) (last_in 0) nodes h.forest) h)

pub hung_joined : (t : List ℕ) (at : _) (nodes : List NodeValue) {stack : List OpenValue} {head : Option ℕ}
    → HungIn (add (text t) at nodes) stack head → HungIn nodes stack head
    → HungIn (add_text t at nodes) stack head
hung_joined t at nodes {stack} {head} added h = by_text (λ new. HungIn new stack head) t at nodes added
    (λ n before p e. hung_like n (text (before ++ t)) nodes (sym (ap is_solid e)) (sym (ap is_element e)) h)

pub hung_text : (t : List ℕ) (s : StateValue) → Hung s → Hung (insert_text t s)
hung_text t s h =
    hung_joined t (place s) s.nodes (hung_added (text t) (place s).parent
    (place_index (place s).next (children_at (s.nodes ++ new_node (text t) ∷ []) (place s).parent)) s.nodes
    (fits_place s h) (forest_add (text t) (place s) s.nodes h.forest) h).hung h

pub hung_headed : (m : ℕ) {nodes : List NodeValue} {stack : List OpenValue} {head : Option ℕ}
    → is_element (kind_at nodes m) ≡ true → HungIn nodes stack head → HungIn nodes stack (Some m)
hung_headed m {nodes} e h =
    hung_open h.limit h h.order h.opened_at
    (λ n f. let same : m ≡ n = cc in subst (λ (x : ℕ). is_element (kind_at nodes x) ≡ true) same e)

-- ---- an element of the head that comes after it, while the head is open once more

late_added : (name : ElementNameValue) (attributes : List AttributePair) (n : ℕ) (s : StateValue)
    → is_element (kind_at s.nodes n) ≡ true → Hung s → Added (element name attributes) s.nodes
    (add (element name attributes) (place (open_again n (known Head) s)) s.nodes) s.stack s.head
late_added name attributes n s e h =
    hung_added (element name attributes) (place (open_again n (known Head) s)).parent
    (place_index (place (open_again n (known Head) s)).next
    (children_at (s.nodes ++ new_node (element name attributes) ∷ []) (place (open_again n (known Head) s)).parent))
    s.nodes (place_ok h.rank (open_again n (known Head) s) h.at_root h.filled h.root
    ((e, h.hangs n (element_solid (kind_at s.nodes n) e)), opens_hang h)).fits
    (forest_add (element name attributes) (place (open_again n (known Head) s)) s.nodes h.forest) h

pub hung_late_void : (name : ElementNameValue) (attributes : List AttributePair) (n : ℕ) (s : StateValue)
    → is_element (kind_at s.nodes n) ≡ true → Hung s
    → HungIn (add (element name attributes) (place (open_again n (known Head) s)) s.nodes)
    (without n (opened n (html (known Head)) ∷ s.stack)) s.head
hung_late_void name attributes n s e h = rw (eq-eqb n n refl) (late_added name attributes n s e h).hung

pub hung_late_open : (name : ElementNameValue) (attributes : List AttributePair) (n : ℕ) (s : StateValue)
    → is_element (kind_at s.nodes n) ≡ true → Hung s
    → HungIn (add (element name attributes) (place (open_again n (known Head) s)) s.nodes)
    (without n (opened (length s.nodes) name ∷ opened n (html (known Head)) ∷ s.stack)) s.head
hung_late_open name attributes n s e h =
    rw (ne_eqb (length s.nodes) n (λ f. let w = element_number n s.nodes e in omega arith), eq-eqb n n refl)
    (hung_opened name attributes s.nodes (late_added name attributes n s e h))
