-- Where a document is in one piece, the texts of the tree hold what those of its nodes hold.
use Rattle.std.proofs.Common.{◌≡◌, ◌∙◌, ℕ, zero, suc, ◌+◌, ◌≤◌, Bool, true, false, List, [], ◌∷◌, ◌++◌, length, refl}
use Rattle.std.proofs.Common.{sym, ap, subst, arith, cond, map, Option, Some, None, inl, inr, ◌⊎◌, ⊎_elim}
use Rattle.std.proofs.Common.{length-append}
use Rattle.std.specs.Prelude.{◌==◌, ◌||◌, not, is_some, if◌then◌else◌}
use Rattle.std.specs.List.{list_any}
use Rattle.std.proofs.lemmas.Bool.{true≢false, and_parts, or_cases, eqb-true}
use Rattle.htmd_lexical.proofs.Cases.{test}
use Rattle.htmd_html5_state.specs.Names.{text_of_element_name}
use Rattle.htmd_html5_state.specs.Nodes.{KindValue, NodeValue, document, doctype, text, comment, element, kind_at}
use Rattle.htmd_html5_state.specs.Nodes.{node_at, children_at, parent_at, with_kind, text_of, is_number}
use Rattle.htmd_html5.specs.Layout.{Coming, coming, Layout, next_texts, with_text, with_kind_of, without_node}
use Rattle.htmd_nodes.specs.Items.{Item, Data, doctype_node, text_node, comment_node, element_node, new_item}
use Rattle.htmd_law_html5.specs.PageLetters.{occurrences}
use Rattle.htmd_law_html5.specs.KeptLetters.{is_element_kind, holds_node, hangs_by, hangs, texts_hang}
use Rattle.htmd_law_html5.proofs.NodeTexts.{is_element}
use Rattle.htmd_law_html5.proofs.NodeParts.{times, times_append, some_times, children_of_kind}
use Rattle.htmd_law_html5.proofs.TextsPut.{occurs_append}
use Rattle.htmd_law_html5.proofs.NodeWeights.{TextsUtf8, marked_utf8, in_data, in_kind, in_items, item_more, weigh}
use Rattle.htmd_law_html5.proofs.NodeWeights.{weigh_work, under, under_all, weigh_append, weigh_coming, weigh_unmarked}
use Rattle.htmd_law_html5.proofs.NodeWeights.{under_marked, joined_same}
use Rattle.htmd_law_html5.proofs.LaidTexts.{in_layout}
use Rattle.htmd_law_html5.proofs.PendingNodes.{numbers, numbers_coming, own_children, element_children, times_marked}
use Rattle.htmd_law_html5.proofs.PendingNodes.{length_marked, after_fewer, after_shorter, elements_stay}

pub kind_same : (n : ℕ) (nodes : List NodeValue) → kind_at (with_kind n document nodes) n ≡ document
kind_same n [] = refl
kind_same zero (x ∷ nodes) = refl
kind_same (suc n) (x ∷ nodes) = kind_same n nodes

element_same : (k : KindValue) → is_element_kind k ≡ is_element k
element_same (element name attributes) = refl
element_same _ = refl

-- ---- a node that another holds

pub record Holder (nodes : List NodeValue) (p n : ℕ) : Type 0 where
  pub either : (p ≡ 0) ⊎ (is_element (kind_at nodes p) ≡ true)
  pub stands : 1 ≤ times n (children_at nodes p)

holder_of : (nodes : List NodeValue) (p n : ℕ) → holds_node nodes p n ≡ true → Holder nodes p n
holder_of nodes p n e =
    let both = and_parts (p == 0 || is_element_kind (kind_at nodes p))
    (list_any (is_number n) (children_at nodes p)) e in
    record {
      either = ⊎_elim (λ t. inl (eqb-true p 0 t)) (λ t. inr (sym (element_same (kind_at nodes p)) ∙ t))
          (or_cases (p == 0) (is_element_kind (kind_at nodes p)) both.0);
      stands = some_times n (children_at nodes p) both.1;
    }

-- what a node that hangs by its parent has
pub record Hanging (go : ℕ → Bool) (nodes : List NodeValue) (n : ℕ) : Type 0 where
  pub by : ℕ
  pub parent : parent_at nodes n ≡ Some by
  pub holder : Holder nodes by n
  pub hung : go by ≡ true

pub hanging : (go : ℕ → Bool) (nodes : List NodeValue) (n : ℕ)
    → hangs_by go nodes n (parent_at nodes n) ≡ true → Hanging go nodes n
hanging go nodes n e = by_parent (parent_at nodes n) refl e
  where
    by_parent : (o : Option ℕ) → parent_at nodes n ≡ o → hangs_by go nodes n o ≡ true → Hanging go nodes n
    by_parent None f g = absurd (true≢false (sym g))
    by_parent (Some p) f g =
        let both = and_parts (holds_node nodes p n) (go p) g in
        record { by = p; parent = f; holder = holder_of nodes p n both.0; hung = both.1 }

-- a text of a document in one piece
pub text_hangs : (nodes xs : List NodeValue) (k i n : ℕ) (s : List ℕ) → i ≡ k + n
    → texts_hang nodes k xs ≡ true → kind_at xs n ≡ text s → hangs nodes i ≡ true
text_hangs nodes [] k i n s e w f = absurd (cc)
text_hangs nodes (x ∷ xs) k i zero s e w f =
    let both = and_parts (not (is_some (text_of x.kind)) || hangs nodes k) (texts_hang nodes (suc k) xs) w in
    let is : is_some (text_of x.kind) ≡ true = ap (λ (y : KindValue). is_some (text_of y)) f in
    let same : k ≡ i = omega arith in
    subst (λ (y : ℕ). hangs nodes y ≡ true) same (rw is at both.0)
text_hangs nodes (x ∷ xs) k i (suc n) s e w f =
    let both = and_parts (not (is_some (text_of x.kind)) || hangs nodes k) (texts_hang nodes (suc k) xs) w in
    text_hangs nodes xs (suc k) i n s (omega arith) both.1 f

pub stands_in : (m p : ℕ) (nodes : List NodeValue) → is_element (kind_at nodes p) ≡ true
    → 1 ≤ times m (children_at nodes p) → 1 ≤ times m (element_children nodes)
stands_in m p [] e l = absurd (true≢false (sym e))
stands_in m zero (x ∷ nodes) e l =
    let a = times_append m (own_children x) (element_children nodes) in
    let b : times m (own_children x) ≡ times m x.children = ap (λ (t : Bool). times m (cond t x.children [])) e in
    omega arith
stands_in m (suc p) (x ∷ nodes) e l =
    let a = times_append m (own_children x) (element_children nodes) in
    let h = stands_in m p nodes e l in
    omega arith

pub no_work : (work : List Coming) → length (numbers work) ≤ 0 → work ≡ []
no_work [] l = refl
no_work (x ∷ work) l = absurd (omega arith)

-- no node that is to come, nor one under an element, has this number
abbrev pub Free : ℕ → Layout → Type 0
Free n l = times n (numbers l.work) + times n (element_children l.nodes) ≡ 0

module _ (c : ℕ) where
  -- ---- what isn't pending keeps what it holds

  numbers_weigh : (nodes : List NodeValue) (work : List Coming)
      → weigh_work c nodes work ≡ weigh c nodes (numbers work)
  numbers_weigh nodes [] = omega arith
  numbers_weigh nodes (x ∷ work) = let h = numbers_weigh nodes work in omega arith

  work_kept : (n : ℕ) (nodes : List NodeValue) (work : List Coming) → times n (numbers work) ≡ 0
      → weigh_work c nodes work ≤ weigh_work c (with_kind n document nodes) work
  work_kept n nodes work e =
      let a = numbers_weigh nodes work in
      let b = numbers_weigh (with_kind n document nodes) work in
      let d = weigh_unmarked c n (numbers work) nodes e in
      omega arith

  under_kept : (n : ℕ) (nodes xs : List NodeValue) → times n (element_children xs) ≡ 0
      → under_all c nodes xs ≤ under_all c (with_kind n document nodes) xs
  under_kept n nodes [] e = omega arith
  under_kept n nodes (x ∷ xs) e =
      let a = times_append n (own_children x) (element_children xs) in
      let h = under_kept n nodes xs (omega arith) in
      test (is_element x.kind)
      (λ t. let f : times n (own_children x) ≡ times n x.children = ap
      (λ (b : Bool). times n (cond b x.children [])) t in
      let g = weigh_unmarked c n x.children nodes (omega arith) in rw t (omega arith))
      (λ t. rw t (omega arith))

  under_left : (n : ℕ) (nodes : List NodeValue) → times n (element_children (with_kind n document nodes)) ≡ 0
      → under_all c nodes nodes
      ≤ under_all c (with_kind n document nodes) (with_kind n document nodes) + under c nodes (node_at nodes n)
  under_left n nodes e =
      let a = under_marked c n nodes nodes in
      let b = under_kept n nodes (with_kind n document nodes) e in
      omega arith

  pub under_weigh : (nodes xs : List NodeValue) → under_all c nodes xs ≡ weigh c nodes (element_children xs)
  under_weigh nodes [] = omega arith
  under_weigh nodes (x ∷ xs) =
      let a = weigh_append c nodes (own_children x) (element_children xs) in
      let h = under_weigh nodes xs in
      let own : weigh c nodes (own_children x) ≡ under c nodes x =
      test (is_element x.kind) (λ t. rw t refl) (λ t. rw t refl) in
      omega arith

  -- ---- a step

  -- what a step on a node that comes does
  pub record Stepped (x : Coming) (l new : Layout) : Type 0 where
    pub more : in_layout c l + in_kind c (kind_at l.nodes x.node) ≤ in_layout c new
    pub once : (m : ℕ) → times m (numbers new.work) + times m (element_children new.nodes)
        ≤ times m (numbers l.work) + times m (element_children l.nodes)
    pub shorter : length (numbers new.work) + length (element_children new.nodes)
        ≤ length (numbers l.work) + length (element_children l.nodes)
    pub nodes : new.nodes ≡ with_kind x.node document l.nodes
    pub elements : (n : ℕ) → is_element (kind_at (with_kind x.node document l.nodes) n) ≡ true
        → 1 ≤ times n (numbers l.work) → 1 ≤ times n (numbers new.work)
    pub children : is_element (kind_at l.nodes x.node) ≡ true → (n : ℕ)
        → 1 ≤ times n (children_at l.nodes x.node) → 1 ≤ times n (numbers new.work)

  same_work : (x : Coming) (l : Layout) (items : List Item) → Free x.node l
      → in_items c l.items + in_kind c (kind_at l.nodes x.node) ≤ in_items c items
      → is_element (kind_at l.nodes x.node) ≡ false
      → Stepped x l (record l { nodes = with_kind x.node document l.nodes; items = items })
  same_work x l items free held plain = record {
    more =
        let a = work_kept x.node l.nodes l.work (omega arith) in
        let m = times_marked x.node x.node l.nodes in
        let b = under_left x.node l.nodes (omega arith) in
        let d = ap (λ (t : Bool). cond t (weigh c l.nodes (children_at l.nodes x.node)) 0) plain in
        omega arith;
    once = λ m. let a = times_marked m x.node l.nodes in omega arith;
    shorter = let a = length_marked x.node l.nodes in omega arith;
    nodes = refl;
    elements = λ n e k. k;
    children = λ e n k. absurd (true≢false (sym e ∙ plain));
  }

  item_step : (x : Coming) (l : Layout) (d : Data) → Free x.node l → in_kind c (kind_at l.nodes x.node)
      ≡ in_data c d → is_element (kind_at l.nodes x.node) ≡ false
      → Stepped x l (record l {
        nodes = with_kind x.node document l.nodes;
        items = l.items ++ new_item l.items x.under d ∷ [];
      })
  item_step x l d free is plain =
      let a = item_more c l.items (new_item l.items x.under d) in
      same_work x l (l.items ++ new_item l.items x.under d ∷ []) free (omega arith) plain

  text_step : (x : Coming) (l : Layout) (s : List ℕ) (deepest : Bool) → kind_at l.nodes x.node ≡ text s
      → TextsUtf8 l.nodes → Free x.node l → Stepped x l (with_text deepest s x.under (without_node x.node l))
  unfolding in_data in_kind
  text_step x l s false e h free = item_step x l (text_node s) free (ap (in_kind c) e) (ap is_element e)
  text_step x l s true e h free = record {
    more =
        let marked = marked_utf8 x.node l.nodes h in
        let joined = joined_same c (with_kind x.node document l.nodes) x.under l.work marked in
        let whole = occurs_append c s (next_texts (with_kind x.node document l.nodes) x.under l.work) (h x.node s e) in
        let item = item_more c l.items (new_item l.items x.under
        (text_node (s ++ next_texts (with_kind x.node document l.nodes) x.under l.work))) in
        let own : in_kind c (kind_at l.nodes x.node) ≡ occurrences c s = ap (in_kind c) e in
        let a = work_kept x.node l.nodes l.work (omega arith) in
        let m = times_marked x.node x.node l.nodes in
        let b = under_left x.node l.nodes (omega arith) in
        let d = ap (λ (k : KindValue). cond (is_element k) (weigh c l.nodes (children_at l.nodes x.node)) 0) e in
        omega arith;
    once = λ m.
        let a = times_marked m x.node l.nodes in
        let b = after_fewer m x.under (with_kind x.node document l.nodes) l.work in
        omega arith;
    shorter =
        let a = length_marked x.node l.nodes in
        let b = after_shorter x.under (with_kind x.node document l.nodes) l.work in
        omega arith;
    nodes = refl;
    elements = λ n f k. elements_stay n x.under (with_kind x.node document l.nodes) l.work f k;
    children = λ f n k. absurd (true≢false (sym f ∙ ap is_element e));
  }

  element_step : (x : Coming) (l : Layout) (d : Data) (u : ℕ) → in_data c d ≡ 0
      → in_kind c (kind_at l.nodes x.node) ≡ 0 → is_element (kind_at l.nodes x.node) ≡ true → Free x.node l
      → Stepped x l (record l {
        nodes = with_kind x.node document l.nodes;
        items = l.items ++ new_item l.items x.under d ∷ [];
        work = map (coming u) (children_at (with_kind x.node document l.nodes) x.node) ++ l.work;
      })
  element_step x l d u none nothing is free = record {
    more =
        let item = item_more c l.items (new_item l.items x.under d) in
        let m = times_marked x.node x.node l.nodes in
        let o = own_times x.node in
        let a = work_kept x.node l.nodes l.work (omega arith) in
        let b = under_left x.node l.nodes (omega arith) in
        let e = ap (λ (t : Bool). cond t (weigh c l.nodes (children_at l.nodes x.node)) 0) is in
        let f = weigh_coming c (with_kind x.node document l.nodes) u
        (children_at (with_kind x.node document l.nodes) x.node) l.work in
        let g = ap (weigh c (with_kind x.node document l.nodes)) same in
        let i = weigh_unmarked c x.node (children_at l.nodes x.node) l.nodes (omega arith) in
        omega arith;
    once = λ m.
        let a = times_marked m x.node l.nodes in let o = own_times m in let b = new_times m in omega arith;
    shorter =
        let a = length_marked x.node l.nodes in
        let o = ap (λ (t : Bool). length (cond t (children_at l.nodes x.node) [])) is in
        let b : length (numbers (map (coming u) (children_at (with_kind x.node document l.nodes) x.node) ++ l.work))
        ≡ length (children_at l.nodes x.node ++ numbers l.work) = ap length new_numbers in
        let d = length-append (children_at l.nodes x.node) (numbers l.work) in
        omega arith;
    nodes = refl;
    elements = λ n e k. let b = new_times n in omega arith;
    children = λ e n k. let b = new_times n in omega arith;
  }
    where
      same : children_at (with_kind x.node document l.nodes) x.node ≡ children_at l.nodes x.node
      same = children_of_kind x.node x.node document l.nodes

      own_times : (m : ℕ) → times m (own_children (node_at l.nodes x.node)) ≡ times m (children_at l.nodes x.node)
      own_times m = ap (λ (t : Bool). times m (cond t (children_at l.nodes x.node) [])) is

      new_numbers : numbers (map (coming u) (children_at (with_kind x.node document l.nodes) x.node) ++ l.work)
          ≡ children_at l.nodes x.node ++ numbers l.work
      new_numbers =
          numbers_coming u (children_at (with_kind x.node document l.nodes) x.node) l.work
          ∙ ap (λ (ns : List ℕ). ns ++ numbers l.work) same

      new_times : (m : ℕ)
          → times m (numbers (map (coming u) (children_at (with_kind x.node document l.nodes) x.node) ++ l.work))
          ≡ times m (children_at l.nodes x.node) + times m (numbers l.work)
      new_times m = ap (times m) new_numbers ∙ times_append m (children_at l.nodes x.node) (numbers l.work)

  pub kind_step : (k : KindValue) (x : Coming) (l : Layout) (deepest : Bool) → kind_at l.nodes x.node ≡ k
      → TextsUtf8 l.nodes → Free x.node l → Stepped x l (with_kind_of deepest k x (without_node x.node l))
  unfolding in_data in_kind
  kind_step document x l deepest e h free =
      let f : in_kind c (kind_at l.nodes x.node) ≡ 0 = ap (in_kind c) e in
      same_work x l l.items free (omega arith) (ap is_element e)
  kind_step doctype x l deepest e h free = item_step x l doctype_node free (ap (in_kind c) e) (ap is_element e)
  kind_step (text s) x l deepest e h free = text_step x l s deepest e h free
  kind_step (comment s) x l deepest e h free = item_step x l (comment_node s) free (ap (in_kind c) e) (ap is_element e)
  kind_step (element name attributes) x l deepest e h free =
      element_step x l (element_node (text_of_element_name name) attributes)
      (if deepest then x.under else length l.items) refl (ap (in_kind c) e) (ap is_element e) free
