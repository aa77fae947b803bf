-- A document in one piece is laid out as a tree that has all its texts.
use Rattle.std.proofs.Common.{◌≡◌, ◌∙◌, ℕ, zero, suc, ◌+◌, ◌<◌, ◌≤◌, Bool, true, false, List, [], ◌∷◌, ◌++◌, length}
use Rattle.std.proofs.Common.{refl, sym, ap, subst, arith, cond, Some, inl, inr, ◌⊎◌, ⊎_elim, length-append}
use Rattle.std.specs.Prelude.{◌==◌}
use Rattle.std.proofs.lemmas.Bool.{true≢false, eqb-true, eqb-false, eq-eqb}
use Rattle.htmd_lexical.proofs.Cases.{test}
use Rattle.htmd_html5_state.specs.Nodes.{KindValue, NodeValue, document, text, kind_at, node_at, children_at}
use Rattle.htmd_html5_state.specs.Nodes.{parent_at, with_kind}
use Rattle.htmd_html5.specs.Layout.{Coming, Layout, put_next, layout_within, first_layout, document_of, is_deepest}
use Rattle.htmd_law_html5.specs.PageLetters.{occurrences_in, texts_of}
use Rattle.htmd_law_html5.specs.KeptLetters.{hangs_within, is_whole}
use Rattle.htmd_law_html5.proofs.NodeTexts.{kinds, texts, is_element}
use Rattle.htmd_law_html5.proofs.NodeParts.{times, times_append, children_of_kind, kind_other}
use Rattle.htmd_law_html5.proofs.Forests.{IsForest, under_itself}
use Rattle.htmd_law_html5.proofs.Keeping.{IsRooted}
use Rattle.htmd_law_html5.proofs.NodeWeights.{kind_marked, TextsUtf8, marked_utf8, in_kind, in_items}
use Rattle.htmd_law_html5.proofs.NodeWeights.{in_nodes, kind_more, node_taken, weigh, weigh_work, under, under_all}
use Rattle.htmd_law_html5.proofs.NodeWeights.{weigh_append, weigh_coming, weigh_fewer}
use Rattle.htmd_law_html5.proofs.LaidTexts.{in_layout}
use Rattle.htmd_law_html5.proofs.PendingNodes.{numbers, numbers_coming, element_children, first_once, first_short}
use Rattle.htmd_law_html5.proofs.HungNodes.{is_solid, element_solid, HangsBy, AllHang}
use Rattle.htmd_law_html5.proofs.WholeTexts.{kind_same, Holder, hanging, text_hangs, stands_in, no_work}
use Rattle.htmd_law_html5.proofs.WholeTexts.{under_weigh, Stepped, kind_step}

-- ---- while a document is laid out

-- What isn't an element's any more was taken; each node is pending once at most; and an element that isn't taken comes
-- next, or its parent isn't taken.
pub record Running (first : List NodeValue) (l : Layout) : Type 0 where
  same : (n : ℕ) → (kind_at l.nodes n ≡ kind_at first n) ⊎ (kind_at l.nodes n ≡ document)
  children : (p : ℕ) → children_at l.nodes p ≡ children_at first p
  once : (m : ℕ) → times m (numbers l.work) + times m (element_children l.nodes) ≤ 1
  reach : (n p : ℕ) → is_element (kind_at l.nodes n) ≡ true → Holder first p n
      → (1 ≤ times n (numbers l.work)) ⊎ (is_element (kind_at l.nodes p) ≡ true)
  utf8 : TextsUtf8 l.nodes

first_running : (nodes : List NodeValue) → IsRooted (kinds nodes) → IsForest nodes → TextsUtf8 nodes
    → Running nodes (first_layout nodes)
first_running nodes root forest utf8 = record {
  same = λ n. inl refl;
  children = λ p. refl;
  once = λ m. let a = work m in let b = first_once m nodes root forest in omega arith;
  reach = λ n p e h. ⊎_elim
      (λ z. let a = work n in
      let b = ap (λ (x : ℕ). times n (children_at nodes x)) z in
      let d = h.stands in
      inl (omega arith)) (λ f. inr f) h.either;
  utf8 = utf8;
}
  where
    work : (m : ℕ) → times m (numbers (first_layout nodes).work) ≡ times m (children_at nodes 0)
    work m =
        ap (times m) (numbers_coming 0 (children_at nodes 0) [])
        ∙ (times_append m (children_at nodes 0) [] ∙ omega arith)

-- ---- nothing is left

root_plain : (first : List NodeValue) (l : Layout) → Running first l → IsRooted (kinds first)
    → is_element (kind_at l.nodes 0) ≡ false
root_plain [] l r root = absurd (true≢false root)
root_plain (x ∷ first) l r root = ⊎_elim (λ e. ap is_element e ∙ root) (λ e. ap is_element e) (r.same 0)

-- a node is pending where its parent isn't taken
unreached : (n p : ℕ) (l : Layout) → l.work ≡ [] → is_element (kind_at l.nodes p) ≡ false
    → (1 ≤ times n (numbers l.work)) ⊎ (is_element (kind_at l.nodes p) ≡ true) → ⊥
unreached n p l e above (inl m) =
    let z : times n (numbers l.work) ≡ 0 = ap (λ (w : List Coming). times n (numbers w)) e in omega arith
unreached n p l e above (inr f) = true≢false (sym f ∙ above)

-- an element that hangs under the Document was taken
taken : (k n : ℕ) (first : List NodeValue) (l : Layout) → Running first l → l.work ≡ []
    → IsRooted (kinds first) → hangs_within k first n ≡ true → is_element (kind_at l.nodes n) ≡ false
taken zero n first l r e root h =
    subst (λ (i : ℕ). is_element (kind_at l.nodes i) ≡ false) (sym (eqb-true n 0 h)) (root_plain first l r root)
taken (suc k) n first l r e root h =
    test (n == 0) (λ t. subst (λ (i : ℕ). is_element (kind_at l.nodes i) ≡ false) (sym (eqb-true n 0 t))
    (root_plain first l r root))
    (λ t. let hang = hanging (hangs_within k first) first n (rw t at h) in
    let above = taken k hang.by first l r e root hang.hung in
    test (is_element (kind_at l.nodes n))
    (λ f. absurd (unreached n hang.by l e above (r.reach n hang.by f hang.holder))) (λ f. f))

-- and so was one that hangs in an order
ranked : (k n : ℕ) (rank : ℕ → ℕ) (first : List NodeValue) (l : Layout) → Running first l → l.work ≡ []
    → IsRooted (kinds first) → AllHang rank first → rank n < k → is_element (kind_at l.nodes n) ≡ false
ranked zero n rank first l r e root all less = absurd (omega arith)
ranked (suc k) n rank first l r e root all less =
    test (is_element (kind_at l.nodes n)) (λ f. absurd (⊎_elim
    (λ z. true≢false (sym f ∙ (ap (λ (x : ℕ). is_element (kind_at l.nodes x)) z ∙ root_plain first l r root)))
    (λ (h : HangsBy rank first n). unreached n h.by l e
    (ranked k h.by rank first l r e root all (let a = h.less in omega arith)) (r.reach n h.by f h.holder))
    (all n (⊎_elim (λ g. element_solid (kind_at first n) (sym (ap is_element g) ∙ f))
    (λ g. absurd (true≢false (sym f ∙ ap is_element g))) (r.same n))))) (λ f. f)

-- ---- the texts of a document hang

-- a text hangs by a node that is taken
pub record TextHangs (first : List NodeValue) (n : ℕ) : Type 0 where
  by : ℕ
  parent : parent_at first n ≡ Some by
  holder : Holder first by n
  above : (l : Layout) → Running first l → l.work ≡ [] → is_element (kind_at l.nodes by) ≡ false

abbrev pub TextsHang : List NodeValue → Type 0
TextsHang first = (n : ℕ) (s : List ℕ) → kind_at first n ≡ text s → TextHangs first n

-- of a document in one piece
pub whole_hang : (first : List NodeValue) → IsRooted (kinds first) → is_whole first ≡ true → TextsHang first
whole_hang first root whole n s e =
    let hang = hanging (hangs_within (length first) first) first n
    (text_hangs first first 0 n n s (omega arith) whole e) in
    record {
      by = hang.by;
      parent = hang.parent;
      holder = hang.holder;
      above = λ l r f. taken (length first) hang.by first l r f root hang.hung;
    }

-- where each hangs in an order
pub ranked_hang : (rank : ℕ → ℕ) (first : List NodeValue) → IsRooted (kinds first)
    → is_solid (kind_at first 0) ≡ false → AllHang rank first → TextsHang first
ranked_hang rank first root plain all n s e =
    ⊎_elim (λ z. absurd (true≢false (sym (ap is_solid e)
    ∙ (ap (λ (x : ℕ). is_solid (kind_at first x)) z ∙ plain))))
    (λ (h : HangsBy rank first n). record {
      by = h.by;
      parent = h.parent;
      holder = h.holder;
      above = λ l r f. ranked (suc (rank h.by)) h.by rank first l r f root all (omega arith);
    }) (all n (ap is_solid e))

module _ (c : ℕ) where
  step_running : (first : List NodeValue) (x : Coming) (rest : List Coming) (l new : Layout) → l.work ≡ x ∷ rest
      → Running first l → Stepped c x (record l { work = rest }) new → Running first new
  step_running first x rest l new e r s = record {
    same = λ n. ⊎_elim (λ f. ⊎_elim (λ g. inl (kind n ∙ (f ∙ g))) (λ g. inr (kind n ∙ (f ∙ g)))
        (r.same n))
        (λ f. inr (kind n ∙ f)) (kind_marked x.node n l.nodes);
    children = λ p.
        ap (λ (nodes : List NodeValue). children_at nodes p) s.nodes
        ∙ (children_of_kind x.node p document l.nodes ∙ r.children p);
    once = λ m. let a = s.once m in let b = r.once m in let d = work m in omega arith;
    reach = λ n p f h. reach n p (sym (ap is_element (kind n)) ∙ f) h;
    utf8 = subst TextsUtf8 (sym s.nodes) (marked_utf8 x.node l.nodes r.utf8);
  }
    where
      kind : (n : ℕ) → kind_at new.nodes n ≡ kind_at (with_kind x.node document l.nodes) n
      kind n = ap (λ (nodes : List NodeValue). kind_at nodes n) s.nodes

      work : (m : ℕ) → times m (numbers l.work) ≡ cond (x.node == m) 1 0 + times m (numbers rest)
      work m = ap (λ (w : List Coming). times m (numbers w)) e

      -- the node itself is no element any more
      other : (n : ℕ) → is_element (kind_at (with_kind x.node document l.nodes) n) ≡ true → x.node ≡ n → ⊥
      other n f g =
          let h : is_element (kind_at (with_kind x.node document l.nodes) n) ≡ false =
          ap (λ (i : ℕ). is_element (kind_at (with_kind x.node document l.nodes) i)) (sym g)
          ∙ ap is_element (kind_same x.node l.nodes) in
          true≢false (sym f ∙ h)

      reach : (n p : ℕ) → is_element (kind_at (with_kind x.node document l.nodes) n) ≡ true → Holder first p n
          → (1 ≤ times n (numbers new.work)) ⊎ (is_element (kind_at new.nodes p) ≡ true)
      reach n p f h =
          ⊎_elim (λ k. test (x.node == n) (λ t. absurd (other n f (eqb-true x.node n t)))
          (λ t. let a : ◌≡◌ {A = ℕ} (cond (x.node == n) 1 0) 0 = rw t refl in
          let b = work n in
          inl (s.elements n f (omega arith))))
          (λ g. test (x.node == p)
          (λ t. let q = eqb-true x.node p t in
          let a = ap (λ (i : ℕ). times n (children_at l.nodes i)) q ∙ ap (times n) (r.children p) in
          let b = h.stands in
          inl (s.children (ap (λ (i : ℕ). is_element (kind_at l.nodes i)) q ∙ g) n (omega arith)))
          (λ t. inr (ap is_element (kind p ∙ kind_other x.node p document l.nodes (eqb-false x.node p t)) ∙ g)))
          (r.reach n p (sym (ap is_element (kind_other x.node n document l.nodes (other n f))) ∙ f) h)

  -- ---- to the end

  record Ended (first : List NodeValue) (l new : Layout) : Type 0 where
    running : Running first new
    empty : new.work ≡ []
    more : in_layout c l ≤ in_layout c new

  stays : (limit k : ℕ) (l : Layout) → l.work ≡ [] → layout_within limit k l ≡ l
  stays limit zero l e = refl
  stays limit (suc k) l e =
      ap (λ (w : List Coming). layout_within limit k (put_next limit w l)) e ∙ stays limit k l e

  run : (limit k : ℕ) (first : List NodeValue) (l : Layout) → Running first l
      → length (numbers l.work) + length (element_children l.nodes) ≤ k → Ended first l (layout_within limit k l)
  run limit zero first l r b = record { running = r; empty = no_work l.work (omega arith); more = omega arith }
  run limit (suc k) first l r b =
      by_work l.work refl (λ (new : Layout) (q : Running first new)
      (s : length (numbers new.work) + length (element_children new.nodes) ≤ k). run limit k first new q s)
    where
      by_work : (work : List Coming) → l.work ≡ work → ((new : Layout) → Running first new
          → length (numbers new.work) + length (element_children new.nodes) ≤ k
          → Ended first new (layout_within limit k new)) → Ended first l (layout_within limit (suc k) l)
      by_work [] e go =
          subst (Ended first l) (sym (stays limit (suc k) l e)) (record { running = r; empty = e; more = omega arith })
      by_work (x ∷ rest) e go =
          let own : ◌≡◌ {A = ℕ} (cond (x.node == x.node) 1 0) 1 = rw (eq-eqb x.node x.node refl) refl in
          let times_here = ap (λ (w : List Coming). times x.node (numbers w)) e in
          let once = r.once x.node in
          let s : Stepped c x (record l { work = rest }) (put_next limit (x ∷ rest) l) =
          kind_step c (kind_at l.nodes x.node) x (record l { work = rest }) (is_deepest limit l.items x.under) refl
          r.utf8 (omega arith) in
          let size = ap (λ (w : List Coming). length (numbers w)) e in
          let held : weigh_work c l.nodes l.work
          ≡ in_kind c (kind_at l.nodes x.node) + weigh_work c l.nodes rest = ap (weigh_work c l.nodes) e in
          let shorter = s.shorter in
          let more = s.more in
          let d = go (put_next limit (x ∷ rest) l)
          (step_running first x rest l (put_next limit (x ∷ rest) l) e r s) (omega arith) in
          let later = d.more in
          subst (λ (w : List Coming). Ended first l (layout_within limit k (put_next limit w l))) (sym e)
          (record { running = d.running; empty = d.empty; more = omega arith })

  weigh_zero : (nodes : List NodeValue) (ns : List ℕ)
      → ((n : ℕ) → 1 ≤ times n ns → in_kind c (kind_at nodes n) ≡ 0) → weigh c nodes ns ≡ 0
  weigh_zero nodes [] h = omega arith
  weigh_zero nodes (n ∷ ns) h =
      let a = h n (rw (eq-eqb n n refl) (omega arith)) in
      let b = weigh_zero nodes ns (λ m l. h m (omega arith)) in
      omega arith

  under_zero : (nodes xs : List NodeValue) → ((p : ℕ) → under c nodes (node_at xs p) ≡ 0)
      → under_all c nodes xs ≡ 0
  under_zero nodes [] h = omega arith
  under_zero nodes (x ∷ xs) h =
      let a : under c nodes x ≡ 0 = h zero in
      let b = under_zero nodes xs (λ p. h (suc p)) in
      omega arith

  module _ (first : List NodeValue) (root : IsRooted (kinds first)) (forest : IsForest first)
      (texts_hung : TextsHang first) where
    -- a text that an element holds hangs by it
    text_none : (l : Layout) → Running first l → l.work ≡ [] → (n p : ℕ) → is_element (kind_at l.nodes p)
        ≡ true → 1 ≤ times n (children_at l.nodes p) → in_kind c (kind_at l.nodes n) ≡ 0
    unfolding in_kind
    text_none l r e n p f m =
        ⊎_elim (λ g. ap (in_kind c) g ∙ by_kind (kind_at first n) refl) (λ g. ap (in_kind c) g) (r.same n)
      where
        by_kind : (k : KindValue) → kind_at first n ≡ k → in_kind c k ≡ 0
        by_kind (text s) g =
            let hang = texts_hung n s g in
            let a = ap (times n) (r.children p) in
            let b = forest.once n p in
            let parent = under_itself (parent_at first n) p (omega arith) in
            let both : Some hang.by ≡ Some p = sym hang.parent ∙ parent in
            let same : hang.by ≡ p = cc in
            let d = hang.above l r e in
            absurd (true≢false (sym f ∙ (ap (λ (i : ℕ). is_element (kind_at l.nodes i)) (sym same) ∙ d)))
        by_kind _ g = refl

    nothing_left : (l : Layout) → Running first l → l.work ≡ [] → under_all c l.nodes l.nodes ≡ 0
    nothing_left l r e =
        under_zero l.nodes l.nodes (λ p. test (is_element (kind_at l.nodes p))
        (λ f. ap (λ (t : Bool). cond t (weigh c l.nodes (children_at l.nodes p)) 0) f
        ∙ weigh_zero l.nodes (children_at l.nodes p) (λ n m. text_none l r e n p f m))
        (λ f. ap (λ (t : Bool). cond t (weigh c l.nodes (children_at l.nodes p)) 0) f))

    -- ---- all is there at first

    nodes_zero : (nodes : List NodeValue) → ((n : ℕ) → in_kind c (kind_at nodes n) ≡ 0) → in_nodes c nodes
        ≡ 0
    unfolding in_nodes
    nodes_zero [] h = omega arith
    nodes_zero (x ∷ nodes) h =
        let a = kind_more c x.kind (texts (kinds nodes)) in
        let b : in_kind c x.kind ≡ 0 = h zero in
        let d = nodes_zero nodes (λ n. h (suc n)) in
        omega arith

    covered : (ns : List ℕ) (nodes : List NodeValue)
        → ((n : ℕ) → (in_kind c (kind_at nodes n) ≡ 0) ⊎ (1 ≤ times n ns)) → in_nodes c nodes
        ≤ weigh c nodes ns
    unfolding in_kind
    covered [] nodes h =
        let a = nodes_zero nodes (λ n. ⊎_elim (λ e. e) (λ l. absurd (omega arith)) (h n)) in omega arith
    covered (n ∷ ns) nodes h =
        let a = node_taken c nodes n in
        let b = weigh_fewer c n nodes ns in
        let d = covered ns (with_kind n document nodes) (λ m. ⊎_elim
        (λ e. ⊎_elim (λ z. inl (ap (in_kind c) e ∙ z)) (λ (l : 1 ≤ times m (n ∷ ns)). test (n == m)
        (λ t. inl (ap (in_kind c)
        (ap (λ (i : ℕ). kind_at (with_kind n document nodes) i) (sym (eqb-true n m t)) ∙ kind_same n nodes)))
        (λ t. let k = rw t at l in inr (omega arith))) (h m)) (λ e. inl (ap (in_kind c) e))
        (kind_marked n m nodes)) in
        omega arith

    all_covered : (n : ℕ)
        → (in_kind c (kind_at first n) ≡ 0) ⊎ (1 ≤ times n (children_at first 0 ++ element_children first))
    unfolding in_kind
    all_covered n = by_kind (kind_at first n) refl
      where
        by_kind : (k : KindValue) → kind_at first n ≡ k
            → (in_kind c k ≡ 0) ⊎ (1 ≤ times n (children_at first 0 ++ element_children first))
        by_kind (text s) g =
            let hang = texts_hung n s g in
            let a = times_append n (children_at first 0) (element_children first) in
            let d = hang.holder.stands in
            inr (⊎_elim (λ z. let b = ap (λ (i : ℕ). times n (children_at first i)) z in omega arith)
            (λ f. let b = stands_in n hang.by first f d in omega arith) hang.holder.either)
        by_kind _ g = inl refl

    all_first : in_nodes c first ≤ in_layout c (first_layout first)
    all_first =
        let a = covered (children_at first 0 ++ element_children first) first all_covered in
        let b = weigh_append c first (children_at first 0) (element_children first) in
        let d = weigh_coming c first 0 (children_at first 0) [] in
        let e = under_weigh c first first in
        omega arith

    pub whole_texts : (limit : ℕ) → TextsUtf8 first
        → occurrences_in c (texts (kinds first)) ≤ occurrences_in c (texts_of (document_of limit first))
    unfolding in_items in_nodes
    whole_texts limit utf8 =
        let size : length (numbers (first_layout first).work) ≡ length (children_at first 0) =
        ap length (numbers_coming 0 (children_at first 0) [])
        ∙ (length-append (children_at first 0) [] ∙ omega arith) in
        let short = first_short first root forest in
        let d = run limit (length first) first (first_layout first) (first_running first root forest utf8)
        (omega arith) in
        let a = all_first in
        let more = d.more in
        let left = nothing_left (layout_within limit (length first) (first_layout first)) d.running d.empty in
        let none = ap (weigh_work c (layout_within limit (length first) (first_layout first)).nodes) d.empty in
        omega arith
