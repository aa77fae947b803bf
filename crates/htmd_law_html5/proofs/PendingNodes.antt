-- The nodes that are still to be laid out: those that come next, and the children of elements.
use Rattle.std.proofs.Common.{◌≡◌, ◌∙◌, ℕ, zero, suc, ◌+◌, ◌<◌, ◌≤◌, Bool, true, List, [], ◌∷◌, ◌++◌, length, refl, sym}
use Rattle.std.proofs.Common.{ap, arith, cond, map, Option, None, inl, inr, ◌⊎◌, length-append}
use Rattle.std.specs.Prelude.{◌==◌, is_some}
use Rattle.std.proofs.lemmas.Bool.{true≢false, eqb-true, eqb-false, eq-eqb, cases_lt}
use Rattle.htmd_lexical.proofs.Cases.{test}
use Rattle.htmd_html5_state.specs.Nodes.{KindValue, NodeValue, document, element, kind_at, node_at, children_at}
use Rattle.htmd_html5_state.specs.Nodes.{with_kind, text_of}
use Rattle.htmd_html5.specs.Layout.{Coming, coming, text_under, after_next_texts}
use Rattle.htmd_law_html5.proofs.NodeTexts.{kinds, is_element}
use Rattle.htmd_law_html5.proofs.NodeParts.{times, times_append, parent_beyond}
use Rattle.htmd_law_html5.proofs.Forests.{once_under, IsForest}
use Rattle.htmd_law_html5.proofs.Keeping.{IsRooted}
use Rattle.htmd_law_html5.proofs.NodeWeights.{all_children, spread, children_once}

-- ---- what comes next, and the children of elements

abbrev pub numbers : List Coming → List ℕ
numbers [] = []
numbers (x ∷ work) = x.node ∷ numbers work

pub numbers_coming : (u : ℕ) (ns : List ℕ) (work : List Coming)
    → numbers (map (coming u) ns ++ work) ≡ ns ++ numbers work
numbers_coming u [] work = refl
numbers_coming u (n ∷ ns) work = ap (λ (x : List ℕ). n ∷ x) (numbers_coming u ns work)

abbrev pub own_children : NodeValue → List ℕ
own_children x = cond (is_element x.kind) x.children []

abbrev pub element_children : List NodeValue → List ℕ
element_children [] = []
element_children (x ∷ nodes) = own_children x ++ element_children nodes

-- those of a node that was taken are no more among them
pub times_marked : (m n : ℕ) (nodes : List NodeValue)
    → times m (element_children (with_kind n document nodes)) + times m (own_children (node_at nodes n))
    ≡ times m (element_children nodes)
times_marked m n [] = omega arith
times_marked m zero (x ∷ nodes) = let a = times_append m (own_children x) (element_children nodes) in omega arith
times_marked m (suc n) (x ∷ nodes) =
    let a = times_append m (own_children x) (element_children nodes) in
    let b = times_append m (own_children x) (element_children (with_kind n document nodes)) in
    let h = times_marked m n nodes in
    omega arith

pub length_marked : (n : ℕ) (nodes : List NodeValue)
    → length (element_children (with_kind n document nodes)) + length (own_children (node_at nodes n))
    ≡ length (element_children nodes)
length_marked n [] = omega arith
length_marked zero (x ∷ nodes) = let a = length-append (own_children x) (element_children nodes) in omega arith
length_marked (suc n) (x ∷ nodes) =
    let a = length-append (own_children x) (element_children nodes) in
    let b = length-append (own_children x) (element_children (with_kind n document nodes)) in
    let h = length_marked n nodes in
    omega arith

-- ---- texts that are joined come no more, and all else does

text_kind : (k : KindValue) → is_element k ≡ true → text_of k ≡ None
text_kind (element name attributes) e = refl
text_kind _ e = absurd (true≢false (sym e))

pub after_fewer : (m u : ℕ) (nodes : List NodeValue) (work : List Coming)
    → times m (numbers (after_next_texts nodes u work)) ≤ times m (numbers work)
after_fewer m u nodes [] = omega arith
after_fewer m u nodes (x ∷ work) =
    let h = after_fewer m u nodes work in
    test (is_some (text_under nodes u x)) (λ e. rw e (omega arith)) (λ e. rw e (omega arith))

pub after_shorter : (u : ℕ) (nodes : List NodeValue) (work : List Coming)
    → length (numbers (after_next_texts nodes u work)) ≤ length (numbers work)
after_shorter u nodes [] = omega arith
after_shorter u nodes (x ∷ work) =
    let h = after_shorter u nodes work in
    test (is_some (text_under nodes u x)) (λ e. rw e (omega arith)) (λ e. rw e (omega arith))

pub elements_stay : (n u : ℕ) (nodes : List NodeValue) (work : List Coming) → is_element (kind_at nodes n) ≡ true
    → 1 ≤ times n (numbers work) → 1 ≤ times n (numbers (after_next_texts nodes u work))
elements_stay n u nodes [] e l = l
elements_stay n u nodes (x ∷ work) e l =
    test (is_some (text_under nodes u x)) (λ t. rw t (elements_stay n u nodes work e (other t))) (λ t. rw t l)
  where
    none : x.node ≡ n → is_some (text_under nodes u x) ≡ true → ⊥
    none f t =
        let k = ap (λ (i : ℕ). text_of (kind_at nodes i)) f ∙ text_kind (kind_at nodes n) e in
        test (x.under == u)
        (λ g. let h = rw (g, k) at t in true≢false (sym h)) (λ g. let h = rw g at t in true≢false (sym h))

    other : is_some (text_under nodes u x) ≡ true → 1 ≤ times n (numbers work)
    other t =
        test (x.node == n) (λ f. absurd (none (eqb-true x.node n f) t))
        (λ f. let m = rw f at l in omega arith)

-- ---- at most as many as there are nodes

-- how often the numbers below a limit stand there
abbrev below_times : ℕ → List ℕ → ℕ
below_times zero ns = 0
below_times (suc k) ns = times k ns + below_times k ns

below_at_most : (k : ℕ) (ns : List ℕ) → ((m : ℕ) → times m ns ≤ 1) → below_times k ns ≤ k
below_at_most zero ns h = omega arith
below_at_most (suc k) ns h = let a = h k in let b = below_at_most k ns h in omega arith

below_cons : (k n : ℕ) (ns : List ℕ) → below_times k (n ∷ ns) ≡ below_times k (n ∷ []) + below_times k ns
below_cons zero n ns = omega arith
below_cons (suc k) n ns = let h = below_cons k n ns in omega arith

below_one : (k n : ℕ) → n < k → 1 ≤ below_times k (n ∷ [])
below_one zero n l = absurd (omega arith)
below_one (suc k) n l =
    test (n == k) (λ e. rw e (omega arith))
    (λ e. let other = eqb-false n k e in let h = below_one k n (omega arith) in omega arith)

length_below : (k : ℕ) (ns : List ℕ) → ((m : ℕ) → 1 ≤ times m ns → m < k) → length ns
    ≤ below_times k ns
length_below k [] h = omega arith
length_below k (n ∷ ns) h =
    let a = below_cons k n ns in
    let b = below_one k n (h n (rw (eq-eqb n n refl) (omega arith))) in
    let d = length_below k ns (λ m l. h m (omega arith)) in
    omega arith

pub few_numbers : (k : ℕ) (ns : List ℕ) → ((m : ℕ) → times m ns ≤ 1)
    → ((m : ℕ) → 1 ≤ times m ns → m < k) → length ns ≤ k
few_numbers k ns once within =
    let a = length_below k ns within in let b = below_at_most k ns once in omega arith

-- ---- at first

element_fewer : (m : ℕ) (nodes : List NodeValue) → times m (element_children nodes) ≤ times m (all_children nodes)
element_fewer m [] = omega arith
element_fewer m (x ∷ nodes) =
    let a = times_append m (own_children x) (element_children nodes) in
    let b = times_append m x.children (all_children nodes) in
    let h = element_fewer m nodes in
    test (is_element x.kind)
    (λ e. let d : times m (own_children x) ≡ times m x.children =
    ap (λ (t : Bool). times m (cond t x.children [])) e in omega arith)
    (λ e. let d : times m (own_children x) ≡ 0 = ap (λ (t : Bool). times m (cond t x.children [])) e in omega arith)

-- the Document's children, and those of elements
pub first_fewer : (m : ℕ) (nodes : List NodeValue) → IsRooted (kinds nodes)
    → times m (children_at nodes 0) + times m (element_children nodes) ≤ times m (all_children nodes)
first_fewer m [] root = absurd (true≢false root)
first_fewer m (x ∷ nodes) root =
    let a = times_append m (own_children x) (element_children nodes) in
    let b = times_append m x.children (all_children nodes) in
    let h = element_fewer m nodes in
    let d : times m (own_children x) ≡ 0 = ap (λ (t : Bool). times m (cond t x.children [])) root in
    omega arith

pub first_once : (m : ℕ) (nodes : List NodeValue) → IsRooted (kinds nodes) → IsForest nodes
    → times m (children_at nodes 0) + times m (element_children nodes) ≤ 1
first_once m nodes root forest =
    let a = first_fewer m nodes root in let b = children_once m nodes forest in omega arith

within_nodes : (m : ℕ) (nodes : List NodeValue) → IsForest nodes → 1 ≤ times m (all_children nodes)
    → m < length nodes
within_nodes m nodes forest l = either (cases_lt m (length nodes))
  where
    none : length nodes ≤ m → times m (all_children nodes) ≤ 0
    none b =
        spread m nodes None
        (λ p. let f = forest.once m p in
        let e = parent_beyond m nodes b in
        let g = ap (λ (o : Option ℕ). once_under o p) e in
        omega arith)

    either : (m < length nodes) ⊎ (length nodes ≤ m) → m < length nodes
    either (inl a) = a
    either (inr b) = let z = none b in absurd (omega arith)

pub first_short : (nodes : List NodeValue) → IsRooted (kinds nodes) → IsForest nodes
    → length (children_at nodes 0) + length (element_children nodes) ≤ length nodes
first_short nodes root forest =
    let e = length-append (children_at nodes 0) (element_children nodes) in
    let a = few_numbers (length nodes) (children_at nodes 0 ++ element_children nodes)
    (λ m. let b = times_append m (children_at nodes 0) (element_children nodes) in
    let d = first_once m nodes root forest in omega arith)
    (λ m l. let b = times_append m (children_at nodes 0) (element_children nodes) in
    let d = first_fewer m nodes root in within_nodes m nodes forest (omega arith)) in
    omega arith
