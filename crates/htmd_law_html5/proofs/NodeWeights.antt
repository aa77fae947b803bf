-- What nodes, lists of nodes and items hold of a character.
use Rattle.std.proofs.Common.{◌≡◌, ◌∙◌, ℕ, zero, suc, ◌+◌, ◌≤◌, true, List, [], ◌∷◌, ◌++◌, get_or, set, refl, sym, ap}
use Rattle.std.proofs.Common.{subst, arith, cond, All, map, Option, Some, None, inl, inr, ◌⊎◌, ⊎_elim}
use Rattle.std.specs.Prelude.{◌==◌, is_some, if◌then◌else◌, IsUtf8}
use Rattle.std.proofs.lemmas.Bool.{eqb-true, eqb-false, eq-eqb}
use Rattle.std.proofs.lemmas.List.Elements.{All-head}
use Rattle.htmd_lexical.proofs.Cases.{test}
use Rattle.htmd_html5_state.specs.Nodes.{KindValue, NodeValue, document, text, kind_at}
use Rattle.htmd_html5_state.specs.Nodes.{node_at, children_at, parent_at, with_kind, text_of}
use Rattle.htmd_html5.specs.Layout.{Coming, coming, or_text, next_texts, after_next_texts}
use Rattle.htmd_nodes.specs.Items.{Item, Data, text_node}
use Rattle.htmd_law_html5.specs.PageLetters.{occurrences, occurrences_in, with_text_in, texts_of}
use Rattle.htmd_law_html5.proofs.NodeTexts.{kinds, texts, with_text as with_node_text, kinds_with_kind, kind_read}
use Rattle.htmd_law_html5.proofs.NodeTexts.{is_element}
use Rattle.htmd_law_html5.proofs.NodeParts.{times, times_append, kind_other}
use Rattle.htmd_law_html5.proofs.Forests.{once_under, IsForest, here, elsewhere, once_at_most}
use Rattle.htmd_law_html5.proofs.TextsPut.{occurs_cons, occurs_append, occurs_nil, all_under}

-- ---- all children

abbrev pub all_children : List NodeValue → List ℕ
all_children [] = []
all_children (x ∷ nodes) = x.children ++ all_children nodes

abbrev pub once_any : Option ℕ → ℕ
once_any None = 0
once_any (Some p) = 1

below : (p q : ℕ) → once_under (Some (suc p)) (suc q) ≡ once_under (Some p) q
below p q =
    test (p == q) (λ t. let e = eqb-true p q t in here (suc p) (suc q) (ap suc e) ∙ sym (here p q e))
    (λ t. let e = eqb-false p q t in
    elsewhere (suc p) (suc q) (λ f. e (omega arith)) ∙ sym (elsewhere p q e))

-- a node stands there once, if it stands once under its parent and nowhere else
pub spread : (n : ℕ) (nodes : List NodeValue) (o : Option ℕ)
    → ((p : ℕ) → times n (children_at nodes p) ≤ once_under o p) → times n (all_children nodes) ≤ once_any o
spread n [] o h = omega arith
spread n (x ∷ nodes) None h =
    let a = times_append n x.children (all_children nodes) in
    let b = spread n nodes None (λ p. h (suc p)) in
    let d : times n x.children ≤ 0 = h zero in
    omega arith
spread n (x ∷ nodes) (Some zero) h =
    let a = times_append n x.children (all_children nodes) in
    let b = spread n nodes None
    (λ p. let e = elsewhere zero (suc p) (λ f. absurd (omega arith)) in let f = h (suc p) in omega arith) in
    let d : times n x.children ≤ once_under (Some zero) zero = h zero in
    let e = once_at_most (Some zero) zero in
    omega arith
spread n (x ∷ nodes) (Some (suc q)) h =
    let a = times_append n x.children (all_children nodes) in
    let b = spread n nodes (Some q) (λ p. let e = below q p in let f = h (suc p) in omega arith) in
    let d : times n x.children ≤ once_under (Some (suc q)) zero = h zero in
    let e = elsewhere (suc q) zero (λ f. absurd (omega arith)) in
    omega arith

any_at_most : (o : Option ℕ) → once_any o ≤ 1
any_at_most None = omega arith
any_at_most (Some p) = omega arith

pub children_once : (n : ℕ) (nodes : List NodeValue) → IsForest nodes → times n (all_children nodes) ≤ 1
children_once n nodes h =
    let a = spread n nodes (parent_at nodes n) (λ p. h.once n p) in
    let b = any_at_most (parent_at nodes n) in
    omega arith

-- ---- a node that was taken

pub kind_marked : (n m : ℕ) (nodes : List NodeValue) → (kind_at (with_kind n document nodes) m ≡ kind_at nodes m)
    ⊎ (kind_at (with_kind n document nodes) m ≡ document)
kind_marked n m [] = inl refl
kind_marked zero zero (x ∷ nodes) = inr refl
kind_marked zero (suc m) (x ∷ nodes) = inl refl
kind_marked (suc n) zero (x ∷ nodes) = inl refl
kind_marked (suc n) (suc m) (x ∷ nodes) = kind_marked n m nodes

-- each text is UTF-8
abbrev pub TextsUtf8 : List NodeValue → Type 0
TextsUtf8 nodes = (n : ℕ) (s : List ℕ) → kind_at nodes n ≡ text s → IsUtf8 s

pub marked_utf8 : (n : ℕ) (nodes : List NodeValue) → TextsUtf8 nodes → TextsUtf8 (with_kind n document nodes)
marked_utf8 n nodes h m s e =
    ⊎_elim (λ f. h m s (sym f ∙ e)) (λ f. absurd (let g : document ≡ text s = sym f ∙ e in cc))
    (kind_marked n m nodes)

text_is_utf8 : (k : KindValue) (s : List ℕ) (ts : List (List ℕ)) → k ≡ text s
    → All IsUtf8 (with_node_text k ts) → IsUtf8 s
text_is_utf8 (text t) s ts e all = let same : t ≡ s = cc in subst IsUtf8 same (All-head IsUtf8 t ts all)
text_is_utf8 _ s ts e all = absurd (cc)

pub nodes_utf8 : (nodes : List NodeValue) → All IsUtf8 (texts (kinds nodes)) → TextsUtf8 nodes
nodes_utf8 [] all n s e = absurd (cc)
nodes_utf8 (x ∷ nodes) all zero s e = text_is_utf8 x.kind s (texts (kinds nodes)) e all
nodes_utf8 (x ∷ nodes) all (suc n) s e = nodes_utf8 nodes (all_under x.kind (texts (kinds nodes)) all) n s e

module _ (c : ℕ) where
  -- how often the character stands in an item, and in a node
  unfoldable pub in_data : Data → ℕ
  in_data (text_node s) = occurrences c s
  in_data _ = 0

  unfoldable pub in_kind : KindValue → ℕ
  in_kind (text s) = occurrences c s
  in_kind _ = 0

  unfoldable pub in_items : List Item → ℕ
  in_items items = occurrences_in c (texts_of items)

  unfoldable pub in_nodes : List NodeValue → ℕ
  in_nodes nodes = occurrences_in c (texts (kinds nodes))

  pub data_more : (d : Data) (ts : List (List ℕ)) → occurrences_in c (with_text_in d ts)
      ≡ in_data d + occurrences_in c ts
  unfolding in_data
  data_more (text_node s) ts = occurs_cons c s ts
  data_more _ ts = omega arith

  pub item_more : (items : List Item) (item : Item)
      → in_items (items ++ item ∷ []) ≡ in_items items + in_data item.node_data
  unfolding in_items
  item_more [] item = data_more item.node_data [] ∙ omega arith
  item_more (first ∷ items) item =
      let a = data_more first.node_data (texts_of (items ++ item ∷ [])) in
      let b = data_more first.node_data (texts_of items) in
      let d = item_more items item in
      omega arith

  pub kind_more : (k : KindValue) (ts : List (List ℕ))
      → occurrences_in c (with_node_text k ts) ≡ in_kind k + occurrences_in c ts
  unfolding in_kind
  kind_more (text s) ts = occurs_cons c s ts
  kind_more _ ts = omega arith

  kind_taken : (ks : List KindValue) (n : ℕ)
      → occurrences_in c (texts (set ks n document)) + in_kind (get_or ks n document) ≡ occurrences_in c (texts ks)
  unfolding in_kind
  kind_taken [] n = omega arith
  kind_taken (k ∷ ks) zero = let a = kind_more k (texts ks) in omega arith
  kind_taken (k ∷ ks) (suc n) =
      let a = kind_more k (texts ks) in
      let b = kind_more k (texts (set ks n document)) in
      let d = kind_taken ks n in
      omega arith

  -- a node is taken
  pub node_taken : (nodes : List NodeValue) (n : ℕ)
      → in_nodes (with_kind n document nodes) + in_kind (kind_at nodes n) ≡ in_nodes nodes
  unfolding in_nodes
  node_taken nodes n =
      let a = ap (λ (x : List KindValue). occurrences_in c (texts x)) (kinds_with_kind n document nodes) in
      let b = ap in_kind (kind_read nodes n) in
      let d = kind_taken (kinds nodes) n in
      omega arith

  -- ---- what nodes and elements hold

  abbrev pub weigh : List NodeValue → List ℕ → ℕ
  weigh nodes [] = 0
  weigh nodes (n ∷ ns) = in_kind (kind_at nodes n) + weigh nodes ns

  abbrev pub weigh_work : List NodeValue → List Coming → ℕ
  weigh_work nodes [] = 0
  weigh_work nodes (x ∷ work) = in_kind (kind_at nodes x.node) + weigh_work nodes work

  -- the children of an element
  abbrev pub under : List NodeValue → NodeValue → ℕ
  under nodes x = cond (is_element x.kind) (weigh nodes x.children) 0

  abbrev pub under_all : List NodeValue → List NodeValue → ℕ
  under_all nodes [] = 0
  under_all nodes (x ∷ xs) = under nodes x + under_all nodes xs

  pub weigh_append : (nodes : List NodeValue) (ns ms : List ℕ) → weigh nodes (ns ++ ms)
      ≡ weigh nodes ns + weigh nodes ms
  weigh_append nodes [] ms = omega arith
  weigh_append nodes (n ∷ ns) ms = let h = weigh_append nodes ns ms in omega arith

  pub weigh_coming : (nodes : List NodeValue) (u : ℕ) (ns : List ℕ) (work : List Coming)
      → weigh_work nodes (map (coming u) ns ++ work) ≡ weigh nodes ns + weigh_work nodes work
  weigh_coming nodes u [] work = omega arith
  weigh_coming nodes u (n ∷ ns) work = let h = weigh_coming nodes u ns work in omega arith

  -- ---- a node that was taken holds nothing

  pub marked_fewer : (n m : ℕ) (nodes : List NodeValue)
      → in_kind (kind_at (with_kind n document nodes) m) ≤ in_kind (kind_at nodes m)
  unfolding in_kind
  marked_fewer n m nodes =
      ⊎_elim (λ e. let f = ap in_kind e in omega arith)
      (λ e. let f : in_kind (kind_at (with_kind n document nodes) m) ≡ 0 = ap in_kind e in omega arith)
      (kind_marked n m nodes)

  pub weigh_fewer : (n : ℕ) (nodes : List NodeValue) (ns : List ℕ) → weigh (with_kind n document nodes) ns
      ≤ weigh nodes ns
  weigh_fewer n nodes [] = omega arith
  weigh_fewer n nodes (m ∷ ns) =
      let a = marked_fewer n m nodes in let b = weigh_fewer n nodes ns in omega arith

  pub work_fewer : (n : ℕ) (nodes : List NodeValue) (work : List Coming)
      → weigh_work (with_kind n document nodes) work ≤ weigh_work nodes work
  work_fewer n nodes [] = omega arith
  work_fewer n nodes (x ∷ work) =
      let a = marked_fewer n x.node nodes in let b = work_fewer n nodes work in omega arith

  under_fewer : (n : ℕ) (nodes xs : List NodeValue) → under_all (with_kind n document nodes) xs
      ≤ under_all nodes xs
  under_fewer n nodes [] = omega arith
  under_fewer n nodes (x ∷ xs) =
      let a = weigh_fewer n nodes x.children in
      let b = under_fewer n nodes xs in
      test (is_element x.kind) (λ t. rw t (omega arith)) (λ t. rw t (omega arith))

  pub under_marked : (n : ℕ) (nodes xs : List NodeValue)
      → under_all nodes (with_kind n document xs) + under nodes (node_at xs n) ≡ under_all nodes xs
  under_marked n nodes [] = omega arith
  under_marked zero nodes (x ∷ xs) = omega arith
  under_marked (suc n) nodes (x ∷ xs) = let h = under_marked n nodes xs in omega arith

  -- what stood under it is under nothing
  pub under_taken : (n : ℕ) (nodes : List NodeValue)
      → under_all (with_kind n document nodes) (with_kind n document nodes) + under nodes (node_at nodes n)
      ≤ under_all nodes nodes
  under_taken n nodes =
      let a = under_fewer n nodes (with_kind n document nodes) in
      let b = under_marked n nodes nodes in
      omega arith

  -- ---- where each node stands once, all children hold what the nodes hold at most

  pub weigh_unmarked : (n : ℕ) (ns : List ℕ) (nodes : List NodeValue) → times n ns ≡ 0
      → weigh nodes ns ≤ weigh (with_kind n document nodes) ns
  weigh_unmarked n [] nodes e = omega arith
  weigh_unmarked n (m ∷ ns) nodes e =
      test (m == n) (λ t. absurd (let f = rw t at e in omega arith))
      (λ t. let f = rw t at e in
      let other = eqb-false m n t in
      let a = weigh_unmarked n ns nodes (omega arith) in
      let b : in_kind (kind_at (with_kind n document nodes) m) ≡ in_kind (kind_at nodes m) =
      ap in_kind (kind_other n m document nodes (λ g. other (sym g))) in
      omega arith)

  pub weigh_once : (ns : List ℕ) (nodes : List NodeValue) → ((n : ℕ) → times n ns ≤ 1) → weigh nodes ns
      ≤ in_nodes nodes
  weigh_once [] nodes h = omega arith
  weigh_once (n ∷ ns) nodes h =
      let own : (n == n) ≡ true = eq-eqb n n refl in
      let most : cond (n == n) 1 0 + times n ns ≤ 1 = h n in
      let once = rw own at most in
      let a = weigh_unmarked n ns nodes (omega arith) in
      let b = weigh_once ns (with_kind n document nodes)
      (λ m. let l : cond (n == m) 1 0 + times m ns ≤ 1 = h m in omega arith) in
      let d = node_taken nodes n in
      omega arith

  pub under_children : (nodes xs : List NodeValue) → under_all nodes xs ≤ weigh nodes (all_children xs)
  under_children nodes [] = omega arith
  under_children nodes (x ∷ xs) =
      let a = weigh_append nodes x.children (all_children xs) in
      let b = under_children nodes xs in
      test (is_element x.kind) (λ t. rw t (omega arith)) (λ t. rw t (omega arith))

  -- ---- texts that are joined

  -- for a node of this kind that comes next
  abbrev JoinedSame : List NodeValue → ℕ → Coming → List Coming → KindValue → Type 0
  JoinedSame nodes u x work k =
      occurrences c (or_text (if x.under == u then text_of k else None) (next_texts nodes u work))
      + weigh_work nodes (if is_some (if x.under == u then text_of k else None)
      then after_next_texts nodes u work else x ∷ work) ≡ in_kind k + weigh_work nodes work

  pub joined_same : (nodes : List NodeValue) (u : ℕ) (work : List Coming) → TextsUtf8 nodes
      → occurrences c (next_texts nodes u work) + weigh_work nodes (after_next_texts nodes u work)
      ≡ weigh_work nodes work
  unfolding in_kind
  joined_same nodes u [] h = let e = occurs_nil c in omega arith
  joined_same nodes u (x ∷ work) h = by_kind (kind_at nodes x.node) refl (joined_same nodes u work h)
    where
      by_kind : (k : KindValue) → kind_at nodes x.node ≡ k
          → occurrences c (next_texts nodes u work) + weigh_work nodes (after_next_texts nodes u work)
          ≡ weigh_work nodes work → JoinedSame nodes u x work k
      by_kind (text s) e l =
          let z = occurs_nil c in
          let a = occurs_append c s (next_texts nodes u work) (h x.node s e) in
          let f : in_kind (kind_at nodes x.node) ≡ occurrences c s = ap in_kind e in
          test (x.under == u) (λ t. rw t (omega arith)) (λ t. rw t (omega arith))
      by_kind k e l =
          let z = occurs_nil c in
          let f = ap in_kind e in
          test (x.under == u) (λ t. rw t (omega arith)) (λ t. rw t (omega arith))
