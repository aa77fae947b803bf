-- The texts of the tree hold what those of the nodes hold at most.
use Rattle.std.proofs.Common.{◌≡◌, ℕ, zero, suc, ◌+◌, ◌≤◌, Bool, true, false, List, [], ◌∷◌}
use Rattle.std.proofs.Common.{◌++◌, length, refl, sym, ap, subst, arith, cond, map, Option}
use Rattle.std.specs.Prelude.{if◌then◌else◌, IsUtf8}
use Rattle.std.proofs.lemmas.Bool.{true≢false}
use Rattle.htmd_html5_state.specs.Names.{text_of_element_name}
use Rattle.htmd_html5_state.specs.Nodes.{KindValue, NodeValue, document, doctype, text, comment, element, kind_at}
use Rattle.htmd_html5_state.specs.Nodes.{children_at, with_kind}
use Rattle.htmd_html5_state.specs.OpenElements.{OpenValue}
use Rattle.htmd_html5.specs.Layout.{Coming, coming, Layout, next_texts, with_text, with_kind_of, without_node, put_next}
use Rattle.htmd_html5.specs.Layout.{layout_within, first_layout, document_of, is_deepest}
use Rattle.htmd_nodes.specs.Items.{Data, doctype_node, text_node, comment_node, element_node, new_item}
use Rattle.htmd_law_html5.specs.PageLetters.{occurrences, occurrences_in, texts_of}
use Rattle.htmd_law_html5.proofs.NodeTexts.{kinds, texts, is_element}
use Rattle.htmd_law_html5.proofs.NodeParts.{children_of_kind}
use Rattle.htmd_law_html5.proofs.Forests.{IsForest}
use Rattle.htmd_law_html5.proofs.Keeping.{IsRooted, SoundIn}
use Rattle.htmd_law_html5.proofs.TextsPut.{occurs_append}
use Rattle.htmd_law_html5.proofs.NodeWeights.{all_children, children_once, TextsUtf8, marked_utf8, nodes_utf8, in_data}
use Rattle.htmd_law_html5.proofs.NodeWeights.{in_kind, in_items, in_nodes, item_more, weigh, weigh_work}
use Rattle.htmd_law_html5.proofs.NodeWeights.{under_all, weigh_append, weigh_coming, weigh_fewer, work_fewer}
use Rattle.htmd_law_html5.proofs.NodeWeights.{under_taken, weigh_once, under_children, joined_same}

module _ (c : ℕ) where
  -- ---- a step

  -- what the items hold, and what is still to come
  abbrev pub in_layout : Layout → ℕ
  in_layout l = in_items c l.items + weigh_work c l.nodes l.work + under_all c l.nodes l.nodes

  -- what was put held so much
  record Put (n : ℕ) (l new : Layout) : Type 0 where
    fewer : in_layout new ≤ in_layout l + n
    utf8 : TextsUtf8 new.nodes

  -- one item, for a node that was taken
  item_put : (n m : ℕ) (d : Data) (at : ℕ) (l new : Layout)
      → new.items ≡ l.items ++ new_item l.items at d ∷ [] → new.nodes ≡ with_kind m document l.nodes
      → in_data c d + weigh_work c new.nodes new.work ≤ n + weigh_work c (with_kind m document l.nodes) l.work
      → TextsUtf8 l.nodes → Put n l new
  item_put n m d at l new e same more h = record {
    fewer =
        let a = item_more c l.items (new_item l.items at d) in
        let b : in_items c new.items ≡ in_items c (l.items ++ new_item l.items at d ∷ []) = ap (in_items c) e in
        let f = under_taken c m l.nodes in
        let g = ap (λ (x : List NodeValue). under_all c x x) same in
        let w = work_fewer c m l.nodes l.work in
        omega arith;
    utf8 = subst TextsUtf8 (sym same) (marked_utf8 m l.nodes h);
  }

  text_put : (m : ℕ) (s : List ℕ) (at : ℕ) (l : Layout) (deepest : Bool) → IsUtf8 s → TextsUtf8 l.nodes
      → Put (occurrences c s) l (with_text deepest s at (without_node m l))
  unfolding in_data
  text_put m s at l false u h =
      item_put (occurrences c s) m (text_node s) at l (with_text false s at (without_node m l)) refl refl
      (omega arith) h
  text_put m s at l true u h =
      let a = occurs_append c s (next_texts (with_kind m document l.nodes) at l.work) u in
      let b = joined_same c (with_kind m document l.nodes) at l.work (marked_utf8 m l.nodes h) in
      item_put (occurrences c s) m (text_node (s ++ next_texts (with_kind m document l.nodes) at l.work)) at l
      (with_text true s at (without_node m l)) refl refl (omega arith) h

  element_put : (m : ℕ) (d : Data) (at u : ℕ) (l : Layout) (name : _) (attributes : _)
      → in_data c d ≡ 0 → kind_at l.nodes m ≡ element name attributes → TextsUtf8 l.nodes
      → Put 0 l (record l {
        nodes = with_kind m document l.nodes;
        items = l.items ++ new_item l.items at d ∷ [];
        work = map (coming u) (children_at (with_kind m document l.nodes) m) ++ l.work;
      })
  element_put m d at u l name attributes none e h = record {
    fewer =
        let a = item_more c l.items (new_item l.items at d) in
        let b = under_taken c m l.nodes in
        let f = weigh_coming c (with_kind m document l.nodes) u (children_at (with_kind m document l.nodes) m) l.work in
        let g = ap (weigh c (with_kind m document l.nodes)) (children_of_kind m m document l.nodes) in
        let i = weigh_fewer c m l.nodes (children_at l.nodes m) in
        let j = ap (λ (k : KindValue). cond (is_element k) (weigh c l.nodes (children_at l.nodes m)) 0) e in
        let w = work_fewer c m l.nodes l.work in
        omega arith;
    utf8 = marked_utf8 m l.nodes h;
  }

  kind_put : (k : KindValue) (x : Coming) (l : Layout) (deepest : Bool) → kind_at l.nodes x.node ≡ k
      → TextsUtf8 l.nodes → Put (in_kind c k) l (with_kind_of deepest k x (without_node x.node l))
  unfolding in_kind in_data
  kind_put document x l deepest e h = record {
    fewer =
        let a = under_taken c x.node l.nodes in let w = work_fewer c x.node l.nodes l.work in omega arith;
    utf8 = marked_utf8 x.node l.nodes h;
  }
  kind_put doctype x l deepest e h = item_put 0 x.node doctype_node x.under l _ refl refl (omega arith) h
  kind_put (text s) x l deepest e h = text_put x.node s x.under l deepest (h x.node s e) h
  kind_put (comment s) x l deepest e h = item_put 0 x.node (comment_node s) x.under l _ refl refl (omega arith) h
  kind_put (element name attributes) x l deepest e h =
      element_put x.node (element_node (text_of_element_name name) attributes) x.under
      (if deepest then x.under else length l.items) l name attributes refl e h

  put_first : (limit : ℕ) (work : List Coming) (l : Layout) → l.work ≡ work → TextsUtf8 l.nodes
      → Put 0 l (put_next limit work l)
  put_first limit [] l e h = record { fewer = omega arith; utf8 = h }
  put_first limit (x ∷ work) l e h =
      let p = kind_put (kind_at l.nodes x.node) x (record l { work = work })
      (is_deepest limit l.items x.under) refl h in
      let f = ap (weigh_work c l.nodes) e in
      record { fewer = let g = p.fewer in omega arith; utf8 = p.utf8 }

  put_all : (limit k : ℕ) (l : Layout) → TextsUtf8 l.nodes → in_layout (layout_within limit k l) ≤ in_layout l
  put_all limit zero l h = omega arith
  put_all limit (suc k) l h =
      let first = put_first limit l.work l refl h in
      let later = put_all limit k (put_next limit l.work l) first.utf8 in
      let f = first.fewer in
      omega arith

  -- ---- the whole document

  first_held : (nodes : List NodeValue) → IsRooted (kinds nodes) → IsForest nodes
      → in_layout (first_layout nodes) ≤ in_nodes c nodes
  unfolding in_items
  first_held [] root forest = absurd (true≢false root)
  first_held (x ∷ nodes) root forest =
      let a = weigh_coming c (x ∷ nodes) 0 x.children [] in
      let b = under_children c (x ∷ nodes) nodes in
      let d = weigh_append c (x ∷ nodes) x.children (all_children nodes) in
      let e = weigh_once c (x.children ++ all_children nodes) (x ∷ nodes)
      (λ n. children_once n (x ∷ nodes) forest) in
      let f = ap (λ (t : Bool). cond t (weigh c (x ∷ nodes) x.children) 0) root in
      omega arith

  pub laid_texts : (limit : ℕ) (nodes : List NodeValue) {head : Option ℕ} {entries : List (Option ℕ)}
      {stack : List OpenValue} → SoundIn nodes head entries stack
      → occurrences_in c (texts_of (document_of limit nodes)) ≤ occurrences_in c (texts (kinds nodes))
  unfolding in_items in_nodes
  laid_texts limit nodes h =
      let a = first_held nodes h.root h.forest in
      let b = put_all limit (length nodes) (first_layout nodes) (nodes_utf8 nodes h.utf8) in
      omega arith
