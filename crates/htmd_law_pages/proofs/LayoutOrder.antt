-- A document is laid out in document order.
use Rattle.std.proofs.Common.{◌≡◌, ◌∙◌, ℕ, zero, suc, ◌+◌, Bool, true, false, cond, List, [], ◌∷◌, ◌++◌, length}
use Rattle.std.proofs.Common.{None, refl, sym, ap, subst, arith, map}
use Rattle.std.specs.Prelude.{◌==◌, ◌||◌, is_some}
use Rattle.std.proofs.lemmas.Bool.{true≢false, eqb-true, eq-eqb, ne_eqb}
use Rattle.htmd_lexical.proofs.Cases.{test}
use Rattle.htmd_html5_state.specs.Names.{text_of_element_name}
use Rattle.htmd_html5_state.specs.Nodes.{KindValue, NodeValue, document, doctype, text, comment, element, kind_at}
use Rattle.htmd_html5_state.specs.Nodes.{children_at, text_of}
use Rattle.htmd_html5.specs.Layout.{Coming, coming, Layout, text_under, after_next_texts, with_text}
use Rattle.htmd_html5.specs.Layout.{with_kind_of, without_node, put_next, layout_within, first_layout, document_of}
use Rattle.htmd_html5.specs.Layout.{is_deepest, joined}
use Rattle.htmd_nodes.specs.Items.{Item, Data, doctype_node, text_node, comment_node, element_node, document_item}
use Rattle.htmd_nodes.specs.Items.{new_item}
use Rattle.htmd_nodes.specs.NumberedTrees.{tree_of}
use Rattle.htmd_law_html5.specs.PageLetters.{texts_of}
use Rattle.htmd_law_pages.specs.Pieces.{texts_in}
use Rattle.htmd_law_pages.proofs.DocumentOrder.{has, cut, opened, in_order, open_after, Below, below_lacks}
use Rattle.htmd_law_pages.proofs.DocumentOrder.{the_document}
use Rattle.htmd_law_pages.proofs.DocumentOrder.{order_push, open_push, below_open, below_cut, texts_of_tree}

-- ---- what is open up to a node

either_way : (P : List ℕ → Type 0) (b : Bool) (x y : List ℕ) → (b ≡ true → P x) → (b ≡ false → P y)
    → P (cond b x y)
either_way P true x y f g = f refl
either_way P false x y f g = g refl

-- the node is the innermost
abbrev IsInnermost : ℕ → List ℕ → Type 0
IsInnermost u path = (has u path ≡ true) × (cut u path ≡ path)

cut_innermost : (u : ℕ) (path : List ℕ) → has u path ≡ true → IsInnermost u (cut u path)
cut_innermost u [] h = absurd (true≢false (sym h))
cut_innermost u (s ∷ path) h =
    either_way (IsInnermost u) (u == s) (s ∷ path) (cut u path)
    (λ e. (ap (λ b. b || has u path) e, ap (λ b. cond b (s ∷ path) (cut u path)) e))
    (λ e. cut_innermost u path (sym (ap (λ b. b || has u path) e) ∙ h))

opened_innermost : (n : ℕ) (path : List ℕ) → IsInnermost n (n ∷ path)
opened_innermost n path =
    let e : (n == n) ≡ true = eq-eqb n n refl in
    (ap (λ b. b || has n path) e, ap (λ b. cond b (n ∷ path) (cut n path)) e)

-- ---- what comes

-- each node comes under one that is open once the nodes before it have come
abbrev Placed : List ℕ → List Coming → Type 0
Placed path [] = Unit {0}
Placed path (c ∷ work) = (has c.under path ≡ true) × Placed (cut c.under path) work

wider : (n : ℕ) (path : List ℕ) (work : List Coming) → Below n path → Placed path work
    → Placed (n ∷ path) work
wider n path [] b h = tt
wider n path (c ∷ work) b h =
    let other : (c.under == n) ≡ false = ne_eqb c.under n
    (λ e. absurd (true≢false (sym h.0 ∙ below_lacks n c.under path b (omega arith)))) in (
      ap (λ t. t || has c.under path) other ∙ h.0,
      subst (λ (x : List ℕ). Placed x work) (sym (ap (λ t. cond t (n ∷ path) (cut c.under path)) other)) h.1,
    )

uncut : (u : ℕ) (path : List ℕ) (work : List Coming) (n : ℕ) → Below n path → Placed (cut u path) work
    → Placed path work
uncut u [] work n b h = h
uncut u (s ∷ path) work n b h =
    test (u == s)
    (λ e. subst (λ (x : List ℕ). Placed x work) (ap (λ t. cond t (s ∷ path) (cut u path)) e) h)
    (λ e. wider s path work b.1 (uncut u path work s b.1
    (subst (λ (x : List ℕ). Placed x work) (ap (λ t. cond t (s ∷ path) (cut u path)) e) h)))

-- children of the innermost node
children_placed : (u : ℕ) (path children : List ℕ) (work : List Coming) → IsInnermost u path → Placed path work
    → Placed path (map (coming u) children ++ work)
children_placed u path [] work i h = h
children_placed u path (n ∷ children) work i h = (
  i.0,
  subst (λ (x : List ℕ). Placed x (map (coming u) children ++ work)) (sym i.1)
      (children_placed u path children work i h),
)

-- texts that come under the innermost node and go
texts_placed : (nodes : List NodeValue) (u : ℕ) (path : List ℕ) (work : List Coming) → IsInnermost u path
    → Placed path work → Placed path (after_next_texts nodes u work)
texts_placed nodes u path [] i h = tt
texts_placed nodes u path (c ∷ work) i h =
    test (c.under == u)
    (λ e.
    let rest : Placed path work = subst (λ (x : List ℕ). Placed x work) i.1
    (subst (λ (x : ℕ). Placed (cut x path) work) (eqb-true c.under u e) h.1) in
    either (is_some (text_under nodes u c)) (texts_placed nodes u path work i rest))
    (λ e. subst (λ (x : List Coming). Placed path x) (sym (stays e)) h)
  where
    either : (b : Bool) → Placed path (after_next_texts nodes u work)
        → Placed path (cond b (after_next_texts nodes u work) (c ∷ work))
    either true g = g
    either false g = h

    stays : (c.under == u) ≡ false → after_next_texts nodes u (c ∷ work) ≡ c ∷ work
    stays e =
        ap (λ b. cond (is_some (cond b (text_of (kind_at nodes c.node)) None)) (after_next_texts nodes u work)
        (c ∷ work)) e

-- ---- the items

-- the items come in document order, and what comes stands under what is open
record InOrder (l : Layout) : Type 0 where
  rest : List Item
  is : l.items ≡ document_item ∷ rest
  order : in_order 1 the_document rest ≡ true
  placed : Placed (open_after 1 the_document rest) l.work

is_below : (rest : List Item) → Below (1 + length rest) (open_after 1 the_document rest)
is_below rest = below_open rest 1 the_document (omega arith, tt)

numbered : (items rest : List Item) → items ≡ document_item ∷ rest → length items ≡ 1 + length rest
numbered items rest e = let a : length items ≡ suc (length rest) = ap length e in omega arith

-- one item more
item_put : (rest : List Item) (d : Data) (under : ℕ) (items : List Item) (new : Layout)
    → items ≡ document_item ∷ rest → in_order 1 the_document rest ≡ true
    → has under (open_after 1 the_document rest) ≡ true
    → new.items ≡ items ++ new_item items under d ∷ []
    → Placed (opened d (length items) (cut under (open_after 1 the_document rest))) new.work → InOrder new
item_put rest d under items new is order h e placed = record {
  rest = rest ++ new_item items under d ∷ [];
  is = e ∙ ap (λ (x : List Item). x ++ new_item items under d ∷ []) is;
  order = order_push rest (new_item items under d) 1 the_document order h;
  placed = subst (λ (x : List ℕ). Placed x new.work)
      (ap (λ k. opened d k (cut under (open_after 1 the_document rest))) (numbered items rest is)
      ∙ sym (open_push rest (new_item items under d) 1 the_document)) placed;
}

-- what comes first stands under what is open, and the rest after it
record Comes (l : Layout) (c : Coming) : Type 0 where
  rest : List Item
  is : l.items ≡ document_item ∷ rest
  order : in_order 1 the_document rest ≡ true
  first : has c.under (open_after 1 the_document rest) ≡ true
  placed : Placed (cut c.under (open_after 1 the_document rest)) l.work

text_put : (deepest : Bool) (s : List ℕ) (c : Coming) (l : Layout) (h : Comes l c)
    → InOrder (with_text deepest s c.under (without_node c.node l))
text_put true s c l h =
    item_put h.rest (text_node (joined s c.under (without_node c.node l))) c.under l.items
    (with_text true s c.under (without_node c.node l)) h.is h.order h.first refl
    (texts_placed (without_node c.node l).nodes c.under (cut c.under (open_after 1 the_document h.rest)) l.work
    (cut_innermost c.under (open_after 1 the_document h.rest) h.first) h.placed)
text_put false s c l h =
    item_put h.rest (text_node s) c.under l.items (with_text false s c.under (without_node c.node l)) h.is h.order
    h.first refl h.placed

element_put : (deepest : Bool) (name : _) (attributes : _) (c : Coming) (l : Layout) (h : Comes l c)
    → InOrder (with_kind_of deepest (element name attributes) c (without_node c.node l))
element_put deepest name attributes c l h =
    item_put h.rest (element_node (text_of_element_name name) attributes) c.under l.items
    (with_kind_of deepest (element name attributes) c (without_node c.node l)) h.is h.order h.first refl
    (either deepest)
  where
    path : List ℕ
    path = cut c.under (open_after 1 the_document h.rest)

    low : Below (length l.items) path
    low = subst (λ n. Below n path) (sym (numbered l.items h.rest h.is))
        (below_cut (1 + length h.rest) c.under (open_after 1 the_document h.rest) (is_below h.rest))

    children : List ℕ
    children = children_at (without_node c.node l).nodes c.node

    either : (b : Bool) → Placed (length l.items ∷ path)
        (map (coming (cond b c.under (length l.items))) children ++ l.work)
    either true =
        wider (length l.items) path (map (coming c.under) children ++ l.work) low
        (children_placed c.under path children l.work
        (cut_innermost c.under (open_after 1 the_document h.rest) h.first) h.placed)
    either false =
        children_placed (length l.items) (length l.items ∷ path) children l.work
        (opened_innermost (length l.items) path) (wider (length l.items) path l.work low h.placed)

kind_put : (deepest : Bool) (kind : KindValue) (c : Coming) (l : Layout) → Comes l c
    → InOrder (with_kind_of deepest kind c (without_node c.node l))
kind_put deepest document c l h = record {
  rest = h.rest;
  is = h.is;
  order = h.order;
  placed = uncut c.under (open_after 1 the_document h.rest) l.work (1 + length h.rest) (is_below h.rest) h.placed;
}
kind_put deepest doctype c l h =
    item_put h.rest doctype_node c.under l.items (with_kind_of deepest doctype c (without_node c.node l)) h.is h.order
    h.first refl h.placed
kind_put deepest (text s) c l h = text_put deepest s c l h
kind_put deepest (comment s) c l h =
    item_put h.rest (comment_node s) c.under l.items (with_kind_of deepest (comment s) c (without_node c.node l)) h.is
    h.order h.first refl h.placed
kind_put deepest (element name attributes) c l h = element_put deepest name attributes c l h

next_put : (limit : ℕ) (work : List Coming) (l : Layout) → l.work ≡ work → InOrder l
    → InOrder (put_next limit work l)
next_put limit [] l e h = h
next_put limit (c ∷ work) l e h =
    let placed = subst (Placed (open_after 1 the_document h.rest)) e h.placed in
    kind_put (is_deepest limit l.items c.under) (kind_at l.nodes c.node) c (record l { work = work }) (record {
      rest = h.rest;
      is = h.is;
      order = h.order;
      first = placed.0;
      placed = placed.1;
    })

all_put : (limit k : ℕ) (l : Layout) → InOrder l → InOrder (layout_within limit k l)
all_put limit zero l h = h
all_put limit (suc k) l h = all_put limit k (put_next limit l.work l) (next_put limit l.work l refl h)

-- The texts of a tree that is laid out are those of its items.
pub texts_laid : (limit : ℕ) (nodes : List NodeValue)
    → texts_in (tree_of (document_of limit nodes) 0) ≡ texts_of (document_of limit nodes)
texts_laid limit nodes =
    let h = all_put limit (length nodes) (first_layout nodes) (record {
      rest = [];
      is = refl;
      order = refl;
      placed = children_placed 0 the_document (children_at nodes 0) [] (opened_innermost 0 []) tt;
    }) in
    subst (λ (x : List Item). texts_in (tree_of x 0) ≡ texts_of x) (sym h.is) (texts_of_tree h.rest h.order)
