-- Items in document order: the texts of the items are those of their tree, in the same order.
use Rattle.std.proofs.Common.{◌≡◌, ◌∙◌, ℕ, suc, ◌+◌, ◌<◌, ◌≤◌, Bool, true, false, cond, List, [], ◌∷◌, ◌++◌, length}
use Rattle.std.proofs.Common.{Option, Some, None, refl, sym, ap, arith, append_assoc}
use Rattle.std.specs.Prelude.{◌==◌, ◌&&◌, ◌||◌}
use Rattle.std.proofs.lemmas.List.{append-nil}
use Rattle.std.proofs.lemmas.Bool.{true≢false, and_parts, or_parts, eqb-true, ne_eqb}
use Rattle.htmd_lexical.proofs.Cases.{test}
use Rattle.htmd_nodes.specs.Items.{Item, Data, document_node, doctype_node, text_node, comment_node, element_node}
use Rattle.htmd_nodes.specs.Items.{document_item, holds_children, is_child}
use Rattle.htmd_nodes.specs.NumberedTrees.{NumberedForest, none, with_children, forest_from, tree_of}
use Rattle.htmd_law_html5.specs.PageLetters.{with_text_in, texts_of}
use Rattle.htmd_law_pages.specs.Pieces.{texts_in, texts_among}

-- ---- what is open, from the innermost out

-- this node is open
abbrev pub has : ℕ → List ℕ → Bool
has p [] = false
has p (s ∷ path) = p == s || has p path

-- what is open once all in this node is closed
abbrev pub cut : ℕ → List ℕ → List ℕ
cut p [] = []
cut p (s ∷ path) = cond (p == s) (s ∷ path) (cut p path)

abbrev pub has_parent : Option ℕ → List ℕ → Bool
has_parent None path = false
has_parent (Some p) path = has p path

abbrev pub cut_at : Option ℕ → List ℕ → List ℕ
cut_at None path = path
cut_at (Some p) path = cut p path

-- with this node, if it can hold others
abbrev pub opened : Data → ℕ → List ℕ → List ℕ
opened d n path = cond (holds_children d) (n ∷ path) path

abbrev pub after : ℕ → List ℕ → Item → List ℕ
after n path item = opened item.node_data n (cut_at item.parent path)

-- each of these items, which are numbered from n on, stands under one that is open
abbrev pub in_order : ℕ → List ℕ → List Item → Bool
in_order n path [] = true
in_order n path (item ∷ items) = has_parent item.parent path && in_order (suc n) (after n path item) items

abbrev pub open_after : ℕ → List ℕ → List Item → List ℕ
open_after n path [] = path
open_after n path (item ∷ items) = open_after (suc n) (after n path item) items

-- ---- what is open comes before

-- the numbers grow from the outermost in, and are below n
abbrev pub Below : ℕ → List ℕ → Type 0
Below n [] = Unit {0}
Below n (s ∷ path) = (s < n) × Below s path

pub below_more : (n m : ℕ) (path : List ℕ) → n ≤ m → Below n path → Below m path
below_more n m [] l h = tt
below_more n m (s ∷ path) l h = (let a = h.0 in omega arith, h.1)

pub below_cut : (n p : ℕ) (path : List ℕ) → Below n path → Below n (cut p path)
below_cut n p [] h = tt
below_cut n p (s ∷ path) h =
    either (p == s) (below_more s n (cut p path) (let a = h.0 in omega arith) (below_cut s p path h.1))
  where
    either : (b : Bool) → Below n (cut p path) → Below n (cond b (s ∷ path) (cut p path))
    either true g = h
    either false g = g

pub below_opened : (n : ℕ) (d : Data) (path : List ℕ) → Below n path → Below (suc n) (opened d n path)
below_opened n d path h = either (holds_children d)
  where
    either : (b : Bool) → Below (suc n) (cond b (n ∷ path) path)
    either true = (omega arith, h)
    either false = below_more n (suc n) path (omega arith) h

pub below_after : (n : ℕ) (item : Item) (path : List ℕ) → Below n path → Below (suc n) (after n path item)
below_after n item path h = below_opened n item.node_data (cut_at item.parent path) (parted item.parent)
  where
    parted : (o : Option ℕ) → Below n (cut_at o path)
    parted None = h
    parted (Some p) = below_cut n p path h

-- what isn't below isn't open
pub below_lacks : (n q : ℕ) (path : List ℕ) → Below n path → n ≤ q → has q path ≡ false
below_lacks n q [] h l = refl
below_lacks n q (s ∷ path) h l =
    let a = h.0 in
    rw (ne_eqb q s (λ e. absurd (omega arith)), below_lacks s q path h.1 (omega arith)) refl

pub cut_lacks : (p q : ℕ) (path : List ℕ) → has q path ≡ false → has q (cut p path) ≡ false
cut_lacks p q [] e = refl
cut_lacks p q (s ∷ path) e = either (p == s) (cut_lacks p q path (or_parts (q == s) (has q path) e).1)
  where
    either : (b : Bool) → has q (cut p path) ≡ false → has q (cond b (s ∷ path) (cut p path)) ≡ false
    either true f = e
    either false f = f

pub opened_lacks : (n q : ℕ) (d : Data) (path : List ℕ) → q < n → has q path ≡ false → has q
    (opened d n path) ≡ false
opened_lacks n q d path l e = either (holds_children d)
  where
    either : (b : Bool) → has q (cond b (n ∷ path) path) ≡ false
    either true = rw (ne_eqb q n (λ f. absurd (omega arith)), e) refl
    either false = e

-- ---- what isn't open gets no more children

apart : (p q : ℕ) (path : List ℕ) → has p path ≡ true → has q path ≡ false → (p == q) ≡ false
apart p q path h e =
    test (p == q) (λ f. absurd (true≢false (sym h ∙ ap (λ x. has x path) (eqb-true p q f) ∙ e))) (λ f. f)

not_child : (o : Option ℕ) (q : ℕ) (path : List ℕ) → has_parent o path ≡ true → has q path ≡ false
    → is_child q o ≡ false
not_child None q path h e = refl
not_child (Some p) q path h e = apart p q path h e

cut_at_lacks : (o : Option ℕ) (q : ℕ) (path : List ℕ) → has q path ≡ false → has q (cut_at o path) ≡ false
cut_at_lacks None q path e = e
cut_at_lacks (Some p) q path e = cut_lacks p q path e

none_under : (items : List Item) (n q : ℕ) (path : List ℕ) → in_order n path items ≡ true
    → has q path ≡ false → q < n → forest_from n items q ≡ none
unfolding forest_from
none_under [] n q path e f l = refl
none_under (item ∷ items) n q path e f l =
    let parts = and_parts (has_parent item.parent path) (in_order (suc n) (after n path item) items) e in
    rw (not_child item.parent q path parts.0 f)
    (none_under items (suc n) q (after n path item) parts.1
    (opened_lacks n q item.node_data (cut_at item.parent path) l (cut_at_lacks item.parent q path f)) (omega arith))

-- ---- the texts of items

-- the texts that come under what is open, from the innermost out
abbrev under_all : ℕ → List Item → List ℕ → List (List ℕ)
under_all n items [] = []
under_all n items (s ∷ path) = texts_among (forest_from n items s) ++ under_all n items path

under_none : (n : ℕ) (path : List ℕ) → under_all n [] path ≡ []
unfolding forest_from
under_none n [] = refl
under_none n (s ∷ path) = under_none n path

apart_parts : (o : Option ℕ) (s : ℕ) (path : List ℕ) → has_parent o (s ∷ path) ≡ false
    → (is_child s o ≡ false) × (has_parent o path ≡ false)
apart_parts None s path e = (refl, refl)
apart_parts (Some p) s path e = or_parts (p == s) (has p path) e

-- an item under another node
others : (n : ℕ) (item : Item) (items : List Item) (path : List ℕ) → has_parent item.parent path ≡ false
    → under_all n (item ∷ items) path ≡ under_all (suc n) items path
unfolding forest_from
others n item items [] e = refl
others n item items (s ∷ path) e =
    let parts = apart_parts item.parent s path e in
    rw (parts.0, others n item items path parts.1) refl

-- the texts of a node, before those that come after it
own_first : (n : ℕ) (d : Data) (children : NumberedForest) (texts rest : List (List ℕ))
    → texts ≡ cond (holds_children d) (texts_among children) [] ++ rest
    → with_text_in d texts ≡ texts_in (with_children n d children) ++ rest
own_first n document_node children texts rest e = e
own_first n doctype_node children texts rest e = e
own_first n (text_node s) children texts rest e = ap (λ (x : List (List ℕ)). s ∷ x) e
own_first n (comment_node s) children texts rest e = e
own_first n (element_node name attributes) children texts rest e = e

cut_here : (o : Option ℕ) (s : ℕ) (path : List ℕ) → is_child s o ≡ true
    → cut_at o (s ∷ path) ≡ s ∷ path
cut_here None s path e = absurd (true≢false (sym e))
cut_here (Some p) s path e = ap (λ c. cond c (s ∷ path) (cut p path)) e

lacks_here : (o : Option ℕ) (s : ℕ) (path : List ℕ) → is_child s o ≡ true → Below s path
    → has_parent o path ≡ false
lacks_here None s path e b = refl
lacks_here (Some p) s path e b = let same : p ≡ s = eqb-true p s e in below_lacks s p path b (omega arith)

cut_there : (o : Option ℕ) (s : ℕ) (path : List ℕ) → is_child s o ≡ false
    → has_parent o (s ∷ path) ≡ true
    → cut_at o (s ∷ path) ≡ cut_at o path
cut_there None s path e h = absurd (true≢false (sym h))
cut_there (Some p) s path e h = ap (λ c. cond c (s ∷ path) (cut p path)) e

parent_there : (o : Option ℕ) (s : ℕ) (path : List ℕ) → is_child s o ≡ false
    → has_parent o (s ∷ path) ≡ true
    → has_parent o path ≡ true
parent_there None s path e h = h
parent_there (Some p) s path e h = sym (ap (λ c. c || has p path) e) ∙ h

-- an item is under the innermost node that is open
innermost : (n s : ℕ) (item : Item) (items : List Item) (path : List ℕ) → is_child s item.parent ≡ true
    → Below s path
    → with_text_in item.node_data (under_all (suc n) items (opened item.node_data n (s ∷ path)))
    ≡ under_all n (item ∷ items) (s ∷ path)
unfolding forest_from
innermost n s item items path e b =
    let inner : NumberedForest = forest_from (suc n) items n in
    let later : List (List ℕ) = texts_among (forest_from (suc n) items s) in
    let outer : List (List ℕ) = under_all (suc n) items path in
    own_first n item.node_data inner (under_all (suc n) items (opened item.node_data n (s ∷ path))) (later ++ outer)
    (split (holds_children item.node_data))
    ∙ (sym (append_assoc (texts_in (with_children n item.node_data inner)) later outer)
    ∙ rw (e, others n item items path (lacks_here item.parent s path e b)) refl)
  where
    split : (c : Bool) → under_all (suc n) items (cond c (n ∷ s ∷ path) (s ∷ path))
        ≡ cond c (texts_among (forest_from (suc n) items n)) []
        ++ (texts_among (forest_from (suc n) items s) ++ under_all (suc n) items path)
    split true = refl
    split false = refl

-- an item more, before all that comes later
one_more : (n : ℕ) (item : Item) (items : List Item) (path : List ℕ) → Below n path
    → has_parent item.parent path ≡ true → in_order (suc n) (after n path item) items ≡ true
    → with_text_in item.node_data (under_all (suc n) items (after n path item)) ≡ under_all n (item ∷ items) path
unfolding forest_from
one_more n item items [] b h e = absurd (true≢false (sym (nothing item.parent h)))
  where
    nothing : (o : Option ℕ) → has_parent o [] ≡ true → false ≡ true
    nothing None f = f
    nothing (Some p) f = f
one_more n item items (s ∷ path) b h e =
    test (is_child s item.parent)
    (λ f.
    ap (λ x. with_text_in item.node_data (under_all (suc n) items (opened item.node_data n x)))
    (cut_here item.parent s path f)
    ∙ innermost n s item items path f b.1)
    (λ f.
    let skipped = cut_there item.parent s path f h in
    let order : in_order (suc n) (after n path item) items ≡ true =
    sym (ap (λ x. in_order (suc n) (opened item.node_data n x) items) skipped) ∙ e in
    let low = b.0 in
    let nothing : forest_from (suc n) items s ≡ none =
    none_under items (suc n) s (after n path item) order
    (opened_lacks n s item.node_data (cut_at item.parent path) low
    (cut_at_lacks item.parent s path (below_lacks s s path b.1 (omega arith)))) (omega arith) in
    ap (λ x. with_text_in item.node_data (under_all (suc n) items (opened item.node_data n x))) skipped
    ∙ (one_more n item items path (below_more s n path (omega arith) b.1) (parent_there item.parent s path f h) order
    ∙ rw (f, nothing) refl))

texts_under : (items : List Item) (n : ℕ) (path : List ℕ) → Below n path → in_order n path items ≡ true
    → texts_of items ≡ under_all n items path
texts_under [] n path b e = sym (under_none n path)
texts_under (item ∷ items) n path b e =
    let parts = and_parts (has_parent item.parent path) (in_order (suc n) (after n path item) items) e in
    ap (with_text_in item.node_data)
    (texts_under items (suc n) (after n path item) (below_after n item path b) parts.1)
    ∙ one_more n item items path b parts.0 parts.1

-- ---- a whole tree

abbrev pub the_document : List ℕ
the_document = 0 ∷ []

pub texts_of_tree : (items : List Item) → in_order 1 the_document items ≡ true
    → texts_in (tree_of (document_item ∷ items) 0) ≡ texts_of (document_item ∷ items)
unfolding forest_from tree_of
texts_of_tree items e =
    sym (texts_under items 1 the_document (omega arith, tt) e
    ∙ append-nil (texts_among (forest_from 1 items 0)))

-- ---- an item more

pub order_push : (items : List Item) (x : Item) (n : ℕ) (path : List ℕ) → in_order n path items ≡ true
    → has_parent x.parent (open_after n path items) ≡ true → in_order n path (items ++ x ∷ []) ≡ true
order_push [] x n path e h = rw h refl
order_push (item ∷ items) x n path e h =
    let parts = and_parts (has_parent item.parent path) (in_order (suc n) (after n path item) items) e in
    rw (parts.0, order_push items x (suc n) (after n path item) parts.1 h) refl

pub open_push : (items : List Item) (x : Item) (n : ℕ) (path : List ℕ)
    → open_after n path (items ++ x ∷ []) ≡ after (n + length items) (open_after n path items) x
open_push [] x n path = ap (λ k. after k path x) (zero_more n)
  where
    zero_more : (n : ℕ) → n ≡ n + 0
    zero_more n = omega arith
open_push (item ∷ items) x n path =
    open_push items x (suc n) (after n path item)
    ∙ ap (λ k. after k (open_after (suc n) (after n path item) items) x) (moved n (length items))
  where
    moved : (n k : ℕ) → suc n + k ≡ n + suc k
    moved n k = omega arith

pub below_open : (items : List Item) (n : ℕ) (path : List ℕ) → Below n path
    → Below (n + length items) (open_after n path items)
below_open [] n path b = below_more n (n + 0) path (omega arith) b
below_open (item ∷ items) n path b =
    below_more (suc n + length items) (n + suc (length items)) (open_after (suc n) (after n path item) items)
    (omega arith) (below_open items (suc n) (after n path item) (below_after n item path b))
