-- Which part of a document each node of its layout is.
use Rattle.std.proofs.Common.{◌≡◌, ℕ, zero, suc, ◌+◌, ◌<◌, ◌≤◌, Bool, true, false, ◌&&◌, List, [], ◌∷◌, ◌++◌, length}
use Rattle.std.proofs.Common.{map, refl, sym, ap, ◌∙◌, subst, arith, inl, inr, Option, Some, None, is_some, codes}
use Rattle.std.proofs.lemmas.Bool.{cases_lt, and_parts}
use Rattle.std.proofs.lemmas.List.{append_assoc, append-nil, length-append}
use Rattle.htmd_values.specs.ValueTrees.{ValueTree, document, doctype, text, comment, element, ValueForest, none, more}
use Rattle.htmd_lexical.specs.AttributePairs.{AttributePair}
use Rattle.htmd_grammar.specs.Nesting.{Context}
use Rattle.htmd_grammar.specs.ReadBack.{IsIn, AreIn}
use Rattle.htmd_grammar.specs.Rules.{Rules}
use Rattle.htmd_grammar.specs.HtmlDocuments.{below_body}
use Rattle.htmd_grammar.specs.Grammar.{ReadsTree, ReadsForest, may_end_rows}
use Rattle.htmd_grammar.specs.RawContent.{content_of}
use Rattle.htmd_values.specs.Serialisation.{is_void}
use Rattle.htmd_grammar.specs.ReaderSteps.{body, with_children}
use Rattle.htmd_lexical.proofs.Cases.{test}
use Rattle.htmd_nodes.specs.Items.{Data, document_node, doctype_node, text_node, comment_node, element_node, Item}
use Rattle.htmd_nodes.specs.Items.{document_item, item_at, parent_at, depth_at, data_at}
use Rattle.htmd_nodes.specs.NumberedTrees.{forest_from, tree_of, value_tree, value_forest}
use Rattle.htmd_nodes.specs.NumberedTrees as numbered
use Rattle.htmd_tree.specs.OpenItems.{items_above, stack_items}
use Rattle.htmd_nodes.specs.Ancestors.{ancestor_of, ancestors_up, ancestors_of}
use Rattle.htmd_grammar.specs.HtmlDocuments.{with_doctype, skeleton}
use Rattle.htmd_nodes.specs.Layout.{size, sizes, item_under, tree_items, forest_items, document_items}
use Rattle.htmd_tree.specs.NodeValues.{ancestor_names}
use Rattle.htmd_nodes.specs.NumberedTrees.{value_at}
use Rattle.htmd_nodes.proofs.LayoutLemmas.{HasNoChildren, other_first, renumbered, forest_items-skip}
use Rattle.htmd_nodes.proofs.LayoutLemmas.{forest_items-denotes}
use Rattle.htmd_nodes.proofs.LayoutLemmas.{item_at-middle, length-tree_items, length-forest_items}

-- a document is laid out as the items of `body`, which is open
pub laid_out : (o : Option (List ℕ)) (content : ValueForest)
    → stack_items (is_some o) (with_children body content ∷ [])
    ≡ document_items (with_doctype o (skeleton content))
laid_out None content =
    let items : List Item = forest_items 3 3 4 content in
    ap (λ (y : List Item). stack_items false (body ∷ []) ++ y) (sym (append-nil (items ++ []) ∙ append-nil items))
laid_out (Some rest) content =
    let items : List Item = forest_items 3 4 5 content in
    ap (λ (y : List Item). stack_items true (body ∷ []) ++ y) (sym (append-nil (items ++ []) ∙ append-nil items))

-- ---- content

-- no Document or Doctype
abbrev mutual
  pub is_content : ValueTree → Bool
  is_content (document children) = false
  is_content doctype = false
  is_content (text s) = true
  is_content (comment s) = true
  is_content (element name attributes children) = are_content children

  pub are_content : ValueForest → Bool
  are_content none = true
  are_content (more tree trees) = is_content tree && are_content trees

-- ---- nodes that come after

-- none of these items is a child of a node that comes after them
abbrev pub StandBefore : List Item → Type 0
StandBefore before = (q : ℕ) (rest : List Item) → length before ≤ q
    → forest_from 0 (before ++ rest) q ≡ forest_from (length before) rest q

mutual
  tree_items-behind : (t : ValueTree) (d p b n q : ℕ) (rest : List Item) → n ≡ b + size t → p < b → n ≤ q
      → forest_from b (tree_items d p b t ++ rest) q ≡ forest_from n rest q
  tree_items-behind (document children) d p b n q rest e l m =
      other_first d p b document_node (forest_items (suc d) b (suc b) children ++ rest) q (omega arith)
      ∙ forest_items-behind children (suc d) b (suc b) n q rest (omega arith) (omega arith) m
  tree_items-behind doctype d p b n q rest e l m = other_first d p b doctype_node rest q (omega arith)
      ∙ renumbered (suc b) n q rest (omega arith)
  tree_items-behind (text s) d p b n q rest e l m = other_first d p b (text_node s) rest q (omega arith)
      ∙ renumbered (suc b) n q rest (omega arith)
  tree_items-behind (comment s) d p b n q rest e l m = other_first d p b (comment_node s) rest q (omega arith)
      ∙ renumbered (suc b) n q rest (omega arith)
  tree_items-behind (element name attributes children) d p b n q rest e l m =
      other_first d p b (element_node name attributes) (forest_items (suc d) b (suc b) children ++ rest) q (omega arith)
      ∙ forest_items-behind children (suc d) b (suc b) n q rest (omega arith) (omega arith) m

  forest_items-behind : (ts : ValueForest) (d p b n q : ℕ) (rest : List Item) → n ≡ b + sizes ts → p < b
      → n ≤ q
      → forest_from b (forest_items d p b ts ++ rest) q ≡ forest_from n rest q
  forest_items-behind none d p b n q rest e l m = renumbered b n q rest (omega arith)
  forest_items-behind (more t ts) d p b n q rest e l m =
      ap (λ x. forest_from b x q) (append_assoc (tree_items d p b t) (forest_items d p (b + size t) ts) rest)
      ∙ (tree_items-behind t d p b (b + size t) q (forest_items d p (b + size t) ts ++ rest) refl l (omega arith)
      ∙ forest_items-behind ts d p (b + size t) n q rest (omega arith) (omega arith) m)

pub one_more : (before : List Item) (d p : ℕ) (x : Data) → StandBefore before → p ≤ length before
    → StandBefore (before ++ item_under d p x ∷ [])
one_more before d p x h l q rest m =
    let n : length (before ++ item_under d p x ∷ []) ≡ suc (length before) =
    length-append before (item_under d p x ∷ []) ∙ omega arith in
    ap (λ y. forest_from 0 y q) (append_assoc before (item_under d p x ∷ []) rest)
    ∙ (h q (item_under d p x ∷ rest) (omega arith)
    ∙ (other_first d p (length before) x rest q (omega arith) ∙ renumbered (suc (length before)) _ q rest n))

tree_more : (before : List Item) (d p b : ℕ) (t : ValueTree) → StandBefore before → length before ≡ b → p < b
    → StandBefore (before ++ tree_items d p b t)
tree_more before d p b t h e l q rest m =
    let n : length (before ++ tree_items d p b t) ≡ length before + size t =
    length-append before (tree_items d p b t) ∙ ap (λ k. length before + k) (length-tree_items t d p b) in
    ap (λ y. forest_from 0 y q) (append_assoc before (tree_items d p b t) rest)
    ∙ (h q (tree_items d p b t ++ rest) (omega arith)
    ∙ (renumbered (length before) b q (tree_items d p b t ++ rest) (sym e)
    ∙ tree_items-behind t d p b (length (before ++ tree_items d p b t)) q rest (omega arith) l m))

-- ---- parts

module _ (items : List Item) where
  -- a child of node p has these ancestors
  pub record IsAbove (d p : ℕ) (c : Context) : Type 0 where
    pub depth : depth_at items p ≡ d
    pub names : map (λ a. a.tag) (ancestor_of (data_at items p) ∷ ancestors_up d items p) ≡ c

  module _ (d p k : ℕ) (x : Data) (at : item_at items k ≡ item_under (suc d) p x) where
    names_at : (c : Context) → IsAbove d p c → ancestor_names items k ≡ c
    unfolding ancestors_of ancestors_up
    names_at c a =
        let depth : depth_at items k ≡ suc d = ap (λ (i : Item). i.depth) at in
        let parent : parent_at items k ≡ Some p = ap (λ (i : Item). i.parent) at in
        rw (depth, parent) a.names

    value_is : value_at items k ≡ value_tree (numbered.with_children k x (forest_from 0 items k))
    unfolding tree_of
    value_is = ap (λ (i : Item). value_tree (numbered.with_children k i.node_data (forest_from 0 items k))) at

    below_is : (n : List ℕ) (attributes : List AttributePair) (c : Context) → x ≡ element_node n attributes
        → IsAbove d p c
        → IsAbove (suc d) k (n ∷ c)
    unfolding ancestors_up
    below_is n attributes c e a =
        let parent : parent_at items k ≡ Some p = ap (λ (i : Item). i.parent) at in
        let what : data_at items k ≡ element_node n attributes = ap (λ (i : Item). i.node_data) at ∙ e in
        record { depth = ap (λ (i : Item). i.depth) at; names = rw (what, parent) (ap (λ y. n ∷ y) a.names) }

  -- ---- the part that a node is

  placed : (before rest : List Item) (x : Item) (b : ℕ) → items ≡ before ++ (x ∷ rest) → length before ≡ b
      → item_at items b ≡ x
  placed before rest x b e n =
      ap (λ k. item_at items k) (sym n)
      ∙ (ap (λ y. item_at y (length before)) e ∙ item_at-middle before rest x)

  leaf_part : (d p b k : ℕ) (c : Context) (x : Data) → item_at items b ≡ item_under (suc d) p x → IsAbove d p c
      → b ≤ k → k < b + 1 → (ancestor_names items k ≡ c)
      × (value_at items k ≡ value_tree (numbered.with_children k x (forest_from 0 items k)))
  leaf_part d p b k c x at a l m =
      let e : b ≡ k = omega arith in
      let here : item_at items k ≡ item_under (suc d) p x =
      subst (λ j. item_at items j ≡ item_under (suc d) p x) e at in
      (names_at d p k x here c a, value_is d p k x here)

  element_value : (d p b : ℕ) (n : List ℕ) (attributes : List AttributePair) (children : ValueForest)
      (before rest : List Item)
      → items ≡ before ++ (item_under (suc d) p (element_node n attributes)
      ∷ (forest_items (suc (suc d)) b (suc b) children ++ rest))
      → length before ≡ b → StandBefore before → p < b → HasNoChildren b (b + suc (sizes children)) rest
      → value_at items b ≡ element n attributes children
  element_value d p b n attributes children before rest e count h l none_there =
      let inner : List Item = forest_items (suc (suc d)) b (suc b) children ++ rest in
      let at = placed before inner (item_under (suc d) p (element_node n attributes)) b e count in
      let behind : forest_from 0 items b ≡ forest_from (suc b) inner b =
      ap (λ y. forest_from 0 y b) e
      ∙ (h b (item_under (suc d) p (element_node n attributes) ∷ inner) (omega arith)
      ∙ (renumbered (length before) b b (item_under (suc d) p (element_node n attributes) ∷ inner) (sym count)
      ∙ other_first (suc d) p b (element_node n attributes) inner b (omega arith))) in
      let denotes : value_forest (forest_from (suc b) inner b) ≡ children =
      forest_items-denotes children (suc (suc d)) b (suc b) (b + suc (sizes children)) rest (omega arith) (omega arith)
      (λ q m k. none_there q (omega arith) k) (none_there b (omega arith) (omega arith)) in
      value_is d p b (element_node n attributes) at
      ∙ ap (λ y. element n attributes y) (ap value_forest behind ∙ denotes)

  mutual
    tree_parts : (t : ValueTree) (d p b k : ℕ) (c : Context) (before rest : List Item)
        → items ≡ before ++ (tree_items (suc d) p b t ++ rest) → length before ≡ b → StandBefore before
        → p < b
        → HasNoChildren b (b + size t) rest → IsAbove d p c → is_content t ≡ true → b ≤ k → k < b + size t
        → IsIn c t (ancestor_names items k) (value_at items k)
    tree_parts (document children) d p b k c before rest e n h l none_there a i m j = absurd (cc)
    tree_parts doctype d p b k c before rest e n h l none_there a i m j = absurd (cc)
    tree_parts (text s) d p b k c before rest e n h l none_there a i m j =
        leaf_part d p b k c (text_node s) (placed before rest _ b e n) a m j
    tree_parts (comment s) d p b k c before rest e n h l none_there a i m j =
        leaf_part d p b k c (comment_node s) (placed before rest _ b e n) a m j
    tree_parts (element name attributes children) d p b k c before rest e n h l none_there a i m j =
        let x : Item = item_under (suc d) p (element_node name attributes) in
        let inner : List Item = forest_items (suc (suc d)) b (suc b) children in
        let at = placed before (inner ++ rest) x b e n in
        let count : length (before ++ x ∷ []) ≡ suc b = length-append before (x ∷ []) ∙ omega arith in
        elim (cases_lt b k) [
          | inl inside ↦ inr (forest_parts children (suc d) b (suc b) k (name ∷ c) (before ++ x ∷ []) rest
              (e ∙ sym (append_assoc before (x ∷ []) (inner ++ rest))) count
              (one_more before (suc d) p (element_node name attributes) h (omega arith)) (omega arith)
              (λ q y z. renumbered (suc b + sizes children) (b + suc (sizes children)) q rest (omega arith)
              ∙ none_there q (omega arith) (omega arith))
              (below_is d p b (element_node name attributes) at name attributes c refl a) i (omega arith) (omega arith))
          | inr out ↦ let same : b ≡ k = omega arith in
              subst (λ j. IsIn c (element name attributes children) (ancestor_names items j) (value_at items j)) same
              (inl (
                names_at d p b (element_node name attributes) at c a,
                element_value d p b name attributes children before rest e n h l none_there,
              ))
        ]

    pub forest_parts : (ts : ValueForest) (d p b k : ℕ) (c : Context) (before rest : List Item)
        → items ≡ before ++ (forest_items (suc d) p b ts ++ rest) → length before ≡ b → StandBefore before
        → p < b
        → HasNoChildren b (b + sizes ts) rest → IsAbove d p c → are_content ts ≡ true → b ≤ k
        → k < b + sizes ts
        → AreIn c ts (ancestor_names items k) (value_at items k)
    forest_parts none d p b k c before rest e n h l none_there a i m j = absurd (omega arith)
    forest_parts (more t ts) d p b k c before rest e n h l none_there a i m j =
        let first : List Item = tree_items (suc d) p b t in
        let later : List Item = forest_items (suc d) p (b + size t) ts in
        let whole : items ≡ before ++ (first ++ (later ++ rest)) =
        e ∙ ap (λ y. before ++ y) (append_assoc first later rest) in
        let both = and_parts (is_content t) (are_content ts) i in
        let count : length (before ++ first) ≡ b + size t =
        length-append before first ∙ (ap (λ z. length before + z) (length-tree_items t (suc d) p b)
        ∙ ap (λ z. z + size t) n) in
        elim (cases_lt k (b + size t)) [
          | inl within ↦ inl (tree_parts t d p b k c before (later ++ rest) whole n h l
              (λ q y z. forest_items-skip ts (suc d) p (b + size t) (b + sizes (more t ts)) q rest (omega arith)
              (omega arith) z ∙ none_there q y (omega arith)) a both.0 m within)
          | inr past ↦ inr (forest_parts ts d p (b + size t) k c (before ++ first) rest
              (whole ∙ sym (append_assoc before first (later ++ rest))) count
              (tree_more before (suc d) p b t h n l) (omega arith)
              (λ q y z. renumbered ((b + size t) + sizes ts) (b + (size t + sizes ts)) q rest (omega arith)
              ∙ none_there q (omega arith) (omega arith)) a both.1 past (omega arith))
        ]

-- ---- a document

none_behind : (b n : ℕ) → HasNoChildren b n []
unfolding forest_from
none_behind b n q l m = refl

document_before : StandBefore (document_item ∷ [])
unfolding forest_from
document_before q rest l = refl

abbrev html_item : Item
html_item = item_under 1 0 (element_node (codes "html") [])

body_above : (has_doctype : Bool) (content : ValueForest)
    → IsAbove (stack_items has_doctype (with_children body content ∷ [])) 2 (length (items_above has_doctype))
    below_body
unfolding ancestors_up
body_above false content = record { depth = refl; names = refl }
body_above true content = record { depth = refl; names = refl }

pub parts_without : (content : ValueForest) → are_content content ≡ true → (id : ℕ)
    → 2 < depth_at (stack_items false (with_children body content ∷ [])) id
    → id < length (stack_items false (with_children body content ∷ []))
    → AreIn below_body content (ancestor_names (stack_items false (with_children body content ∷ [])) id)
    (value_at (stack_items false (with_children body content ∷ [])) id)
parts_without content a zero l m = absurd (omega arith)
parts_without content a (suc zero) l m = absurd (omega arith)
parts_without content a (suc (suc zero)) l m = absurd (omega arith)
parts_without content a (suc (suc (suc zero))) l m = absurd (omega arith)
parts_without content a (suc (suc (suc (suc id)))) l m =
    let items : List Item = stack_items false (with_children body content ∷ []) in
    let html : List Item = document_item ∷ html_item ∷ [] in
    let head : List Item = html ++ item_under 2 1 (element_node (codes "head") []) ∷ [] in
    let before : List Item = head ++ item_under 2 1 (element_node (codes "body") []) ∷ [] in
    let n = length-forest_items content 3 3 4 in
    forest_parts items content 2 3 4 (suc (suc (suc (suc id)))) below_body before []
    (ap (λ (y : List Item). before ++ y) (sym (append-nil (forest_items 3 3 4 content)))) refl
    (one_more head 2 1 (element_node (codes "body") [])
    (one_more html 2 1 (element_node (codes "head") [])
    (one_more (document_item ∷ []) 1 0 (element_node (codes "html") []) document_before (omega arith)) (omega arith))
    (omega arith)) (omega arith) (none_behind 4 (4 + sizes content)) (body_above false content) a (omega arith)
    (omega arith)

pub parts_with : (content : ValueForest) → are_content content ≡ true → (id : ℕ)
    → 2 < depth_at (stack_items true (with_children body content ∷ [])) id
    → id < length (stack_items true (with_children body content ∷ []))
    → AreIn below_body content (ancestor_names (stack_items true (with_children body content ∷ [])) id)
    (value_at (stack_items true (with_children body content ∷ [])) id)
parts_with content a zero l m = absurd (omega arith)
parts_with content a (suc zero) l m = absurd (omega arith)
parts_with content a (suc (suc zero)) l m = absurd (omega arith)
parts_with content a (suc (suc (suc zero))) l m = absurd (omega arith)
parts_with content a (suc (suc (suc (suc zero)))) l m = absurd (omega arith)
parts_with content a (suc (suc (suc (suc (suc id))))) l m =
    let items : List Item = stack_items true (with_children body content ∷ []) in
    let type : List Item = document_item ∷ item_under 1 0 doctype_node ∷ [] in
    let html : List Item = type ++ html_item ∷ [] in
    let head : List Item = html ++ item_under 2 2 (element_node (codes "head") []) ∷ [] in
    let before : List Item = head ++ item_under 2 2 (element_node (codes "body") []) ∷ [] in
    let n = length-forest_items content 3 4 5 in
    forest_parts items content 2 4 5 (suc (suc (suc (suc (suc id))))) below_body before []
    (ap (λ (y : List Item). before ++ y) (sym (append-nil (forest_items 3 4 5 content)))) refl
    (one_more head 2 2 (element_node (codes "body") [])
    (one_more html 2 2 (element_node (codes "head") [])
    (one_more type 1 0 (element_node (codes "html") [])
    (one_more (document_item ∷ []) 1 0 doctype_node document_before (omega arith)) (omega arith)) (omega arith))
    (omega arith)) (omega arith) (none_behind 5 (5 + sizes content)) (body_above true content) a (omega arith)
    (omega arith)

-- ---- what was read is content

mutual
  tree_is_content : (rules : Rules) (t : ValueTree) (c : Context) (last : Bool) (s : List ℕ)
      → ReadsTree rules c last t s → is_content t ≡ true
  tree_is_content rules (document children) c last s h = absurd h
  tree_is_content rules doctype c last s h = absurd h
  tree_is_content rules (text u) c last s h = refl
  tree_is_content rules (comment u) c last s h = refl
  tree_is_content rules (element n attributes children) c last s h = elim (h.2) [
    | inl a ↦ test (is_void n) (λ e. ap are_content ((rw e at (a.5)).2))
        (λ e. forest_is_content rules children (n ∷ c) true (content_of n (a.1)) ((rw e at (a.5)).0))
    | inr b ↦ forest_is_content rules children (n ∷ c) true (b.0) (b.6)
  ]

  pub forest_is_content : (rules : Rules) (ts : ValueForest) (c : Context) (last : Bool) (s : List ℕ)
      → ReadsForest rules c last ts s → are_content ts ≡ true
  forest_is_content rules none c last s h = refl
  forest_is_content rules (more t ts) c last s h =
      rw (
        tree_is_content rules t c (may_end_rows last ts (h.1)) (h.0) (h.4),
        forest_is_content rules ts c last (h.1) (h.5),
      ) refl
