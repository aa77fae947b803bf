-- The nodes of trees are laid out as the items of the trees.
use Rattle.std.proofs.Common.{None, max, ◌≤◌, ◌≡◌, ℕ, zero, suc, ◌+◌, ◌<◌, Bool, true, false, ◌&&◌, ◌||◌, List}
use Rattle.std.proofs.Common.{[], ◌∷◌}
use Rattle.std.proofs.Common.{◌++◌}
use Rattle.std.proofs.Common.{map, length, refl, sym, ap, ◌∙◌, arith, append_assoc, length-append}
use Rattle.std.specs.Prelude.{◌==◌, if◌then◌else◌}
use Rattle.htmd_lexical.proofs.Cases.{test}
use Rattle.std.proofs.lemmas.Bool.{and_parts, and_from, eq-eqb}
use Rattle.std.proofs.lemmas.Bool.Decides.{nat_tests}
use Rattle.std.proofs.lemmas.List.{append-nil, get_or_append_left, get_or_at, length-map, map-append, set_at}
use Rattle.htmd_lexical.specs.AttributePairs.{AttributePair}
use Rattle.htmd_values.specs.ValueTrees.{ValueTree, ValueForest, none, more, document, doctype, text}
use Rattle.htmd_values.specs.ValueTrees.{comment, element}
use Rattle.htmd_nodes.specs.Items.{Data, text_node, comment_node, element_node, Item, document_item, depth_at}
use Rattle.htmd_nodes.specs.Items.{new_item}
use Rattle.htmd_nodes.specs.Layout.{size, sizes, item_under, tree_items, forest_items}
use Rattle.htmd_nodes.proofs.LayoutLemmas.{item_at-middle, length-tree_items}
use Rattle.htmd_html5_state.specs.Names.{ElementNameValue, html, name_of_text, text_of_name, text_of_element_name}
use Rattle.htmd_html5_state.specs.Nodes.{text_of, NodeValue, kind_at, with_kind}
use Rattle.htmd_html5.specs.Layout.{next_text, next_texts, after_next_texts, parent_of_children, Coming, coming}
use Rattle.htmd_html5.specs.Layout.{Layout}
use Rattle.htmd_html5.specs.Layout.{is_deepest, with_kind_of, without_node, put_node, layout_within}
use Rattle.htmd_law_html5.specs.StrictTrees.{is_plain_element, is_plain_body, is_plain_tree, are_plain}
use Rattle.htmd_law_html5.specs.StrictTrees.{are_plain_table, are_plain_rows}
use Rattle.htmd_law_html5.proofs.StrictNodes.{is_text, numbers, node, tree_nodes, forest_nodes, tree_count}
use Rattle.htmd_law_html5.proofs.StrictNodes.{kind_after}
use Rattle.htmd_law_html5.proofs.StrictNodes.{children_after}
use Rattle.htmd_grammar.specs.Grammar.{Apart, begins_with_row}
use Rattle.htmd_grammar.specs.Nesting.{is_table, is_tbody}
use Rattle.htmd_law_html5.proofs.StrictOpen.{name_kept}
use Rattle.htmd_html5_state.specs.Nodes as documents

-- ---- a node that was laid out

abbrev pub blank : NodeValue → NodeValue
blank x = record x { kind = documents.document }

abbrev pub blanked : List NodeValue → List NodeValue
blanked xs = map blank xs

blank_at : (front : List NodeValue) (x : NodeValue) (back : List NodeValue) (n : ℕ) → length front ≡ n
    → with_kind n documents.document (front ++ (x ∷ back)) ≡ front ++ (blank x ∷ back)
blank_at front x back n e =
    rw (get_or_at front x back (documents.new_node documents.document) n e) (set_at front x back _ n e)

abbrev pub layout : List NodeValue → List Item → List Coming → Layout
layout nodes items work = record { nodes = nodes; items = items; work = work }

-- a node is laid out by its kind
node_laid : (limit : ℕ) (front : List NodeValue) (x : NodeValue) (back : List NodeValue) (items : List Item)
    (work : List Coming) (under b : ℕ) → length front ≡ b
    → put_node limit (coming under b) (layout (front ++ (x ∷ back)) items work)
    ≡ with_kind_of (is_deepest limit items under) x.kind (coming under b)
    (layout (front ++ (blank x ∷ back)) items work)
node_laid limit front x back items work under b e =
    let deep : Bool = is_deepest limit items under in
    ap (λ kind. with_kind_of deep kind (coming under b) (without_node b (layout (front ++ (x ∷ back)) items work)))
    (kind_after front x back b e)
    ∙ ap (λ nodes. with_kind_of deep x.kind (coming under b) (layout nodes items work)) (blank_at front x back b e)

shallow : (limit n : ℕ) → n < limit → (n == limit) ≡ false
shallow limit n l = grind (arith, nat_tests)

depth_before : (items others : List Item) (n : ℕ) → n < length items → depth_at (items ++ others) n ≡ depth_at
    items n
depth_before items others n l =
    ap (λ (i : Item). i.depth) (get_or_append_left items others document_item n l)

-- ---- trees

abbrev mutual
  -- how many levels a tree has
  pub levels : ValueTree → ℕ
  levels (element n attributes children) = suc (most_levels children)
  levels _ = 1

  pub most_levels : ValueForest → ℕ
  most_levels none = 0
  most_levels (more t ts) = max (levels t) (most_levels ts)

abbrev mutual
  -- the trees hold no Document and no Doctype
  is_content_tree : ValueTree → Bool
  is_content_tree (document children) = false
  is_content_tree doctype = false
  is_content_tree (element n attributes children) = are_content children
  is_content_tree _ = true

  pub are_content : ValueForest → Bool
  are_content none = true
  are_content (more t ts) = is_content_tree t && are_content ts

mutual
  plain_tree_is_content : (t : ValueTree) → is_plain_tree t ≡ true → is_content_tree t ≡ true
  plain_tree_is_content (element n attributes children) e =
      let inner = if is_table n then are_plain_table children else are_plain children in
      let g = (and_parts (is_plain_element n || is_plain_body n children) inner e).1 in
      test (is_table n) (λ t. plain_table_is_content children (rw t at g))
      (λ t. plain_is_content children (rw t at g))
  plain_tree_is_content _ e = cc

  plain_part_is_content : (t : ValueTree) → (is_plain_tree t || are_plain_rows t) ≡ true
      → is_content_tree t ≡ true
  plain_part_is_content (element n attributes children) e =
      let inner = if is_table n then are_plain_table children else are_plain children in
      test (is_plain_tree (element n attributes children))
      (λ t. let g = (and_parts (is_plain_element n || is_plain_body n children) inner t).1 in
      test (is_table n) (λ q. plain_table_is_content children (rw q at g))
      (λ q. plain_is_content children (rw q at g)))
      (λ t. let r = rw t at e in
      plain_is_content children (and_parts (is_tbody n && begins_with_row children) (are_plain children) r).1)
  plain_part_is_content (document children) e = absurd (cc)
  plain_part_is_content doctype e = absurd (cc)
  plain_part_is_content _ e = refl

  plain_table_is_content : (ts : ValueForest) → are_plain_table ts ≡ true → are_content ts ≡ true
  plain_table_is_content none e = refl
  plain_table_is_content (more t ts) e =
      let k = and_parts (is_plain_tree t || are_plain_rows t) (are_plain_table ts) e in
      and_from (is_content_tree t) (are_content ts) (plain_part_is_content t k.0) (plain_table_is_content ts k.1)

  pub plain_is_content : (ts : ValueForest) → are_plain ts ≡ true → are_content ts ≡ true
  plain_is_content none e = refl
  plain_is_content (more t ts) e =
      let k = and_parts (is_plain_tree t) (are_plain ts) e in
      rw (plain_tree_is_content t k.0, plain_is_content ts k.1) refl

abbrev mutual
  pub ApartTree : ValueTree → Type 0
  ApartTree (element n attributes children) = ApartForest children
  ApartTree _ = Unit {0}

  -- no two texts are neighbours
  pub ApartForest : ValueForest → Type 0
  ApartForest none = Unit {0}
  ApartForest (more t ts) = Apart t ts × ApartTree t × ApartForest ts

-- what comes next stands under one of these items
abbrev Outer : List Item → List Coming → Type 0
Outer items [] = Unit {0}
Outer items (c ∷ cs) = c.under < length items

-- and not under this one
abbrev Elsewhere : List Item → ℕ → List Coming → Type 0
Elsewhere items under [] = Unit {0}
Elsewhere items under (c ∷ cs) = (c.under < length items) × ((c.under == under) ≡ false)

outer_elsewhere : (items others : List Item) (work : List Coming) → length items < length others
    → Outer items work → Elsewhere others (length items) work
outer_elsewhere items others [] l h = tt
outer_elsewhere items others (c ∷ cs) l h = (omega (arith, l, h), shallow (length items) c.under h)

elsewhere_longer : (items others : List Item) (under : ℕ) (work : List Coming) → length items ≤ length others
    → Elsewhere items under work → Elsewhere others under work
elsewhere_longer items others under [] l h = tt
elsewhere_longer items others under (c ∷ cs) l h = ((let k = h.0 in omega (arith, l)), h.1)

abbrev TreeLaid : ValueTree → Type 0
TreeLaid t =
    (limit k j under p b : ℕ) (front back : List NodeValue) (items : List Item) (work : List Coming)
    → is_content_tree t ≡ true → ApartTree t → Outer items work
    → (is_text t ≡ true → next_text (front ++ (blanked (tree_nodes p b t) ++ back)) under work ≡ None)
    → length front ≡ b → under < length items → depth_at items under + levels t ≤ limit → j ≡ size t + k
    → layout_within limit j (layout (front ++ (tree_nodes p b t ++ back)) items (coming under b ∷ work))
    ≡ layout_within limit k (layout (front ++ (blanked (tree_nodes p b t) ++ back))
    (items ++ tree_items (depth_at items under + 1) under (length items) t) work)

abbrev ForestLaid : ValueForest → Type 0
ForestLaid ts =
    (limit k j under p b : ℕ) (front back : List NodeValue) (items : List Item) (work : List Coming)
    → are_content ts ≡ true → ApartForest ts → Elsewhere items under work → length front ≡ b → under <
    length items → depth_at items under + most_levels ts ≤ limit → j ≡ sizes ts + k → layout_within limit j
    (layout (front ++ (forest_nodes p b ts ++ back)) items (map (coming under) (numbers b ts) ++ work))
    ≡ layout_within limit k (layout (front ++ (blanked (forest_nodes p b ts) ++ back))
    (items ++ forest_items (depth_at items under + 1) under (length items) ts) work)

-- a node without children
leaf_laid : (limit k j under b : ℕ) (front back : List NodeValue) (items : List Item) (work : List Coming)
    (x : NodeValue) (new : Data) → length front ≡ b → j ≡ 1 + k
    → with_kind_of (is_deepest limit items under) x.kind (coming under b)
    (layout (front ++ (blank x ∷ back)) items work)
    ≡ layout (front ++ (blank x ∷ back)) (items ++ new_item items under new ∷ []) work
    → layout_within limit j (layout (front ++ (x ∷ back)) items (coming under b ∷ work)) ≡ layout_within limit k
    (layout (front ++ (blank x ∷ back)) (items ++ new_item items under new ∷ []) work)
leaf_laid limit k zero under b front back items work x new e f g = absurd (omega arith)
leaf_laid limit k (suc j) under b front back items work x new e f g =
    let same : j ≡ k = omega arith in
    ap (layout_within limit j) (node_laid limit front x back items work under b e ∙ g)
    ∙ ap (λ n. layout_within limit n (layout (front ++ (blank x ∷ back))
    (items ++ new_item items under new ∷ []) work)) same

no_next : (nodes : List NodeValue) (under : ℕ) (work : List Coming) → next_text nodes under work ≡ None
    → (next_texts nodes under work ≡ []) × (after_next_texts nodes under work ≡ work)
no_next nodes under [] e = (refl, refl)
no_next nodes under (c ∷ cs) e = (rw e refl, rw e refl)

-- a text is put alone, at the deepest level too
text_kind : (deep : Bool) (u : List ℕ) (under b : ℕ) (nodes : List NodeValue) (items : List Item)
    (work : List Coming) → next_text nodes under work ≡ None
    → with_kind_of deep (documents.text u) (coming under b) (layout nodes items work)
    ≡ layout nodes (items ++ new_item items under (text_node u) ∷ []) work
text_kind false u under b nodes items work e = refl
text_kind true u under b nodes items work e =
    let n = no_next nodes under work e in
    rw (n.0, n.1, append-nil u) refl

-- an element is entered
entered : (limit j : ℕ) (front : List NodeValue) (x : NodeValue) (rest : List NodeValue) (items : List Item)
    (work : List Coming) (under b : ℕ) (name : ElementNameValue) (attributes : List AttributePair)
    → x.kind ≡ documents.element name attributes → length front ≡ b → depth_at items under + 1 < limit
    → layout_within limit (suc j) (layout (front ++ (x ∷ rest)) items (coming under b ∷ work))
    ≡ layout_within limit j (layout ((front ++ blank x ∷ []) ++ rest)
    (items ++ new_item items under (element_node (text_of_element_name name) attributes) ∷ [])
    (map (coming (length items)) x.children ++ work))
entered limit j front x rest items work under b name attributes kind e d =
    let new : Item = new_item items under (element_node (text_of_element_name name) attributes) in
    ap (layout_within limit j) (node_laid limit front x rest items work under b e
    ∙ ap (λ deep. with_kind_of deep x.kind (coming under b) (layout (front ++ (blank x ∷ rest)) items work))
    (shallow limit (depth_at items under + 1) d)
    ∙ ap (λ k. with_kind_of false k (coming under b) (layout (front ++ (blank x ∷ rest)) items work)) kind
    ∙ ap (λ cs. layout (front ++ (blank x ∷ rest)) (items ++ new ∷ []) (map (coming (length items)) cs ++ work))
    (children_after front (blank x) rest b e)
    ∙ ap (λ nodes. layout nodes (items ++ new ∷ []) (map (coming (length items)) x.children ++ work))
    (sym (append_assoc front (blank x ∷ []) rest)))

element_items : (items : List Item) (under : ℕ) (n : List ℕ) (attributes : List AttributePair)
    (children : ValueForest)
    (new : Item) → new ≡ new_item items under (element_node (text_of_name (name_of_text n)) attributes)
    → (items ++ new ∷ []) ++ forest_items (depth_at (items ++ new ∷ []) (length items) + 1) (length items)
    (length (items ++ new ∷ [])) children
    ≡ items ++ tree_items (depth_at items under + 1) under (length items) (element n attributes children)
element_items items under n attributes children new f =
    let d : ℕ = depth_at items under + 1 in
    let there = ap (λ (i : Item). i.depth) (item_at-middle items [] new) ∙ ap (λ (i : Item). i.depth) f in
    let deep : depth_at (items ++ new ∷ []) (length items) + 1 ≡ suc d = omega (arith, there) in
    let long : length (items ++ new ∷ []) ≡ suc (length items) = omega (arith, length-append items (new ∷ [])) in
    let held : List Item = forest_items (suc d) (length items) (suc (length items)) children in
    ap (λ m. (items ++ new ∷ []) ++ forest_items m (length items) (length (items ++ new ∷ [])) children) deep
    ∙ ap (λ m. (items ++ new ∷ []) ++ forest_items (suc d) (length items) m children) long
    ∙ append_assoc items (new ∷ []) held ∙ ap (λ (i : Item). items ++ (i ∷ held)) f
    ∙ ap (λ (m : List ℕ). items ++ (item_under d under (element_node m attributes) ∷ held)) (name_kept n)

-- an element without content, at the deepest level too
empty_kind : (deep : Bool) (n : List ℕ) (attributes : List AttributePair) (p under b : ℕ)
    (front back : List NodeValue) (items : List Item) (work : List Coming) → length front ≡ b
    → with_kind_of deep (documents.element (html (name_of_text n)) attributes) (coming under b)
    (layout (front ++ (blank (node (documents.element (html (name_of_text n)) attributes) p []) ∷ back)) items work)
    ≡ layout (front ++ (blank (node (documents.element (html (name_of_text n)) attributes) p []) ∷ back))
    (items ++ new_item items under (element_node n attributes) ∷ []) work
empty_kind deep n attributes p under b front back items work e =
    let x : NodeValue = blank (node (documents.element (html (name_of_text n)) attributes) p []) in
    let all : List NodeValue = front ++ (x ∷ back) in
    ap (λ cs. layout all (items ++ new_item items under (element_node (text_of_name (name_of_text n)) attributes) ∷
    []) (map (coming (parent_of_children deep under (layout all items work))) cs ++ work))
    (children_after front x back b e)
    ∙ ap (λ (m : List ℕ). layout all (items ++ new_item items under (element_node m attributes) ∷ []) work)
    (name_kept n)

element_laid : (n : List ℕ) (attributes : List AttributePair) (children : ValueForest) → ForestLaid children
    → 0 < most_levels children → TreeLaid (element n attributes children)
element_laid n attributes children ih some limit k zero under p b front back items work e a o st f u d g =
    absurd (omega (arith, g))
element_laid n attributes children ih some limit k (suc j) under p b front back items work e a o st f u d g =
    let x : NodeValue =
    node (documents.element (html (name_of_text n)) attributes) p (numbers (suc b) children) in
    let held : List NodeValue = forest_nodes b (suc b) children in
    let new : Item = new_item items under (element_node (text_of_name (name_of_text n)) attributes) in
    let whole : List Item = items ++ new ∷ [] in
    let long : length whole ≡ suc (length items) = omega (arith, length-append items (new ∷ [])) in
    let there = ap (λ (i : Item). i.depth) (item_at-middle items [] new) in
    let first : length (front ++ blank x ∷ []) ≡ suc b = omega (arith, f, length-append front (blank x ∷ [])) in
    entered limit j front x (held ++ back) items work under b (html (name_of_text n)) attributes refl f
    (omega (arith, d, some)) ∙ ih limit k j (length items) b (suc b) (front ++ blank x ∷ []) back whole work e a
    (outer_elsewhere items whole work (omega (arith, long)) o) first
    (omega (arith, long)) (omega (arith, there, d)) (omega (arith, g))
    ∙ ap (λ nodes. layout_within limit k (layout nodes
    (whole ++ forest_items (depth_at whole (length items) + 1) (length items) (length whole) children) work))
    (append_assoc front (blank x ∷ []) (blanked held ++ back))
    ∙ ap (λ all. layout_within limit k (layout (front ++ (blank x ∷ (blanked held ++ back))) all work))
    (element_items items under n attributes children new refl)

later_outer : (items : List Item) (under b : ℕ) (ts : ValueForest) (work : List Coming) → under < length items
    → Elsewhere items under work → Outer items (map (coming under) (numbers b ts) ++ work)
later_outer items under b none [] u o = tt
later_outer items under b none (c ∷ cs) u o = o.0
later_outer items under b (more t ts) work u o = u

-- what comes after a text is no text under the same item
later_none : (t : ValueTree) (ts : ValueForest) (under p b : ℕ) (front here back : List NodeValue) (items : List Item)
    (work : List Coming) → Apart t ts → is_text t ≡ true → Elsewhere items under work → length
    (front ++ here) ≡ b
    → next_text (front ++ (here ++ (forest_nodes p b ts ++ back))) under (map (coming under) (numbers b ts) ++ work)
    ≡ None
later_none t none under p b front here back items [] a i o c = refl
later_none t none under p b front here back items (w ∷ work) a i o c = rw o.1 refl
later_none (text u) (more v ts) under p b front here back items work a i o c =
    rw (eq-eqb under under refl) (by_kind v ts a)
  where
    kind_there : (x : NodeValue) (rest : List NodeValue) → kind_at (front ++ (here ++ (x ∷ rest))) b ≡ x.kind
    kind_there x rest =
        ap (λ (nodes : List NodeValue). kind_at nodes b) (sym (append_assoc front here (x ∷ rest)))
        ∙ kind_after (front ++ here) x rest b c

    by_kind : (v : ValueTree) (ts : ValueForest) → Apart (text u) (more v ts)
        → text_of (kind_at (front ++ (here ++ (forest_nodes p b (more v ts) ++ back))) b) ≡ None
    by_kind (text w) ts a = absurd a
    by_kind _ ts a = ap text_of (kind_there _ _)
later_none _ (more v ts) under p b front here back items work a i o c = absurd (cc)

next_laid : (t : ValueTree) (ts : ValueForest) → TreeLaid t → ForestLaid ts → ForestLaid (more t ts)
next_laid t ts one all limit k j under p b front back items work e a o f u d g =
    let here : List NodeValue = tree_nodes p b t in
    let later : List NodeValue = forest_nodes p (b + size t) ts in
    let coming_later : List Coming = map (coming under) (numbers (b + size t) ts) ++ work in
    let depth : ℕ = depth_at items under + 1 in
    let new : List Item = tree_items depth under (length items) t in
    let parts = and_parts (is_content_tree t) (are_content ts) e in
    let count : length (front ++ blanked here) ≡ b + size t =
    omega (arith, f, length-append front (blanked here), length-map here blank, tree_count p b t) in
    let long : length (items ++ new) ≡ length items + size t =
    omega (arith, length-append items new, length-tree_items t depth under (length items)) in
    let there = depth_before items new under u in
    let deep : depth_at (items ++ new) under + 1 ≡ depth = omega (arith, there) in
    ap (λ nodes. layout_within limit j (layout (front ++ nodes) items (coming under b ∷ coming_later)))
    (append_assoc here later back)
    ∙ one limit (sizes ts + k) j under p b front (later ++ back) items coming_later parts.0 a.1
    (later_outer items under (b + size t) ts work u o)
    (λ i. later_none t ts under p (b + size t) front (blanked here) back items work a.0 i o count) f u
    (omega (arith, d)) (omega (arith, g))
    ∙ ap (λ nodes. layout_within limit (sizes ts + k) (layout nodes (items ++ new) coming_later))
    (sym (append_assoc front (blanked here) (later ++ back)))
    ∙ all limit k (sizes ts + k) under p (b + size t) (front ++ blanked here) back (items ++ new) work parts.1 a.2
    (elsewhere_longer items (items ++ new) under work (omega (arith, long)) o) count
    (omega (arith, long, u)) (omega (arith, there, d)) refl
    ∙ ap (λ nodes. layout_within limit k (layout nodes ((items ++ new)
    ++ forest_items (depth_at (items ++ new) under + 1) under (length (items ++ new)) ts) work))
    (append_assoc front (blanked here) (blanked later ++ back) ∙ ap (λ (nodes : List NodeValue). front ++ nodes)
    (sym (append_assoc (blanked here) (blanked later) back)
    ∙ ap (λ (nodes : List NodeValue). nodes ++ back) (sym (map-append blank here later))))
    ∙ ap (λ all_items. layout_within limit k (layout (front ++ (blanked (here ++ later) ++ back)) all_items work))
    (ap (λ m. (items ++ new) ++ forest_items m under (length (items ++ new)) ts) deep
    ∙ ap (λ m. (items ++ new) ++ forest_items depth under m ts) long
    ∙ append_assoc items new (forest_items depth under (length items + size t) ts))

levels_some : (t : ValueTree) → 0 < levels t
levels_some (document children) = omega arith
levels_some _ = omega arith

mutual
  tree_laid : (t : ValueTree) → TreeLaid t
  tree_laid (text v) limit k j under p b front back items work e a o st f u d g =
      let x : NodeValue = node (documents.text v) p [] in
      leaf_laid limit k j under b front back items work x (text_node v) f g
      (text_kind (is_deepest limit items under) v under b (front ++ (blank x ∷ back)) items work (st refl))
  tree_laid (comment v) limit k j under p b front back items work e a o st f u d g =
      leaf_laid limit k j under b front back items work (node (documents.comment v) p []) (comment_node v) f g refl
  tree_laid (element n attributes none) limit k j under p b front back items work e a o st f u d g =
      leaf_laid limit k j under b front back items work
      (node (documents.element (html (name_of_text n)) attributes) p []) (element_node n attributes) f g
      (empty_kind (is_deepest limit items under) n attributes p under b front back items work f)
  tree_laid (element n attributes (more t ts)) limit k j under p b front back items work e a o st f u d g =
      let l = levels_some t in
      element_laid n attributes (more t ts) (forest_laid (more t ts)) (omega (arith, l)) limit k j under p b front back
      items work e a o st f u d g
  tree_laid _ limit k j under p b front back items work e a o st f u d g = absurd (cc)

  pub forest_laid : (ts : ValueForest) → ForestLaid ts
  forest_laid none limit k j under p b front back items work e a o f u d g =
      let same : j ≡ k = omega (arith, g) in
      ap (λ n. layout_within limit n (layout (front ++ back) items work)) same
      ∙ ap (λ all. layout_within limit k (layout (front ++ back) all work)) (sym (append-nil items))
  forest_laid (more t ts) limit k j under p b front back items work e a o f u d g =
      next_laid t ts (tree_laid t) (forest_laid ts) limit k j under p b front back items work e a o f u d g
