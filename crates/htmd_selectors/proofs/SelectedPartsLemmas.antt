-- Parts of a page that are laid out one after the other.
use Rattle.std.proofs.Common.{◌≡◌, ℕ, suc, ◌+◌, ◌-◌, ◌<◌, List, [], ◌∷◌, ◌++◌, length, get_or, drop, refl, sym, ap, ◌∙◌}
use Rattle.std.proofs.Common.{arith, add-zero, append_assoc, Vec, String, Global, true, Option}
use Rattle.std.proofs.lemmas.List.{drop_more, append-nil, length-append, length_push, get_or_push, get_or_append_left}
use Rattle.htmd_lexical.specs.declared.attribute.Attribute.{Attribute}
use Rattle.htmd_lexical.specs.AttributePairs.{AttributePair}
use Rattle.htmd_values.specs.ValueTrees.{ValueTree, element, ValueForest, none, more}
use Rattle.htmd_nodes.specs.Items.{Data, element_node, Item, document_item, item_at, data_at, depth_at, new_item}
use Rattle.htmd_nodes.specs.Items.{children_of}
use Rattle.htmd_nodes.specs.Items.{IsTree}
use Rattle.htmd_nodes.specs.Layout.{size, sizes, tree_items, forest_items}
use Rattle.htmd_nodes.specs.NumberedTrees.{NumberedTree, NumberedForest, with_children, tree_of, forest_of, value_tree}
use Rattle.htmd_nodes.specs.NumberedTrees.{value_forest}
use Rattle.htmd_nodes.specs.NumberedTrees.{value_at}
use Rattle.htmd_nodes.specs.Views.{data_of}
use Rattle.htmd_nodes.specs.declared.tree.NodeData.{NodeData}
use Rattle.htmd_nodes.specs.declared.tree.NodeData.TheVariants.{Document, Doctype, Text, Comment, Element}
use Rattle.htmd_nodes.proofs.LayoutLemmas.{length-forest_items}
use Rattle.htmd_nodes.proofs.NumberedTreesLemmas.{tree-open}
use Rattle.htmd_selectors.specs.Rewriting.{joined}
use Rattle.htmd_selectors.specs.SelectedParts.{count, elements_in, element_names, with_name, is_nothing}
use Rattle.htmd_selectors.specs.SelectorStates.{Known, next_known, outermost_tree}
use Rattle.htmd_selectors.specs.SelectorSteps.{Step}

forest_items-joined : (d p b : ℕ) (f g : ValueForest)
    → forest_items d p b (joined f g) ≡ forest_items d p b f ++ forest_items d p (b + sizes f) g
forest_items-joined d p b none g = ap (λ n. forest_items d p n g) (sym (add-zero b))
forest_items-joined d p b (more tree f) g =
    let count : b + size tree + sizes f ≡ b + (size tree + sizes f) = omega arith in
    ap (λ x. tree_items d p b tree ++ x) (forest_items-joined d p (b + size tree) f g)
    ∙ (sym (append_assoc (tree_items d p b tree) (forest_items d p (b + size tree) f)
    (forest_items d p (b + size tree + sizes f) g))
    ∙ ap (λ n. (tree_items d p b tree ++ forest_items d p (b + size tree) f) ++ forest_items d p n g) count)

-- trees after others
pub laid-next : (out new : List Item) (d p : ℕ) (f g : ValueForest) → new ≡ out ++ forest_items d p (length out) f
    → new ++ forest_items d p (length new) g ≡ out ++ forest_items d p (length out) (joined f g)
laid-next out new d p f g e =
    let count : length new ≡ length out + sizes f =
    ap length e ∙ (length-append out (forest_items d p (length out) f)
    ∙ ap (λ n. length out + n) (length-forest_items f d p (length out))) in
    ap (λ n. new ++ forest_items d p n g) count
    ∙ (ap (λ x. x ++ forest_items d p (length out + sizes f) g) e
    ∙ (append_assoc out (forest_items d p (length out) f) (forest_items d p (length out + sizes f) g)
    ∙ ap (λ x. out ++ x) (sym (forest_items-joined d p (length out) f g))))

-- what is laid out stays before what comes
pub item_at-kept : (out new rest : List Item) (k : ℕ) → new ≡ out ++ rest → k < length out
    → item_at new k ≡ item_at out k
item_at-kept out new rest k e l =
    ap (λ (x : List Item). item_at x k) e ∙ get_or_append_left out rest document_item k l

pub within-kept : (out new rest : List Item) (k : ℕ) → new ≡ out ++ rest → k < length out → k < length new
within-kept out new rest k e l = omega (arith, ap length e, length-append out rest)

-- the trees of the nodes from a place on
abbrev pub trees_from : List Item → ℕ → List ℕ → ValueForest
trees_from items i ids = value_forest (forest_of (tree_of items) (drop i ids))

trees_from-more : (items : List Item) (ids : List ℕ) (i id : ℕ) → i < length ids → id ≡ get_or ids i id
    → trees_from items i ids ≡ more (value_at items id) (trees_from items (i + 1) ids)
trees_from-more items ids i id l is =
    ap (λ (x : List ℕ). value_forest (forest_of (tree_of items) x))
    (drop_more ids i id l ∙ ap (λ y. y ∷ drop (i + 1) ids) (sym is))

-- how many elements are after one child more
pub elements-turn : (items : List Item) (ids : List ℕ) (i id left : ℕ) → i < length ids → id ≡ get_or ids i id
    → left ≡ elements_in (trees_from items i ids)
    → left - count (value_at items id) ≡ elements_in (trees_from items (i + 1) ids)
elements-turn items ids i id left l is e =
    let all : left ≡ count (value_at items id) + elements_in (trees_from items (i + 1) ids) =
    e ∙ ap elements_in (trees_from-more items ids i id l is) in
    omega (arith, all)

-- the names after one child more
pub element_names-turn : (items : List Item) (ids : List ℕ) (i id : ℕ) (old new whole : List (List ℕ))
    → i < length ids → id ≡ get_or ids i id → old ++ element_names (trees_from items i ids) ≡ whole
    → ((rest : List (List ℕ)) → new ++ rest ≡ old ++ with_name (value_at items id) rest)
    → new ++ element_names (trees_from items (i + 1) ids) ≡ whole
element_names-turn items ids i id old new whole l is rest one =
    one (element_names (trees_from items (i + 1) ids))
    ∙ (ap (λ f. old ++ element_names f) (sym (trees_from-more items ids i id l is)) ∙ rest)

-- one child more
pub laid-turn : (tree_part : ValueTree → ValueForest) (part next : ValueForest → ValueForest) (items : List Item)
    (ids : List ℕ) (i id : ℕ) (out new whole : List Item) (d p : ℕ) → i < length ids → id ≡ get_or ids i id
    → part (more (value_at items id) (trees_from items (i + 1) ids))
    ≡ joined (tree_part (value_at items id)) (next (trees_from items (i + 1) ids))
    → out ++ forest_items d p (length out) (part (trees_from items i ids)) ≡ whole
    → new ≡ out ++ forest_items d p (length out) (tree_part (value_at items id))
    → new ++ forest_items d p (length new) (next (trees_from items (i + 1) ids)) ≡ whole
laid-turn tree_part part next items ids i id out new whole d p l is step rest e =
    laid-next out new d p (tree_part (value_at items id)) (next (trees_from items (i + 1) ids)) e
    ∙ (ap (λ x. out ++ forest_items d p (length out) x)
    (sym step ∙ ap part (sym (trees_from-more items ids i id l is)))
    ∙ rest)

-- an element, and then what it holds
pub laid-element : (out mid new : List Item) (under id : ℕ) (name : List ℕ) (attributes : List AttributePair)
    (f : ValueForest) → id ≡ length out → mid ≡ out ++ new_item out under (element_node name attributes) ∷ []
    → new ≡ mid ++ forest_items (depth_at mid id + 1) id (length mid) f
    → new ≡ out ++ forest_items (depth_at out under + 1) under (length out) (more (element name attributes f) none)
laid-element out mid new under id name attributes f is e g =
    let item : Item = new_item out under (element_node name attributes) in
    let here : item_at mid id ≡ item =
    ap (λ (x : List Item). item_at x id) e ∙ get_or_push out item document_item id (omega (arith, is)) in
    let depth : depth_at mid id + 1 ≡ suc (depth_at out under + 1) =
    ap (λ (x : Item). x.depth + 1) here ∙ omega arith in
    let count : length mid ≡ suc (length out) = ap length e ∙ (length_push out item ∙ omega arith) in
    g ∙ (ap (λ n. mid ++ forest_items n id (length mid) f) depth
    ∙ (ap (λ n. mid ++ forest_items (suc (depth_at out under + 1)) id n f) count
    ∙ (ap (λ n. mid ++ forest_items (suc (depth_at out under + 1)) n (suc (length out)) f) is
    ∙ (ap (λ x. x ++ forest_items (suc (depth_at out under + 1)) (length out) (suc (length out)) f) e
    ∙ (append_assoc out (item ∷ []) (forest_items (suc (depth_at out under + 1)) (length out) (suc (length out)) f)
    ∙ ap (λ x. out ++ x) (sym (append-nil
    (item ∷ forest_items (suc (depth_at out under + 1)) (length out) (suc (length out)) f))))))))

-- a node is a tree by what it is
pub part-node : {A : Type 0} (part : ValueTree → A) (items : List Item) (node : ℕ) (node_data : Data)
    → IsTree items → node < length items → node_data ≡ data_at items node
    → part (value_at items node)
    ≡ part (value_tree (with_children node node_data (forest_of (tree_of items) (children_of items node))))
part-node part items node node_data t l e =
    ap (λ (x : NumberedTree). part (value_tree x)) (tree-open items node t l
    ∙ ap (λ (x : Data). with_children node x (forest_of (tree_of items) (children_of items node))) (sym e))

-- only an element is named, or has elements below it, or is one more
pub outermost-other : (steps : List Step) (pre : Option (List AttributePair)) (known : Known) (after id : ℕ)
    (d : NodeData) (f : NumberedForest)
    → ((name : List ℕ) (attributes : Vec Attribute Global) → d ≡ Element name attributes → ⊥)
    → outermost_tree steps pre known after (value_tree (with_children id (data_of d) f)) ≡ none
outermost-other steps pre known after id Document f h = refl
outermost-other steps pre known after id Doctype f h = refl
outermost-other steps pre known after id (Text s) f h = refl
outermost-other steps pre known after id (Comment s) f h = refl
outermost-other steps pre known after id (Element name attributes) f h = absurd (h name attributes refl)

pub next_known-other : (steps : List Step) (known : Known) (after id : ℕ) (d : NodeData) (f : NumberedForest)
    → ((name : List ℕ) (attributes : Vec Attribute Global) → d ≡ Element name attributes → ⊥)
    → next_known steps known after (value_tree (with_children id (data_of d) f)) ≡ known
next_known-other steps known after id Document f h = refl
next_known-other steps known after id Doctype f h = refl
next_known-other steps known after id (Text s) f h = refl
next_known-other steps known after id (Comment s) f h = refl
next_known-other steps known after id (Element name attributes) f h = absurd (h name attributes refl)

pub count-other : (id : ℕ) (d : NodeData) (f : NumberedForest)
    → ((name : List ℕ) (attributes : Vec Attribute Global) → d ≡ Element name attributes → ⊥)
    → count (value_tree (with_children id (data_of d) f)) ≡ 0
count-other id Document f h = refl
count-other id Doctype f h = refl
count-other id (Text s) f h = refl
count-other id (Comment s) f h = refl
count-other id (Element name attributes) f h = absurd (h name attributes refl)

pub with_name-other : (id : ℕ) (d : NodeData) (f : NumberedForest) (rest : List (List ℕ))
    → ((name : List ℕ) (attributes : Vec Attribute Global) → d ≡ Element name attributes → ⊥)
    → with_name (value_tree (with_children id (data_of d) f)) rest ≡ rest
with_name-other id Document f rest h = refl
with_name-other id Doctype f rest h = refl
with_name-other id (Text s) f rest h = refl
with_name-other id (Comment s) f rest h = refl
with_name-other id (Element name attributes) f rest h = absurd (h name attributes refl)

pub is_nothing-other : (id : ℕ) (d : NodeData) (f : NumberedForest)
    → ((name : List ℕ) (attributes : Vec Attribute Global) → d ≡ Element name attributes → ⊥)
    → ((s : String Global) → d ≡ Text s → ⊥)
    → is_nothing (value_tree (with_children id (data_of d) f)) ≡ true
is_nothing-other id Document f h k = refl
is_nothing-other id Doctype f h k = refl
is_nothing-other id (Text s) f h k = absurd (k s refl)
is_nothing-other id (Comment s) f h k = refl
is_nothing-other id (Element name attributes) f h k = absurd (h name attributes refl)
