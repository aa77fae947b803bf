-- What the items of the open elements become where a node is added and where an element opens or is closed.
use Rattle.std.proofs.Common.{◌≡◌, ℕ, suc, ◌+◌, ◌≤◌, Bool, List, [], ◌∷◌, ◌++◌, length, refl}
use Rattle.std.proofs.Common.{sym, ap, ◌∙◌, arith, add-zero, add_assoc, get_or}
use Rattle.std.proofs.lemmas.List.{append_assoc, append-nil, length-append}
use Rattle.htmd_values.specs.ValueTrees.{ValueTree, document, doctype, text, comment, element, ValueForest, none, more}
use Rattle.htmd_lexical.specs.AttributePairs.{AttributePair}
use Rattle.htmd_grammar.specs.HtmlDocuments.{above_body}
use Rattle.htmd_grammar.specs.ReaderSteps.{OpenElement, names_of, closed, fresh, with_forest, with_tree, ◌+++◌}
use Rattle.htmd_nodes.specs.Items.{Data, document_node, doctype_node, text_node, comment_node, element_node, Item}
use Rattle.htmd_nodes.specs.Items.{item_at, depth_at, data_at, new_item}
use Rattle.htmd_nodes.specs.Layout.{size, sizes, item_under, tree_items, forest_items}
use Rattle.htmd_tree.specs.OpenItems.{stack_items, innermost_number}
use Rattle.htmd_nodes.proofs.LayoutLemmas.{item_at-middle, length-tree_items, length-forest_items}
use Rattle.htmd_tree.specs.OpenNodes.{open_node, open_nodes, AreOpen, IsReading}
use Rattle.htmd_tree.specs.Advances.{leaf, IsLeaf}
use Rattle.htmd_tree.specs.declared.reader.OpenNode.{OpenNode}
use Rattle.htmd_tree.specs.declared.reader.Reader.{Reader}

forest_items-append : (ts us : ValueForest) (d p b : ℕ)
    → forest_items d p b (ts +++ us) ≡ forest_items d p b ts ++ forest_items d p (b + sizes ts) us
forest_items-append none us d p b = rw (add-zero b) refl
forest_items-append (more t ts) us d p b =
    rw (forest_items-append ts us d p (b + size t), add_assoc b (size t) (sizes ts))
    (sym (append_assoc (tree_items d p b t) (forest_items d p (b + size t) ts)
    (forest_items d p (b + (size t + sizes ts)) us)))

-- the items of trees that are added to the innermost element come last
pub stack_items-with : (has_doctype : Bool) (f : OpenElement) (gs : List OpenElement) (ts : ValueForest)
    → stack_items has_doctype (with_forest (f ∷ gs) ts) ≡ stack_items has_doctype (f ∷ gs)
    ++ forest_items (suc (length (names_of above_body gs))) (length (stack_items has_doctype gs))
    (length (stack_items has_doctype (f ∷ gs))) ts
stack_items-with has_doctype f gs ts =
    let outer : List Item = stack_items has_doctype gs in
    let b : ℕ = length outer in
    let d : ℕ = suc (length (names_of above_body gs)) in
    let x : Item = item_under (length (names_of above_body gs)) (innermost_number has_doctype gs)
    (element_node f.name f.attributes) in
    let inner : List Item = forest_items d b (suc b) f.children in
    let l : length inner ≡ sizes f.children = length-forest_items f.children d b (suc b) in
    let k : length (outer ++ x ∷ inner) ≡ length outer + suc (length inner) = length-append outer (x ∷ inner) in
    let n : suc b + sizes f.children ≡ length (outer ++ x ∷ inner) = omega arith in
    ap (λ (y : List Item). outer ++ x ∷ y) (forest_items-append f.children ts d b (suc b)
    ∙ ap (λ (m : ℕ). inner ++ forest_items d b m ts) n)
    ∙ sym (append_assoc outer (x ∷ inner) (forest_items d b (length (outer ++ x ∷ inner)) ts))

-- closing an element changes no item
pub stack_items-closed : (has_doctype : Bool) (f g : OpenElement) (gs : List OpenElement)
    → stack_items has_doctype (with_tree (g ∷ gs) (closed f)) ≡ stack_items has_doctype (f ∷ g ∷ gs)
stack_items-closed has_doctype f g gs =
    stack_items-with has_doctype g gs (more (closed f) none)
    ∙ ap (λ (y : List Item). stack_items has_doctype (g ∷ gs) ++ y)
    (append-nil (tree_items (suc (length (names_of above_body gs))) (length (stack_items has_doctype gs))
    (length (stack_items has_doctype (g ∷ gs))) (closed f)))

pub AreOpen-with : (fs : List OpenElement) (ts : ValueForest) → AreOpen fs → AreOpen (with_forest fs ts)
AreOpen-with [] ts h = h
AreOpen-with (f ∷ []) ts h = h
AreOpen-with (f ∷ g ∷ fs) ts h = h

-- the innermost element's item
pub top_item : (has_doctype : Bool) (f : OpenElement) (gs : List OpenElement)
    → item_at (stack_items has_doctype (f ∷ gs)) (length (stack_items has_doctype gs)) ≡ item_under
    (length (names_of above_body gs)) (innermost_number has_doctype gs) (element_node f.name f.attributes)
top_item has_doctype f gs = item_at-middle (stack_items has_doctype gs) _ _

pub top_depth : (has_doctype : Bool) (f : OpenElement) (gs : List OpenElement)
    → depth_at (stack_items has_doctype (f ∷ gs)) (length (stack_items has_doctype gs))
    ≡ length (names_of above_body gs)
top_depth has_doctype f gs = ap (λ (x : Item). x.depth) (top_item has_doctype f gs)

pub top_data : (has_doctype : Bool) (f : OpenElement) (gs : List OpenElement)
    → data_at (stack_items has_doctype (f ∷ gs)) (length (stack_items has_doctype gs))
    ≡ element_node f.name f.attributes
top_data has_doctype f gs = ap (λ (x : Item). x.node_data) (top_item has_doctype f gs)

pub length-open_nodes : (scripting has_doctype : Bool) (fs : List OpenElement)
    → length (open_nodes scripting has_doctype fs) ≡ length fs
length-open_nodes scripting has_doctype [] = refl
length-open_nodes scripting has_doctype (f ∷ fs) =
    length-append (open_nodes scripting has_doctype fs) (open_node scripting has_doctype f fs ∷ [])
    ∙ (let e = length-open_nodes scripting has_doctype fs in omega arith)

get_or-last : (nodes : List OpenNode) (x o : OpenNode) → get_or (nodes ++ x ∷ []) (length nodes) o ≡ x
get_or-last [] x o = refl
get_or-last (n ∷ nodes) x o = get_or-last nodes x o

-- some element is open
pub some_open : (reader : Reader) → IsReading reader → 1 ≤ length reader.stack.items
some_open reader r =
    let n : length reader.stack.items ≡ suc (length r.2) = ap length (r.3).stack_is
    ∙ length-open_nodes reader.scripting r.0 (r.1 ∷ r.2) in
    omega arith

-- ---- additions

new_item-top : (has_doctype : Bool) (f : OpenElement) (gs : List OpenElement) (x : Data)
    → new_item (stack_items has_doctype (f ∷ gs)) (length (stack_items has_doctype gs)) x ≡ item_under
    (suc (length (names_of above_body gs))) (length (stack_items has_doctype gs)) x
new_item-top has_doctype f gs x =
    let e = top_depth has_doctype f gs in
    let d : depth_at (stack_items has_doctype (f ∷ gs)) (length (stack_items has_doctype gs)) + 1
    ≡ suc (length (names_of above_body gs)) = omega arith in
    ap (λ (n : ℕ). item_under n (length (stack_items has_doctype gs)) x) d

leaf-laid : (d p b : ℕ) (x : Data) → IsLeaf x → tree_items d p b (leaf x) ≡ item_under d p x ∷ []
leaf-laid d p b document_node l = absurd l
leaf-laid d p b doctype_node l = absurd l
leaf-laid d p b (text_node s) l = refl
leaf-laid d p b (comment_node s) l = refl
leaf-laid d p b (element_node name attributes) l = refl

-- a leaf that is added to the tree is added to the innermost element
pub stack_items-leaf : (has_doctype : Bool) (f : OpenElement) (gs : List OpenElement) (x : Data) → IsLeaf x
    → (items : List Item) → items ≡ stack_items has_doctype (f ∷ gs)
    → items ++ new_item items (length (stack_items has_doctype gs)) x ∷ []
    ≡ stack_items has_doctype (with_tree (f ∷ gs) (leaf x))
stack_items-leaf has_doctype f gs x l items same =
    let p : ℕ = length (stack_items has_doctype gs) in
    let all : List Item = stack_items has_doctype (f ∷ gs) in
    let d : ℕ = suc (length (names_of above_body gs)) in
    let last : forest_items d p (length all) (more (leaf x) none) ≡ item_under d p x ∷ [] =
    append-nil (tree_items d p (length all) (leaf x)) ∙ leaf-laid d p (length all) x l in
    ap (λ (y : List Item). y ++ new_item y p x ∷ []) same
    ∙ (ap (λ (i : Item). all ++ i ∷ []) (new_item-top has_doctype f gs x)
    ∙ sym (stack_items-with has_doctype f gs (more (leaf x) none) ∙ ap (λ (y : List Item). all ++ y) last))

-- an element that opens
pub stack_items-opened : (has_doctype : Bool) (f : OpenElement) (gs : List OpenElement) (n : List ℕ)
    (attributes : List AttributePair) (implied : Bool) (items : List Item)
    → items ≡ stack_items has_doctype (f ∷ gs)
    → items ++ new_item items (length (stack_items has_doctype gs)) (element_node n attributes) ∷ []
    ≡ stack_items has_doctype (fresh n attributes implied ∷ f ∷ gs)
stack_items-opened has_doctype f gs n attributes implied items same =
    let p : ℕ = length (stack_items has_doctype gs) in
    ap (λ (y : List Item). y ++ new_item y p (element_node n attributes) ∷ []) same
    ∙ ap (λ (i : Item). stack_items has_doctype (f ∷ gs) ++ i ∷ [])
    (new_item-top has_doctype f gs (element_node n attributes))
