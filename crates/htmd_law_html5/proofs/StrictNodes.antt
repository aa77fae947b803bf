-- The nodes that plain trees put, in document order.
use Rattle.std.proofs.Common.{◌≡◌, ℕ, zero, suc, ◌+◌, ◌<◌, ◌≤◌, Bool, true, false, List, [], ◌∷◌, ◌++◌, length, Option}
use Rattle.std.proofs.Common.{Some, None, refl, ap, ◌∙◌, arith, append_assoc, length-append}
use Rattle.std.specs.Prelude.{slice_set}
use Rattle.std.proofs.lemmas.List.{append-nil, get_or_append_left, get_or_at, length-set, set-append_left, set-get_or}
use Rattle.std.proofs.lemmas.List.{set_at}
use Rattle.htmd_lexical.specs.AttributePairs.{AttributePair}
use Rattle.htmd_values.specs.ValueTrees.{ValueTree, ValueForest, none, more, document, doctype, text}
use Rattle.htmd_values.specs.ValueTrees.{comment, element}
use Rattle.htmd_grammar.specs.Grammar.{Apart}
use Rattle.htmd_nodes.specs.Layout.{size, sizes}
use Rattle.htmd_html5_state.specs.Names.{html, name_of_text}
use Rattle.htmd_html5_state.specs.Nodes.{KindValue, NodeValue, kind_at, children_at, text_of, new_node, append_children}
use Rattle.htmd_html5_state.specs.Nodes.{add, add_text, last_in, preceding, child_before, joined_to, put_child}
use Rattle.htmd_html5_state.specs.Nodes.{with_parent, with_children}
use Rattle.htmd_html5_state.proofs.DocumentLemmas.{insert_last}
use Rattle.htmd_html5_state.specs.Nodes as documents

-- ---- the nodes of trees

-- the numbers of trees, from this one on
abbrev pub numbers : ℕ → ValueForest → List ℕ
numbers b none = []
numbers b (more t ts) = b ∷ numbers (b + size t) ts

abbrev pub node : KindValue → ℕ → List ℕ → NodeValue
node kind p children = record { kind = kind; parent = Some p; children = children }

abbrev mutual
  -- the nodes of a tree in a node p, numbered from b on
  pub tree_nodes : ℕ → ℕ → ValueTree → List NodeValue
  tree_nodes p b (document children) = node documents.document p (numbers (suc b) children) ∷ forest_nodes b (suc b)
      children
  tree_nodes p b doctype = node documents.doctype p [] ∷ []
  tree_nodes p b (text u) = node (documents.text u) p [] ∷ []
  tree_nodes p b (comment u) = node (documents.comment u) p [] ∷ []
  tree_nodes p b (element n attributes children) =
      node (documents.element (html (name_of_text n)) attributes) p (numbers (suc b) children)
      ∷ forest_nodes b (suc b) children

  pub forest_nodes : ℕ → ℕ → ValueForest → List NodeValue
  forest_nodes p b none = []
  forest_nodes p b (more t ts) = tree_nodes p b t ++ forest_nodes p (b + size t) ts

mutual
  pub tree_count : (p b : ℕ) (t : ValueTree) → length (tree_nodes p b t) ≡ size t
  tree_count p b (document children) = ap suc (forest_count b (suc b) children)
  tree_count p b (element n attributes children) = ap suc (forest_count b (suc b) children)
  tree_count p b _ = refl

  pub forest_count : (p b : ℕ) (ts : ValueForest) → length (forest_nodes p b ts) ≡ sizes ts
  forest_count p b none = refl
  forest_count p b (more t ts) =
      let a = tree_count p b t in
      let c = forest_count p (b + size t) ts in
      let l = length-append (tree_nodes p b t) (forest_nodes p (b + size t) ts) in
      omega (arith, a, c, l)

-- ---- children that are appended

-- to one of the first nodes
pub append_front : (p : ℕ) (ns : List ℕ) (nodes others : List NodeValue) → p < length nodes
    → append_children p ns (nodes ++ others) ≡ append_children p ns nodes ++ others
append_front p ns nodes others l =
    ap (λ (y : NodeValue). slice_set (nodes ++ others) p (record y { children = y.children ++ ns }))
    (get_or_append_left nodes others (new_node documents.document) p l) ∙ set-append_left nodes others p _ l

-- to the node right after these
pub append_at : (ns : List ℕ) (nodes : List NodeValue) (x : NodeValue) (others : List NodeValue) (n : ℕ)
    → length nodes ≡ n → append_children n ns (nodes ++ (x ∷ others)) ≡ nodes ++
    (record x { children = x.children ++ ns } ∷ others)
append_at ns nodes x others n e =
    ap (λ (y : NodeValue). slice_set (nodes ++ (x ∷ others)) n (record y { children = y.children ++ ns }))
    (get_or_at nodes x others (new_node documents.document) n e) ∙ set_at nodes x others _ n e

-- twice
pub append_twice : (p : ℕ) (ms ns : List ℕ) (nodes : List NodeValue) → p < length nodes
    → append_children p ns (append_children p ms nodes) ≡ append_children p (ms ++ ns) nodes
append_twice p ms ns [] l = absurd (omega arith)
append_twice zero ms ns (x ∷ nodes) l =
    ap (λ (cs : List ℕ). record x { children = cs } ∷ nodes) (append_assoc x.children ms ns)
append_twice (suc p) ms ns (x ∷ nodes) l =
    ap (λ (y : List NodeValue). x ∷ y) (append_twice p ms ns nodes (omega arith))

-- none
pub append_none : (p : ℕ) (nodes : List NodeValue) → p < length nodes → append_children p [] nodes ≡ nodes
append_none p nodes l =
    rw (append-nil (children_at nodes p)) (set-get_or nodes p (new_node documents.document))

pub append_length : (p : ℕ) (ns : List ℕ) (nodes : List NodeValue) → length
    (append_children p ns nodes) ≡ length nodes
append_length p ns nodes = length-set nodes p _

pub appended_children : (p : ℕ) (ns : List ℕ) (nodes others : List NodeValue) → p < length nodes
    → children_at (append_children p ns nodes ++ others) p ≡ children_at nodes p ++ ns
appended_children p ns [] others l = absurd (omega arith)
appended_children zero ns (x ∷ nodes) others l = refl
appended_children (suc p) ns (x ∷ nodes) others l = appended_children p ns nodes others (omega arith)

-- the node right after these
pub kind_after : (nodes : List NodeValue) (x : NodeValue) (others : List NodeValue) (n : ℕ) → length nodes ≡ n
    → kind_at (nodes ++ (x ∷ others)) n ≡ x.kind
kind_after nodes x others n e =
    ap (λ (y : NodeValue). y.kind) (get_or_at nodes x others (new_node documents.document) n e)

pub children_after : (nodes : List NodeValue) (x : NodeValue) (others : List NodeValue) (n : ℕ) → length nodes ≡ n
    → children_at (nodes ++ (x ∷ others)) n ≡ x.children
children_after nodes x others n e =
    ap (λ (y : NodeValue). y.children) (get_or_at nodes x others (new_node documents.document) n e)

-- ---- a node that is added

-- with its number, it is the last child, and the last node
with_child : (p n : ℕ) (nodes : List NodeValue) (x : NodeValue) → p < length nodes
    → put_child n (last_in p) (nodes ++ x ∷ []) ≡ append_children p (n ∷ []) nodes ++ x ∷ []
with_child p n nodes x l =
    ap (λ cs. with_children p cs (nodes ++ x ∷ [])) (insert_last (children_at (nodes ++ x ∷ []) p) n)
    ∙ append_front p (n ∷ []) nodes (x ∷ []) l

parent_last : (p : ℕ) (nodes : List NodeValue) (x : NodeValue) (n : ℕ) → length nodes ≡ n
    → with_parent n (Some p) (nodes ++ x ∷ []) ≡ nodes ++ record x { parent = Some p } ∷ []
parent_last p nodes x n e =
    rw (get_or_at nodes x [] (new_node documents.document) n e) (set_at nodes x [] _ n e)

pub added : (kind : KindValue) (p : ℕ) (nodes : List NodeValue) → p < length nodes
    → add kind (last_in p) nodes ≡ append_children p (length nodes ∷ []) nodes ++ node kind p [] ∷ []
added kind p nodes l =
    ap (with_parent (length nodes) (Some p)) (with_child p (length nodes) nodes (new_node kind) l)
    ∙ parent_last p (append_children p (length nodes ∷ []) nodes) (new_node kind) (length nodes)
    (append_length p (length nodes ∷ []) nodes)

-- the text with which a node ends
abbrev pub text_in : List NodeValue → Option ℕ → Option (List ℕ)
text_in nodes None = None
text_in nodes (Some n) = text_of (kind_at nodes n)

abbrev pub last_text : List NodeValue → ℕ → Option (List ℕ)
last_text nodes p = text_in nodes (preceding (last_in p) nodes)

nothing_joined : (u : List ℕ) (nodes : List NodeValue) (o : Option ℕ) → text_in nodes o ≡ None
    → joined_to u o nodes ≡ None
nothing_joined u nodes None e = refl
nothing_joined u nodes (Some n) e = rw e refl

-- a text that doesn't go on another
pub text_added : (u : List ℕ) (p : ℕ) (nodes : List NodeValue) → p < length nodes → last_text nodes p ≡ None
    → add_text u (last_in p) nodes
    ≡ append_children p (length nodes ∷ []) nodes ++ node (documents.text u) p [] ∷ []
text_added u p nodes l e =
    rw (nothing_joined u nodes (preceding (last_in p) nodes) e) (added (documents.text u) p nodes l)

last_child : (cs : List ℕ) (n : ℕ) → child_before (length (cs ++ n ∷ [])) (cs ++ n ∷ []) ≡ Some n
last_child [] n = refl
last_child (c ∷ []) n = refl
last_child (c ∷ d ∷ cs) n = last_child (d ∷ cs) n

-- what a node ends with after another was added
pub last_text_added : (p : ℕ) (nodes : List NodeValue) (x : NodeValue) (others : List NodeValue) → p < length nodes
    → last_text (append_children p (length nodes ∷ []) nodes ++ (x ∷ others)) p ≡ text_of x.kind
last_text_added p nodes x others l =
    let all : List NodeValue = append_children p (length nodes ∷ []) nodes ++ (x ∷ others) in
    let children = appended_children p (length nodes ∷ []) nodes (x ∷ others) l in
    ap (λ (cs : List ℕ). text_in all (child_before (length cs) cs)) children
    ∙ ap (text_in all) (last_child (children_at nodes p) (length nodes))
    ∙ ap text_of (kind_after (append_children p (length nodes ∷ []) nodes) x others (length nodes)
    (append_length p (length nodes ∷ []) nodes))

-- and a new element with nothing
pub new_last_text : (nodes : List NodeValue) (kind : KindValue) (p n : ℕ) → length nodes ≡ n
    → last_text (nodes ++ node kind p [] ∷ []) n ≡ None
new_last_text nodes kind p n e =
    ap (λ (cs : List ℕ). text_in (nodes ++ node kind p [] ∷ []) (child_before (length cs) cs))
    (children_after nodes (node kind p []) [] n e)

-- ---- trees behind nodes

abbrev pub is_text : ValueTree → Bool
is_text (text u) = true
is_text _ = false

abbrev pub begins_text : ValueForest → Bool
begins_text none = false
begins_text (more t ts) = is_text t

abbrev pub ends_in_text : ValueTree → Option (List ℕ)
ends_in_text (text u) = Some u
ends_in_text _ = None

pub no_text_next : (t : ValueTree) (ts : ValueForest) → Apart t ts → begins_text ts ≡ true → ends_in_text
    t ≡ None
no_text_next (text u) (more (text v) ts) a e = absurd a
no_text_next _ _ a e = cc

pub tree_last : (t : ValueTree) (p : ℕ) (nodes : List NodeValue) → p < length nodes
    → last_text (append_children p (length nodes ∷ []) nodes ++ tree_nodes p (length nodes) t) p ≡ ends_in_text t
tree_last (document children) p nodes l = last_text_added p nodes _ _ l
tree_last _ p nodes l = last_text_added p nodes _ _ l

-- the nodes of trees behind these, whose node p holds them
abbrev pub with_forest : ℕ → ValueForest → List NodeValue → List NodeValue
with_forest p ts nodes = append_children p (numbers (length nodes) ts) nodes ++ forest_nodes p (length nodes) ts

abbrev pub with_tree : ℕ → ValueTree → List NodeValue → List NodeValue
with_tree p t nodes = append_children p (length nodes ∷ []) nodes ++ tree_nodes p (length nodes) t

pub with_tree_longer : (p : ℕ) (t : ValueTree) (nodes : List NodeValue) → length nodes ≤ length
    (with_tree p t nodes)
with_tree_longer p t nodes =
    let front : List NodeValue = append_children p (length nodes ∷ []) nodes in
    omega (arith, append_length p (length nodes ∷ []) nodes, length-append front (tree_nodes p (length nodes) t))

-- what the first nodes are stays
pub kinds_kept : (p n : ℕ) (ns : List ℕ) (nodes others : List NodeValue) → n < length nodes
    → kind_at (append_children p ns nodes ++ others) n ≡ kind_at nodes n
kinds_kept p n ns [] others l = absurd (omega arith)
kinds_kept zero zero ns (x ∷ nodes) others l = refl
kinds_kept zero (suc n) ns (x ∷ nodes) others l =
    ap (λ (y : NodeValue). y.kind) (get_or_append_left nodes others (new_node documents.document) n (omega arith))
kinds_kept (suc p) zero ns (x ∷ nodes) others l = refl
kinds_kept (suc p) (suc n) ns (x ∷ nodes) others l = kinds_kept p n ns nodes others (omega arith)

-- an element with what it holds
pub filled : (p : ℕ) (n : List ℕ) (attributes : List AttributePair) (children : ValueForest)
    (nodes : List NodeValue) → with_forest (length nodes) children (append_children p (length nodes ∷ []) nodes
    ++ node (documents.element (html (name_of_text n)) attributes) p [] ∷ [])
    ≡ with_tree p (element n attributes children) nodes
filled p n attributes children nodes =
    let b : ℕ = length nodes in
    let front : List NodeValue = append_children p (b ∷ []) nodes in
    let new : NodeValue = node (documents.element (html (name_of_text n)) attributes) p [] in
    let long = append_length p (b ∷ []) nodes in
    let count : length (front ++ new ∷ []) ≡ suc b = omega (arith, long, length-append front (new ∷ [])) in
    let held : List NodeValue = forest_nodes b (suc b) children in
    ap (λ m. append_children b (numbers m children) (front ++ new ∷ []) ++ forest_nodes b m children) count
    ∙ ap (λ (y : List NodeValue). y ++ held) (append_at (numbers (suc b) children) front new [] b long)
    ∙ append_assoc front (record new { children = numbers (suc b) children } ∷ []) held

-- one more tree
pub forest_joined : (p : ℕ) (t : ValueTree) (ts : ValueForest) (nodes : List NodeValue) → p < length nodes
    → with_forest p ts (with_tree p t nodes) ≡ with_forest p (more t ts) nodes
forest_joined p t ts nodes l =
    let b : ℕ = length nodes in
    let front : List NodeValue = append_children p (b ∷ []) nodes in
    let here : List NodeValue = tree_nodes p b t in
    let later : List NodeValue = forest_nodes p (b + size t) ts in
    let long = append_length p (b ∷ []) nodes in
    let count : length (front ++ here) ≡ b + size t =
    omega (arith, long, length-append front here, tree_count p b t) in
    ap (λ m. append_children p (numbers m ts) (front ++ here) ++ forest_nodes p m ts) count
    ∙ ap (λ (y : List NodeValue). y ++ later)
    (append_front p (numbers (b + size t) ts) front here (omega (arith, long, l))
    ∙ ap (λ (y : List NodeValue). y ++ here) (append_twice p (b ∷ []) (numbers (b + size t) ts) nodes l))
    ∙ append_assoc (append_children p (numbers b (more t ts)) nodes) here later
