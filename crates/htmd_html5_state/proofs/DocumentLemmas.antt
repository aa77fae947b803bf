-- Documents as the program holds them.
use Rattle.std.proofs.Common.{◌≡◌, ℕ, suc, ◌+◌, ◌<◌, ◌≤◌, true, false, List, [], ◌∷◌, ◌++◌, length}
use Rattle.std.proofs.Common.{Some, ◌-◌, get_or, set, take, refl, sym, ap, ◌∙◌, arith, string_bytes}
use Rattle.std.proofs.lemmas.Bool.{eq-eqb, true≢false}
use Rattle.std.proofs.Math.Seq.{set-append_seam}
use Rattle.std.proofs.lemmas.List.{map-set, get_or-map, set_past, length-map, append_assoc, append-nil}
use Rattle.std.proofs.lemmas.List.{get_or_append_left, get_or_push, length-set, set-append_left}
use Rattle.std.proofs.lemmas.List.{take_all, take_more, drop_all}
use Rattle.std.specs.List.{list_any}
use Rattle.std.specs.Prelude.{◌==◌, slice_set, insert, remove, String}
use Rattle.std.specs.Global.{Global}
use Rattle.htmd_lexical.proofs.Cases.{test}
use Rattle.htmd_html5_state.specs.Nodes.{NodeValue, KindValue, text, node_at, kind_at, new_node, document, is_number}
use Rattle.htmd_html5_state.specs.Nodes.{add, index_of, place_index, put_child, with_parent}
use Rattle.htmd_html5_state.specs.declared.document.Place.{Place}
use Rattle.htmd_html5_state.specs.Nodes.{joined, joined_with, text_of}
use Rattle.htmd_html5_state.specs.Views.{node_of, nodes_of, kind_of}
use Rattle.htmd_html5_state.specs.declared.document.Node.{Node}
use Rattle.htmd_html5_state.specs.declared.document.NodeKind.TheVariants.{Text}

-- ---- one node is written

pub node_at-read : (ns : List Node) (n : ℕ) (old : Node) → n < length ns → old ≡ get_or ns n old
    → node_at (nodes_of ns) n ≡ node_of old
node_at-read ns n old l read =
    get_or-map node_of ns n old (new_node document) l ∙ ap node_of (sym read)

-- a node is written, by what is done to it
pub nodes_of-set : (ns : List Node) (n : ℕ) (old new : Node) (f : NodeValue → NodeValue) → n < length ns
    → old ≡ get_or ns n old → node_of new ≡ f (node_of old)
    → nodes_of (set ns n new) ≡ slice_set (nodes_of ns) n (f (node_at (nodes_of ns) n))
nodes_of-set ns n old new f l read is =
    map-set node_of ns n new
    ∙ ap (λ (x : NodeValue). set (nodes_of ns) n x) (is ∙ ap f (sym (node_at-read ns n old l read)))

-- if there is none, nothing changes
pub nodes_of-past : (ns : List Node) (n : ℕ) (x : NodeValue) → length ns ≤ n
    → slice_set (nodes_of ns) n x ≡ nodes_of ns
nodes_of-past ns n x l = set_past (nodes_of ns) n x (omega (arith, length-map ns node_of))

-- ---- where a child stands

pub index_of-none : (n : ℕ) (cs : List ℕ) → list_any (is_number n) cs ≡ false → index_of n cs ≡ length cs
index_of-none n [] lacks = refl
index_of-none n (c ∷ cs) lacks =
    test (c == n) (λ t. absurd (true≢false (rw t at lacks)))
    (λ t. rw (t, index_of-none n cs (rw t at lacks)) refl)

pub index_of-found : (n : ℕ) (before others : List ℕ) → list_any (is_number n) others ≡ false
    → index_of n (before ++ n ∷ others) ≡ length before
index_of-found n [] others lacks = rw (eq-eqb n n refl, lacks) refl
index_of-found n (c ∷ before) others lacks =
    rw (stands n before others, index_of-found n before others lacks) (grind arith)
  where
    stands : (n : ℕ) (before others : List ℕ) → list_any (is_number n) (before ++ n ∷ others) ≡ true
    stands n [] others = rw (eq-eqb n n refl) refl
    stands n (c ∷ before) others = test (c == n) (λ t. rw t refl) (λ t. rw (t, stands n before others) refl)

pub index_of-all : (child : ℕ) (children rest others : List ℕ) → children ≡ rest ++ others
    → list_any (is_number child) others ≡ false → length rest < 1 → length children ≡ index_of child children
index_of-all child children [] others parts lacks short = rw parts (sym (index_of-none child others lacks))
index_of-all child children (c ∷ rest) others parts lacks short = absurd (omega arith)

last_cut : (xs : List ℕ) (y : ℕ) → 1 ≤ length xs → get_or xs (length xs - 1) 0 ≡ y
    → xs ≡ take (length xs - 1) xs ++ y ∷ []
last_cut xs y l is =
    sym (take_all (length xs - 1 + 1) xs (omega arith))
    ∙ (take_more xs (length xs - 1) 0 (omega arith) ∙ ap (λ k. take (length xs - 1) xs ++ k ∷ []) is)

pub index_of-last : (child : ℕ) (children rest others : List ℕ) → children ≡ rest ++ others
    → list_any (is_number child) others ≡ false → 1 ≤ length rest → get_or rest (length rest - 1) 0 ≡ child
    → length (take (length rest - 1) rest) ≡ index_of child children
index_of-last child children rest others parts lacks l is =
    sym (ap (index_of child) whole ∙ index_of-found child (take (length rest - 1) rest) others lacks)
  where
    whole : children ≡ take (length rest - 1) rest ++ child ∷ others
    whole =
        parts ∙ (ap (λ (x : List ℕ). x ++ others) (last_cut rest child l is)
        ∙ append_assoc (take (length rest - 1) rest) (child ∷ []) others)

pub remove_past : (cs : List ℕ) (i : ℕ) → length cs ≤ i → remove cs i ≡ cs
remove_past cs i l = rw (take_all i cs l, drop_all (suc i) cs (omega arith)) (append-nil cs)

-- a child more, after all others
pub insert_last : (cs : List ℕ) (n : ℕ) → insert cs (length cs) n ≡ cs ++ n ∷ []
insert_last cs n = rw (take_all (length cs) cs (omega arith), drop_all (length cs) cs (omega arith)) refl

-- ---- what a part of a node becomes

pub written : (ns : List Node) (nodes : List NodeValue) (n : ℕ) (old new : Node) (f : NodeValue → NodeValue)
    → nodes_of ns ≡ nodes → n < length ns → old ≡ get_or ns n old → node_of new ≡ f (node_of old)
    → nodes_of (set ns n new) ≡ slice_set nodes n (f (node_at nodes n))
written ns nodes n old new f is l read same =
    nodes_of-set ns n old new f l read same ∙ ap (λ (x : List NodeValue). slice_set x n (f (node_at x n))) is

pub text-joined : (ns : List Node) (nodes : List NodeValue) (n : ℕ) (old : Node) (before after : String Global)
    (s : List ℕ)
    → nodes_of ns ≡ nodes → n < length ns → old ≡ get_or ns n old → old.kind ≡ Text before
    → string_bytes after ≡ string_bytes before ++ s
    → joined s n nodes
    ≡ Some (nodes_of (set ns n (record { kind = Text after; parent = old.parent; children = old.children })))
text-joined ns nodes n old before after s is l read kind bytes =
    ap (λ (k : KindValue). joined_with s n (text_of k) nodes) held
    ∙ ap Some (sym (written ns nodes n old _
    (λ (x : NodeValue). record x { kind = text (string_bytes before ++ s) }) is l
    read (ap (λ (t : List ℕ). record (node_of old) { kind = text t }) bytes)))
  where
    held : kind_at nodes n ≡ text (string_bytes before)
    held =
        ap (λ (x : List NodeValue). kind_at x n) (sym is)
        ∙ (ap (λ (x : NodeValue). x.kind) (node_at-read ns n old l read) ∙ ap kind_of kind)

-- ---- a new node

pub put_child_length : (n : ℕ) (place : Place) (nodes : List NodeValue)
    → length (put_child n place nodes) ≡ length nodes
put_child_length n place nodes = length-set nodes place.parent _

-- it is added with its parent, which then has it as a child
pub added_under : (nodes : List NodeValue) (kind : KindValue) (place : Place) → place.parent < length nodes
    → put_child (length nodes) place nodes ++ record (new_node kind) { parent = Some place.parent } ∷ []
    ≡ add kind place nodes
added_under nodes kind place l =
    let n = length nodes in
    let p = place.parent in
    let x = new_node kind in
    let ys = put_child n place nodes in
    let with_child : NodeValue → NodeValue =
    λ y. record y { children = insert y.children (place_index place.next y.children) n } in
    let under : NodeValue → NodeValue = λ y. record y { parent = Some p } in
    let read : node_at (nodes ++ x ∷ []) p ≡ node_at nodes p =
    get_or_append_left nodes (x ∷ []) (new_node document) p l in
    let child : put_child n place (nodes ++ x ∷ []) ≡ ys ++ x ∷ [] =
    ap (λ (y : NodeValue). set (nodes ++ x ∷ []) p (with_child y)) read
    ∙ set-append_left nodes (x ∷ []) p (with_child (node_at nodes p)) l in
    let size : length ys ≡ n = put_child_length n place nodes in
    let last : node_at (ys ++ x ∷ []) n ≡ x = get_or_push ys x (new_node document) n size in
    sym (ap (with_parent n (Some p)) child
    ∙ (ap (λ (y : NodeValue). set (ys ++ x ∷ []) n (under y)) last
    ∙ (ap (λ k. set (ys ++ x ∷ []) k (under x)) (sym size) ∙ set-append_seam ys x [] (under x))))
