-- The texts among the nodes of a document, and what each step on nodes does to them.
use Rattle.std.proofs.Common.{◌≡◌, ◌∙◌, ℕ, zero, suc, Bool, true, false, List, [], ◌∷◌, ◌++◌, length, map, get_or, set}
use Rattle.std.proofs.Common.{Option, Some, None, refl, sym, ap}
use Rattle.std.proofs.Math.Seq.{map-set_same}
use Rattle.std.proofs.lemmas.List.{map-set, map-append}
use Rattle.std.proofs.lemmas.Bool.{true≢false}
use Rattle.htmd_lexical.specs.AttributePairs.{AttributePair}
use Rattle.htmd_html5_state.specs.Nodes.{NodeValue, KindValue, document, text, element, new_node, kind_at, with_kind}
use Rattle.htmd_html5_state.specs.Nodes.{with_parent, with_children, with_parents, detach, detach_from, put, attach}
use Rattle.htmd_html5_state.specs.Nodes.{add, move_children, remove_child, put_child, kind_with_missing, parent_at}
use Rattle.htmd_html5_state.specs.Nodes.{children_at}
use Rattle.htmd_law_html5.specs.DocumentLetters.{with_text_at, node_texts}

-- ---- what the nodes are

abbrev pub kind_in : NodeValue → KindValue
kind_in node = node.kind

abbrev pub kinds : List NodeValue → List KindValue
kinds nodes = map kind_in nodes

abbrev pub is_element : KindValue → Bool
is_element (element name attributes) = true
is_element _ = false

abbrev pub is_text : KindValue → Bool
is_text (text s) = true
is_text _ = false

abbrev pub with_text : KindValue → List (List ℕ) → List (List ℕ)
with_text (text s) texts = s ∷ texts
with_text _ texts = texts

abbrev pub texts : List KindValue → List (List ℕ)
texts [] = []
texts (k ∷ ks) = with_text k (texts ks)

-- ---- steps that leave what the nodes are

pub kinds_with_parent : (n : ℕ) (p : Option ℕ) (nodes : List NodeValue) → kinds (with_parent n p nodes)
    ≡ kinds nodes
kinds_with_parent n p nodes = map-set_same kind_in nodes n _ (new_node document) refl

pub kinds_with_children : (n : ℕ) (cs : List ℕ) (nodes : List NodeValue)
    → kinds (with_children n cs nodes) ≡ kinds nodes
kinds_with_children n cs nodes = map-set_same kind_in nodes n _ (new_node document) refl

pub kinds_detach_from : (p : Option ℕ) (n : ℕ) (nodes : List NodeValue) → kinds (detach_from p n nodes)
    ≡ kinds nodes
kinds_detach_from None n nodes = refl
kinds_detach_from (Some p) n nodes = kinds_with_parent n None (remove_child p n nodes) ∙ kinds_with_children p _ nodes

pub kinds_detach : (n : ℕ) (nodes : List NodeValue) → kinds (detach n nodes) ≡ kinds nodes
kinds_detach n nodes = kinds_detach_from (parent_at nodes n) n nodes

pub kinds_put : (n : ℕ) (place : _) (nodes : List NodeValue) → kinds (put n place nodes) ≡ kinds nodes
kinds_put n place nodes =
    kinds_with_parent n (Some place.parent) (put_child n place nodes) ∙ kinds_with_children place.parent _ nodes

pub kinds_attach : (n : ℕ) (place : _) (nodes : List NodeValue) → kinds (attach n place nodes) ≡ kinds nodes
kinds_attach n place nodes = kinds_put n place (detach n nodes) ∙ kinds_detach n nodes

pub kinds_with_parents : (p : ℕ) (cs : List ℕ) (nodes : List NodeValue) → kinds (with_parents p cs nodes)
    ≡ kinds nodes
kinds_with_parents p [] nodes = refl
kinds_with_parents p (c ∷ cs) nodes =
    kinds_with_parents p cs (with_parent c (Some p) nodes) ∙ kinds_with_parent c (Some p) nodes

pub kinds_move_children : (from to : ℕ) (nodes : List NodeValue) → kinds (move_children from to nodes)
    ≡ kinds nodes
kinds_move_children from to nodes =
    kinds_with_children to _ (with_parents to (children_at nodes from) (with_children from [] nodes))
    ∙ (kinds_with_parents to (children_at nodes from) (with_children from [] nodes)
    ∙ kinds_with_children from [] nodes)

-- ---- steps that add a node, or change what one is

pub kinds_new : (nodes : List NodeValue) (kind : KindValue)
    → kinds (nodes ++ new_node kind ∷ []) ≡ kinds nodes ++ kind ∷ []
kinds_new nodes kind = map-append kind_in nodes (new_node kind ∷ [])

pub kinds_add : (kind : KindValue) (place : _) (nodes : List NodeValue)
    → kinds (add kind place nodes) ≡ kinds nodes ++ kind ∷ []
kinds_add kind place nodes = kinds_put (length nodes) place (nodes ++ new_node kind ∷ []) ∙ kinds_new nodes kind

pub kinds_with_kind : (n : ℕ) (kind : KindValue) (nodes : List NodeValue)
    → kinds (with_kind n kind nodes) ≡ set (kinds nodes) n kind
kinds_with_kind n kind nodes = map-set kind_in nodes n _

-- what a node is, among the kinds
pub kind_read : (nodes : List NodeValue) (n : ℕ) → kind_at nodes n ≡ get_or (kinds nodes) n document
kind_read [] n = refl
kind_read (x ∷ nodes) zero = refl
kind_read (x ∷ nodes) (suc n) = kind_read nodes n

-- ---- the texts

pub texts_new : (ks : List KindValue) (k : KindValue) → is_text k ≡ false → texts (ks ++ k ∷ []) ≡ texts ks
texts_new [] (text s) e = absurd (true≢false e)
texts_new [] _ e = refl
texts_new (k' ∷ ks) k e = ap (with_text k') (texts_new ks k e)

-- ---- elements stay elements

pub element_no_text : (k : KindValue) → is_element k ≡ true → is_text k ≡ false
element_no_text (text s) e = absurd (true≢false (sym e))
element_no_text _ e = refl

pub element_before : (ks : List KindValue) (k : KindValue) (n : ℕ) → is_element (get_or ks n document) ≡ true
    → is_element (get_or (ks ++ k ∷ []) n document) ≡ true
element_before [] k n e = absurd (true≢false (sym e))
element_before (x ∷ ks) k zero e = e
element_before (x ∷ ks) k (suc n) e = element_before ks k n e

pub kind_new : (ks : List KindValue) (k : KindValue) → get_or (ks ++ k ∷ []) (length ks) document ≡ k
kind_new [] k = refl
kind_new (x ∷ ks) k = kind_new ks k

pub element_set : (ks : List KindValue) (n m : ℕ) (k : KindValue)
    → (is_element (get_or ks n document) ≡ true → is_element k ≡ true) → is_element (get_or ks m document)
    ≡ true → is_element (get_or (set ks n k) m document) ≡ true
element_set [] n m k h e = e
element_set (x ∷ ks) zero zero k h e = h e
element_set (x ∷ ks) zero (suc m) k h e = e
element_set (x ∷ ks) (suc n) zero k h e = e
element_set (x ∷ ks) (suc n) (suc m) k h e = element_set ks n m k h e

pub with_missing_element : (more : List AttributePair) (k : KindValue)
    → is_element (kind_with_missing more k) ≡ is_element k
with_missing_element more (element name attributes) = refl
with_missing_element more _ = refl

-- ---- the texts of the nodes, as the laws have them

with_text_same : (k : KindValue) (ts : List (List ℕ)) → with_text_at k ts ≡ with_text k ts
with_text_same (text s) ts = refl
with_text_same _ ts = refl

pub texts_same : (nodes : List NodeValue) → node_texts nodes ≡ texts (kinds nodes)
texts_same [] = refl
texts_same (x ∷ nodes) = ap (with_text_at x.kind) (texts_same nodes) ∙ with_text_same x.kind (texts (kinds nodes))
