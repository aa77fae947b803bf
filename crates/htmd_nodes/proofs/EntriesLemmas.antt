-- What an addition does to a tree as it lies in memory.
use Rattle.std.proofs.Common.{◌≡◌, ℕ, zero, suc, ◌+◌, ◌<◌, true, false, cond, eqb, List, [], ◌∷◌, ◌++◌, length}
use Rattle.std.proofs.Common.{Option, Some, None, All, get_or, set}
use Rattle.std.proofs.Common.{refl, sym, ap, ◌∙◌, subst, arith, inl, inr, length-set, get_or-set_same, get_or-set_other}
use Rattle.std.proofs.Math.Seq.{map-set_same}
use Rattle.std.proofs.lemmas.Bool.{cases_eq, cases_lt}
use Rattle.std.proofs.lemmas.Bool.Decides.{nat_tests}
use Rattle.std.proofs.lemmas.List.{get_or_default, get_or_append_left, get_or_push, length_push, length-map}
use Rattle.std.proofs.lemmas.List.{map_push, append-nil}
use Rattle.std.proofs.lemmas.Str.{IsUtf8-string_bytes}
use Rattle.std.specs.Str.{IsUtf8}
use Rattle.htmd_lexical.specs.AttributePairs.{AttributePair}
use Rattle.htmd_lexical.specs.declared.attribute.Attribute.{Attribute}
use Rattle.htmd_nodes.specs.declared.tree.Entry.{Entry}
use Rattle.htmd_nodes.specs.declared.tree.NodeData.{NodeData}
use Rattle.htmd_nodes.specs.declared.tree.NodeData.TheVariants.{Document, Doctype, Text, Comment, Element}
use Rattle.htmd_nodes.specs.Items.{Item, is_child, children_of, holds_children, data_at, depth_at}
use Rattle.htmd_nodes.specs.Items.{new_item, greatest_depth, IsTree, HoldsText, HoldTexts}
use Rattle.htmd_lexical.specs.Attributes.{pairs_of}
use Rattle.htmd_nodes.specs.Views.{data_of}
use Rattle.htmd_nodes.specs.Entries.{parent_of, item_of, items_of, IsStored}
use Rattle.htmd_nodes.proofs.ItemsLemmas.{children_from-push, children_from-none, is_child-before, IsTree-added}

-- an entry of the same depth and parent is the same item
pub item_of-level : (old new : Entry) → data_of new.data ≡ data_of old.data
    → new.level.parent ≡ old.level.parent
    → new.level.depth ≡ old.level.depth → item_of new ≡ item_of old
item_of-level old new same parent depth =
    ap (λ d. record { parent = parent_of new; depth = new.level.depth; node_data = d }) same
    ∙ (ap (λ p. record {
      parent = cond (eqb new.level.depth 0) None (Some p);
      depth = new.level.depth;
      node_data = data_of old.data;
    }) parent
    ∙ ap (λ n. record {
      parent = cond (eqb n 0) None (Some old.level.parent);
      depth = n;
      node_data = data_of old.data;
    })
    depth)

-- an entry is replaced by one that is the same node
pub items_of-set : (entries : List Entry) (p : ℕ) (old new : Entry) → old ≡ get_or entries p old
    → item_of new ≡ item_of old → items_of (set entries p new) ≡ items_of entries
items_of-set entries p old new here same = map-set_same item_of entries p new old (same ∙ ap item_of here)

-- the parent's entry is written with the children that it had
pub IsStored-kept : (entries : List Entry) (p : ℕ) (old new : Entry) → p < length entries
    → old ≡ get_or entries p old
    → item_of new ≡ item_of old → new.level.children ≡ old.level.children → IsStored entries
    → IsStored (set entries p new)
IsStored-kept entries p old new l here same kids t = record {
  tree = subst IsTree (sym (items_of-set entries p old new here same)) t.tree;
  children = λ k d m. each k d (subst (λ n. k < n) (length-set entries p new) m)
      ∙ ap (λ (y : List Item). children_of y k) (sym (items_of-set entries p old new here same));
}
  where
    at_parent : (d : Entry) → (get_or (set entries p new) p d).level.children
        ≡ children_of (items_of entries) p
    at_parent d =
        ap (λ (x : Entry). x.level.children) (get_or-set_same entries p new d l)
        ∙ (kids ∙ (ap (λ (x : Entry). x.level.children) (here ∙ get_or_default entries p old d l)
        ∙ t.children p d l))

    each : (k : ℕ) (d : Entry) → k < length entries
        → (get_or (set entries p new) k d).level.children ≡ children_of
        (items_of entries) k
    each k d m = elim (cases_eq k p) [
      | inl e ↦ subst (λ j. (get_or (set entries p new) j d).level.children
          ≡ children_of (items_of entries) j)
          (sym e)
          (at_parent d)
      | inr n ↦ ap (λ (x : Entry). x.level.children) (get_or-set_other entries p k new d n) ∙ t.children k d m
    ]

-- the items after an addition
pub items_of-added : (entries : List Entry) (p : ℕ) (old new last : Entry) → old ≡ get_or entries p old
    → item_of new ≡ item_of old
    → items_of (set entries p new ++ last ∷ []) ≡ items_of entries ++ item_of last ∷ []
items_of-added entries p old new last here same =
    map_push item_of (set entries p new) last ∙ ap (λ (y : List Item). y ++ item_of last ∷ [])
    (items_of-set entries p old new here same)

-- the parent's entry gets a child more, and the child's entry comes last
pub IsStored-added : (entries : List Entry) (p : ℕ) (old new last : Entry) → p < length entries
    → old ≡ get_or entries p old → item_of new ≡ item_of old
    → new.level.children ≡ old.level.children ++ length entries
    ∷ []
    → item_of last ≡ new_item (items_of entries) p (data_of last.data) → last.level.children ≡ []
    → holds_children (data_at (items_of entries) p) ≡ true → depth_at (items_of entries) p < greatest_depth
    → IsStored entries → IsStored (set entries p new ++ last ∷ [])
IsStored-added entries p old new last l here same kids this no_kids holds shallow t = record {
  tree = subst IsTree (sym (items ∙ ap (λ (x : Item). items_of entries ++ x ∷ []) this))
      (IsTree-added (items_of entries) p (data_of last.data) (subst (λ n. p < n) (sym count) l) holds shallow t.tree);
  children = λ k d m. each k d m ∙ sym (all k);
}
  where
    count : length (items_of entries) ≡ length entries
    count = length-map entries item_of

    written : List Entry
    written = set entries p new

    same_length : length written ≡ length entries
    same_length = length-set entries p new

    items : items_of (written ++ last ∷ []) ≡ items_of entries ++ item_of last ∷ []
    items = items_of-added entries p old new last here same

    all : (k : ℕ) → children_of (items_of (written ++ last ∷ [])) k ≡ children_of (items_of entries) k
        ++ cond (eqb p k)
        (length entries ∷ []) []
    all k =
        ap (λ (y : List Item). children_of y k) items
        ∙ (children_from-push 0 (items_of entries) (item_of last) k
        ∙ (ap (λ (x : Item). children_of (items_of entries) k ++ cond (is_child k x.parent)
        ((0 + length (items_of entries)) ∷ []) []) this
        ∙ ap (λ (n : ℕ). children_of (items_of entries) k ++ cond (eqb p k) (n ∷ []) [])
        (let e : 0 + length (items_of entries) ≡ length entries = omega (arith, count) in e)))

    at_old : (k : ℕ) (d : Entry) → k < length entries → get_or (written ++ last ∷ []) k d ≡ get_or written k d
    at_old k d m = get_or_append_left written (last ∷ []) d k (omega (arith, same_length))

    at_parent : (d : Entry) → (get_or (written ++ last ∷ []) p d).level.children
        ≡ children_of (items_of entries) p
        ++ length entries ∷ []
    at_parent d =
        ap (λ (x : Entry). x.level.children) (at_old p d l ∙ get_or-set_same entries p new d l)
        ∙ (kids ∙ ap (λ (y : List ℕ). y ++ length entries ∷ [])
        (ap (λ (x : Entry). x.level.children) (here ∙ get_or_default entries p old d l) ∙ t.children p d l))

    at_last : (d : Entry) → (get_or (written ++ last ∷ []) (length entries) d).level.children ≡ []
    at_last d = ap (λ (x : Entry). x.level.children) (get_or_push written last d (length entries) same_length)
        ∙ no_kids

    none_yet : children_of (items_of entries) (length entries) ≡ []
    none_yet = children_from-none 0 (items_of entries) (length entries)
        (λ k m. is_child-before (items_of entries) k (length entries) t.tree m (omega (arith, count)))

    each : (k : ℕ) (d : Entry) → k < length (written ++ last ∷ [])
        → (get_or (written ++ last ∷ []) k d).level.children
        ≡ children_of (items_of entries) k ++ cond (eqb p k) (length entries ∷ []) []
    each k d m = elim (cases_eq k p) [
      | inl e ↦ subst (λ j. (get_or (written ++ last ∷ []) j d).level.children
          ≡ children_of (items_of entries) j
          ++ cond (eqb p j) (length entries ∷ []) []) (sym e)
          (let b : eqb p p ≡ true = grind (arith, nat_tests) in at_parent d ∙ rw b refl)
      | inr n ↦ elim (cases_lt k (length entries)) [
        | inl old ↦ let b : eqb p k ≡ false = grind (arith, nat_tests) in
            ap (λ (x : Entry). x.level.children) (at_old k d old ∙ get_or-set_other entries p k new d n)
            ∙ (t.children k d old ∙ rw b (sym (append-nil (children_of (items_of entries) k))))
        | inr past ↦ let e : length entries ≡ k = omega (arith, length_push written last, same_length) in
            subst (λ j. (get_or (written ++ last ∷ []) j d).level.children ≡ children_of (items_of entries) j
            ++ cond (eqb p j) (length entries ∷ []) []) e
            (let b : eqb p (length entries) ≡ false = grind (arith, nat_tests) in at_last d ∙ rw (b, none_yet) refl)
      ]
    ]

-- the item of the entry that is added
pub last_item : (entries : List Entry) (i : ℕ) (last : Entry) → last.level.parent ≡ i
    → last.level.depth ≡ depth_at (items_of entries) i + 1
    → item_of last ≡ new_item (items_of entries) i (data_of last.data)
last_item entries i last parent deeper =
    let inner : eqb last.level.depth 0 ≡ false = grind (arith, nat_tests, deeper) in
    let named : parent_of last ≡ Some i = rw inner (ap Some parent) in
    let by_parent : Option ℕ → Item =
    λ o. record { parent = o; depth = last.level.depth; node_data = data_of last.data } in
    let by_depth : ℕ → Item = λ n. record { parent = Some i; depth = n; node_data = data_of last.data } in
    ap by_parent named ∙ ap by_depth deeper

-- ---- strings are text

values_hold : (attributes : List Attribute) → All (λ (a : AttributePair). IsUtf8 a.value) (pairs_of attributes)
values_hold [] k d l = absurd (omega arith)
values_hold (a ∷ attributes) zero d l = IsUtf8-string_bytes a.value
values_hold (a ∷ attributes) (suc k) d l = values_hold attributes k d (omega arith)

node_holds : (node : NodeData) → HoldsText (data_of node)
node_holds Document = tt
node_holds Doctype = tt
node_holds (Text s) = IsUtf8-string_bytes s
node_holds (Comment s) = tt
node_holds (Element name attributes) = values_hold attributes.items

pub texts_hold : (entries : List Entry) → HoldTexts (items_of entries)
texts_hold [] k d l = absurd (omega arith)
texts_hold (e ∷ entries) zero d l = node_holds e.data
texts_hold (e ∷ entries) (suc k) d l = texts_hold entries k d (omega arith)
