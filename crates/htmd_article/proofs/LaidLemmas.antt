-- Nodes that are laid out one after the other.
use Rattle.std.proofs.Common.{◌≡◌, ℕ, suc, ◌+◌, ◌<◌, List, [], ◌∷◌, ◌++◌, length, refl, sym}
use Rattle.std.proofs.Common.{ap, ◌∙◌, Option, Some, arith, add-zero}
use Rattle.std.proofs.Common.{append_assoc, true, false, Bool, None, is_some}
use Rattle.std.proofs.lemmas.Bool.{false≢true}
use Rattle.std.proofs.lemmas.List.{append-nil, length-append, length_push, get_or_push, get_or_append_left}
use Rattle.htmd_lexical.specs.AttributePairs.{AttributePair}
use Rattle.htmd_lexical.proofs.Cases.{test}
use Rattle.htmd_values.specs.ValueTrees.{ValueTree, doctype, text, comment, element, ValueForest, none, more}
use Rattle.htmd_nodes.specs.Items.{Data, document_node, doctype_node, text_node, comment_node, element_node, Item}
use Rattle.htmd_nodes.specs.Items.{document_item, item_at, data_at, depth_at, holds_children, new_item}
use Rattle.htmd_nodes.specs.Layout.{size, sizes, tree_items, forest_items}
use Rattle.htmd_nodes.proofs.LayoutLemmas.{length-forest_items}
use Rattle.htmd_article.specs.Parts.{Part, part}
use Rattle.htmd_article.specs.Writing.{goes, in_title_below, node_before, number_below, written, written_before}
use Rattle.htmd_article.specs.Writing.{written_part, all_written}

more-rest : (d p b : ℕ) (t : ValueTree) (rest : ValueForest) → forest_items d p b (more t rest)
    ≡ forest_items d p b (more t none) ++ forest_items d p (b + sizes (more t none)) rest
more-rest d p b t rest =
    let count : b + size t ≡ b + (size t + 0) = omega arith in
    ap (λ n. tree_items d p b t ++ forest_items d p n rest) count
    ∙ ap (λ x. x ++ forest_items d p (b + (size t + 0)) rest) (sym (append-nil (tree_items d p b t)))

node-rest : (d p b : ℕ) (nd : Data) (inner rest : ValueForest) → forest_items d p b (node_before nd inner rest)
    ≡ forest_items d p b (node_before nd inner none)
    ++ forest_items d p (b + sizes (node_before nd inner none)) rest
node-rest d p b document_node inner rest = ap (λ n. forest_items d p n rest) (sym (add-zero b))
node-rest d p b doctype_node inner rest = more-rest d p b doctype rest
node-rest d p b (text_node s) inner rest = more-rest d p b (text s) rest
node-rest d p b (comment_node s) inner rest = more-rest d p b (comment s) rest
node-rest d p b (element_node name attributes) inner rest = more-rest d p b (element name attributes inner) rest

before-rest : (d p b : ℕ) (t : Bool) (x : Part) (rest : ValueForest) → forest_items d p b (written_before t x rest)
    ≡ forest_items d p b (written_part t x) ++ forest_items d p (b + sizes (written_part t x)) rest
before-rest d p b t (part nd f ps) rest =
    test (goes nd f t)
    (λ so. rw so (ap (λ n. forest_items d p n rest) (sym (add-zero b))))
    (λ otherwise. rw otherwise (node-rest d p b nd (written (in_title_below nd t) ps) rest))

-- a part, and what follows it
pub laid-next : (out new : List Item) (d p : ℕ) (t : Bool) (x : Part) (rest : ValueForest)
    → new ≡ out ++ forest_items d p (length out) (written_part t x)
    → new ++ forest_items d p (length new) rest ≡ out ++ forest_items d p (length out) (written_before t x rest)
laid-next out new d p t x rest e =
    let this = written_part t x in
    let count : length new ≡ length out + sizes this =
    ap length e ∙ (length-append out (forest_items d p (length out) this)
    ∙ ap (λ n. length out + n) (length-forest_items this d p (length out))) in
    ap (λ n. new ++ forest_items d p n rest) count
    ∙ (ap (λ y. y ++ forest_items d p (length out + sizes this) rest) e
    ∙ (append_assoc out (forest_items d p (length out) this) (forest_items d p (length out + sizes this) rest)
    ∙ ap (λ y. out ++ y) (sym (before-rest d p (length out) t x rest))))

-- parts, and those that follow them
pub laid-more : (out new : List Item) (d p : ℕ) (xs ys : List Part)
    → new ≡ out ++ forest_items d p (length out) (all_written xs)
    → new ++ forest_items d p (length new) (all_written ys)
    ≡ out ++ forest_items d p (length out) (all_written (xs ++ ys))
laid-more out new d p [] ys e =
    ap (λ (x : List Item). x ++ forest_items d p (length x) (all_written ys)) (e ∙ append-nil out)
laid-more out new d p (x ∷ xs) ys e =
    let mid : List Item = out ++ forest_items d p (length out) (written_part false x) in
    laid-more mid new d p xs ys (e ∙ sym (laid-next out mid d p false x (all_written xs) refl))
    ∙ laid-next out mid d p false x (all_written (xs ++ ys)) refl

abbrev option_else : ℕ → Option ℕ → ℕ
option_else a None = a
option_else a (Some b) = b

some_none : {n : ℕ} → Some n ≡ None → ⊥
some_none e = false≢true (sym (ap is_some e))

-- what is laid out stays before what comes
pub item_at-kept : (out new rest : List Item) (k : ℕ) → new ≡ out ++ rest → k < length out
    → item_at new k ≡ item_at out k
item_at-kept out new rest k e l =
    ap (λ (x : List Item). item_at x k) e ∙ get_or_append_left out rest document_item k l

pub within-kept : (out new rest : List Item) (k : ℕ) → new ≡ out ++ rest → k < length out → k < length new
within-kept out new rest k e l = omega (arith, ap length e, length-append out rest)

module _ (out mid : List Item) (under id : ℕ) (name : List ℕ) (attributes : List AttributePair)
    (is : id ≡ length out)
    (e : mid ≡ out ++ forest_items (depth_at out under + 1) under (length out)
    (more (element name attributes none) none)) where
  here : item_at mid id ≡ new_item out under (element_node name attributes)
  here =
      ap (λ (x : List Item). item_at x id) e
      ∙ get_or_push out (new_item out under (element_node name attributes)) document_item id (omega (arith, is))

  count : length mid ≡ suc (length out)
  count = ap length e ∙ (length_push out (new_item out under (element_node name attributes)) ∙ omega arith)

  -- an element, and then what it holds
  laid-element : (new : List Item) (f : ValueForest)
      → new ≡ mid ++ forest_items (depth_at mid id + 1) id (length mid) f
      → new ≡ out ++ forest_items (depth_at out under + 1) under (length out)
      (more (element name attributes f) none)
  laid-element new f g =
      let item : Item = new_item out under (element_node name attributes) in
      let depth : depth_at mid id + 1 ≡ suc (depth_at out under + 1) =
      ap (λ (x : Item). x.depth + 1) here ∙ omega arith in
      g ∙ (ap (λ n. mid ++ forest_items n id (length mid) f) depth
      ∙ (ap (λ n. mid ++ forest_items (suc (depth_at out under + 1)) id n f) count
      ∙ (ap (λ n. mid ++ forest_items (suc (depth_at out under + 1)) n (suc (length out)) f) is
      ∙ (ap (λ x. x ++ forest_items (suc (depth_at out under + 1)) (length out) (suc (length out)) f) e
      ∙ (append_assoc out (item ∷ [])
      (forest_items (suc (depth_at out under + 1)) (length out) (suc (length out)) f)
      ∙ ap (λ x. out ++ x) (sym (append-nil
      (item ∷ forest_items (suc (depth_at out under + 1)) (length out) (suc (length out)) f))))))))

  laid-within : id < length mid
  laid-within = omega (arith, is, count)

  laid-holds : holds_children (data_at mid id) ≡ true
  laid-holds = ap (λ (x : Item). holds_children x.node_data) here

number-is : (a b : ℕ) → Some a ≡ Some b → a ≡ b
number-is a b e = ap (λ (o : Option ℕ). option_else a o) e

-- what an added node is, if others can be below it
pub record IsLaid (out mid : List Item) (under id : ℕ) (d : Data) : Type 0 where
  pub within : id < length mid
  pub holds : holds_children (data_at mid id) ≡ true
  pub over : (new : List Item) (f : ValueForest) → new ≡ mid ++ forest_items (depth_at mid id + 1) id (length mid) f
      → new ≡ out ++ forest_items (depth_at out under + 1) under (length out) (node_before d f none)

pub laid-node : (out mid : List Item) (under id : ℕ) (d : Data) → Some id ≡ number_below d (length out)
    → mid ≡ out ++ forest_items (depth_at out under + 1) under (length out) (node_before d none none)
    → IsLaid out mid under id d
laid-node out mid under id document_node is e = absurd (some_none is)
laid-node out mid under id doctype_node is e = absurd (some_none is)
laid-node out mid under id (text_node s) is e = absurd (some_none is)
laid-node out mid under id (comment_node s) is e = absurd (some_none is)
laid-node out mid under id (element_node name attributes) is e =
    let n = number-is id (length out) is in
    record {
      within = laid-within out mid under id name attributes n e;
      holds = laid-holds out mid under id name attributes n e;
      over = laid-element out mid under id name attributes n e;
    }

-- nothing is below a node that isn't an element
pub none-below : (d : Data) (n : ℕ) (f rest : ValueForest) → None ≡ number_below d n
    → node_before d none rest ≡ node_before d f rest
none-below document_node n f rest e = refl
none-below doctype_node n f rest e = refl
none-below (text_node s) n f rest e = refl
none-below (comment_node s) n f rest e = refl
none-below (element_node name attributes) n f rest e = absurd (some_none (sym e))
