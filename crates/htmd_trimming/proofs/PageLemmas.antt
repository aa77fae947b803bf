-- What a whole page becomes.
use Rattle.std.proofs.Common.{◌≡◌, ℕ, ◌+◌, List, [], true, ◌∷◌, ◌++◌, length, sym, ap, ◌∙◌, Some, None}
use Rattle.htmd_values.specs.ValueTrees.{none, more}
use Rattle.htmd_nodes.specs.Items.{Item, document_item, depth_at, children_of, IsTree}
use Rattle.htmd_nodes.specs.Layout.{document_items, forest_items}
use Rattle.htmd_nodes.specs.NumberedTrees.{NumberedForest, with_children, tree_of, forest_of}
use Rattle.htmd_nodes.proofs.NumberedTreesLemmas.{tree-open}
use Rattle.htmd_trimming.specs.declared.asked.Asked.{Asked}
use Rattle.htmd_trimming.specs.Titles.{heading}
use Rattle.htmd_trimming.specs.Trimming.{trimmed, trimmed_page, children_of_document, nothing}
use Rattle.htmd_trimming.proofs.LaidLemmas.{laid, laid-next}

abbrev untitled : Asked
untitled = record nothing { untitled = true }

module _ (items : List Item) (root : ℕ) (t : IsTree items) (first : root ≡ 0) where
  abbrev pub below_root : NumberedForest
  below_root = forest_of (tree_of items) (children_of items root)

  below-root : below_root ≡ children_of_document (tree_of items 0)
  below-root =
      let below = forest_of (tree_of items) (children_of items 0) in
      ap (λ n. forest_of (tree_of items) (children_of items n)) first
      ∙ sym (ap children_of_document (tree-open items 0 t t.not_empty)
      ∙ ap (λ (x : Item). children_of_document (with_children 0 x.node_data below)) t.first)

  -- the copy in a new tree
  pub page-is : (asked : Asked) (out new : List Item) (under : ℕ) → out ≡ document_item ∷ [] → under ≡ 0
      → new ≡ laid out under (trimmed asked None below_root) → new ≡ trimmed_page asked items
  page-is asked out new under only zeroth e =
      e ∙ (ap (λ n. laid out n (trimmed asked None below_root)) zeroth
      ∙ (ap (λ (x : List Item). laid x 0 (trimmed asked None below_root)) only
      ∙ ap (λ f. document_items (trimmed asked None f)) below-root))

  -- the copy after a heading
  pub titled-is : (title : List ℕ) (out mid new : List Item) (under : ℕ) → out ≡ document_item ∷ []
      → under ≡ 0
      → mid ≡ laid out under (more (heading title) none)
      → new ≡ laid mid under (trimmed untitled None below_root)
      → new ≡ document_items (more (heading title)
      (trimmed untitled None (children_of_document (tree_of items 0))))
  titled-is title out mid new under only zeroth d e =
      let rest = trimmed untitled None below_root in
      let headed : mid ≡ document_items (more (heading title) none) =
      d ∙ (ap (λ n. laid out n (more (heading title) none)) zeroth
      ∙ ap (λ (x : List Item). laid x 0 (more (heading title) none)) only) in
      let depth : depth_at mid 0 ≡ 0 = ap (λ (x : List Item). depth_at x 0) headed in
      e ∙ (ap (λ n. laid mid n rest) zeroth
      ∙ (ap (λ n. mid ++ forest_items (n + 1) 0 (length mid) rest) depth
      ∙ (laid-next (document_item ∷ []) mid 1 0 (Some (heading title)) rest headed
      ∙ ap (λ f. document_items (more (heading title) (trimmed untitled None f)))
      below-root)))
