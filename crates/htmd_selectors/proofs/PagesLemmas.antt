-- What a whole page becomes.
use Rattle.std.proofs.Common.{◌≡◌, ◌+◌, ℕ, suc, true, false, eqb, eqb-true, arith, List, [], ◌∷◌, ◌++◌, length}
use Rattle.std.proofs.Common.{replicate, refl, sym, ap, ◌∙◌, Some, None}
use Rattle.std.proofs.lemmas.Bool.{false≢true}
use Rattle.std.proofs.lemmas.List.{length-map}
use Rattle.htmd_values.specs.ValueTrees.{document, doctype, text, comment, element, ValueForest, none, more}
use Rattle.htmd_nodes.specs.Items.{Item, document_item, depth_at, children_of, IsTree}
use Rattle.htmd_nodes.specs.Layout.{document_items, forest_items}
use Rattle.htmd_nodes.specs.NumberedTrees.{tree_of, forest_of, value_forest}
use Rattle.htmd_nodes.specs.NumberedTrees.{value_at}
use Rattle.htmd_selectors.specs.declared.matching.StepState.{StepState}
use Rattle.htmd_selectors.specs.declared.selectors.Step.{Step}
use Rattle.htmd_selectors.specs.SelectorStates.{Known, first_known, kept, outermost, no_state}
use Rattle.htmd_selectors.specs.SelectorSteps as spec_steps
use Rattle.htmd_selectors.specs.Rewriting.{Rule, unchanged, rewritten, rewritten_page, children_of_document}
use Rattle.htmd_selectors.specs.SelectedParts.{dropped, page_of, selected, one_document}
use Rattle.htmd_selectors.specs.SelectedParts as spec
use Rattle.htmd_selectors.specs.Views.{step_of, steps_of}
use Rattle.htmd_selectors.proofs.SelectorStatesLemmas.{kept-page, without-none, outermost-page}

-- no element is around the root
root-outside : (items : List Item) (root : ℕ) → IsTree items → root ≡ 0 → eqb (depth_at items root) 0 ≡ true
root-outside items root t first =
    ap (λ n. eqb (depth_at items n) 0) first ∙ ap (λ (x : Item). eqb x.depth 0) t.first

-- the trees below a node
abbrev pub trees_below : List Item → ℕ → ValueForest
trees_below items node = value_forest (forest_of (tree_of items) (children_of items node))

-- what is known before the first of them
abbrev pub known_before : List spec_steps.Step → List StepState → List Item → ℕ → Known
known_before steps outside items node =
    first_known steps outside (eqb (depth_at items node) 0) (trees_below items node)

known_at_root : (steps : List spec_steps.Step) (outside : List StepState) (items : List Item) (root : ℕ)
    → IsTree items → root ≡ 0
    → known_before steps outside items root ≡ first_known steps outside true (trees_below items 0)
known_at_root steps outside items root t first =
    ap (λ b. first_known steps outside b (trees_below items root)) (root-outside items root t first)
    ∙ ap (λ n. first_known steps outside true (trees_below items n)) first

-- a copy in a new tree is a page of what was kept
copy-is : (items out new : List Item) (root under : ℕ) (kept-of : ValueForest → ValueForest)
    → out ≡ document_item ∷ [] → root ≡ 0 → under ≡ 0
    → new ≡ out ++ forest_items (depth_at out under + 1) under (length out) (kept-of (trees_below items root))
    → new ≡ document_items (kept-of (trees_below items 0))
copy-is items out new root under kept-of only first zeroth e =
    e ∙ (ap (λ n. out ++ forest_items (depth_at out n + 1) n (length out) (kept-of (trees_below items root))) zeroth
    ∙ (ap (λ (x : List Item). x ++ forest_items (depth_at x 0 + 1) 0 (length x) (kept-of (trees_below items root)))
    only
    ∙ ap (λ n. document_items (kept-of (trees_below items n))) first))

pub rewritten-is : (rule : Rule) (items out new : List Item) (root under : ℕ) → IsTree items
    → out ≡ document_item ∷ [] → root ≡ 0 → under ≡ 0
    → new ≡ out ++ forest_items (depth_at out under + 1) under (length out)
    (kept rule [] (known_before [] [] items root) (trees_below items root))
    → new ≡ rewritten_page rule items
rewritten-is rule items out new root under t only first zeroth e =
    copy-is items out new root under (kept rule [] (known_before [] [] items root)) only first zeroth e
    ∙ ap (λ k. document_items (kept rule [] k (trees_below items 0))) (known_at_root [] [] items root t first)
    ∙ ap document_items (kept-page [] items t [] refl rule
    ∙ ap (rewritten rule) (without-none [] [] (children_of_document (value_at items 0))))

module _ (items : List Item) (steps : List Step) (outside : List StepState) (t : IsTree items)
    (is : outside ≡ replicate (length steps) no_state) (out new : List Item) (root : ℕ)
    (only : out ≡ document_item ∷ []) (first : root ≡ 0) where
  none_outside : outside ≡ replicate (length (steps_of steps)) no_state
  none_outside = is ∙ ap (λ n. replicate n no_state) (sym (length-map steps step_of))

  pub dropped-is : (under : ℕ) → under ≡ 0
      → new ≡ out ++ forest_items (depth_at out under + 1) under (length out)
      (kept unchanged (steps_of steps) (known_before (steps_of steps) outside items root) (trees_below items root))
      → new ≡ dropped (steps_of steps) items
  dropped-is under zeroth e =
      copy-is items out new root under
      (kept unchanged (steps_of steps) (known_before (steps_of steps) outside items root)) only first zeroth e
      ∙ ap (λ k. document_items (kept unchanged (steps_of steps) k (trees_below items 0)))
      (known_at_root (steps_of steps) outside items root t first)
      ∙ ap document_items (kept-page (steps_of steps) items t outside none_outside unchanged)

  pub outermost-laid : new ≡ out ++ forest_items 1 0 (length out)
      (outermost (steps_of steps) None (known_before (steps_of steps) outside items root) (trees_below items root))
      → new ≡ document_items (one_document (spec.outermost (steps_of steps) [] []
      (children_of_document (value_at items 0))))
  outermost-laid e =
      e ∙ (ap (λ (x : List Item). x ++ forest_items 1 0 (length x)
      (outermost (steps_of steps) None (known_before (steps_of steps) outside items root) (trees_below items root)))
      only
      ∙ (ap (λ n. document_items
      (outermost (steps_of steps) None (known_before (steps_of steps) outside items n) (trees_below items n))) first
      ∙ (ap (λ k. document_items (outermost (steps_of steps) None k (trees_below items 0)))
      (known_at_root (steps_of steps) outside items 0 t refl)
      ∙ ap document_items (outermost-page (steps_of steps) items t outside none_outside))))

not_zero : (n : ℕ) → eqb (suc n) 0 ≡ true → ⊥
not_zero n e = let none : suc n ≡ 0 = eqb-true (suc n) 0 e in absurd (omega arith)

-- a page without children is none
pub page-none : (f : ValueForest) → eqb (length (children_of (document_items f) 0)) 0 ≡ true → None ≡ page_of f
page-none none e = refl
page-none (more (document children) trees) e = absurd (not_zero _ e)
page-none (more doctype trees) e = absurd (not_zero _ e)
page-none (more (text s) trees) e = absurd (not_zero _ e)
page-none (more (comment s) trees) e = absurd (not_zero _ e)
page-none (more (element name attributes children) trees) e = absurd (not_zero _ e)

pub page-some : (f : ValueForest) → eqb (length (children_of (document_items f) 0)) 0 ≡ false
    → Some (document_items f) ≡ page_of f
page-some none e = absurd (false≢true (sym e))
page-some (more tree trees) e = refl
