-- The Markdown of one paragraph reads back.
use Rattle.std.proofs.Common.{◌≡◌, ℕ, zero, suc, ◌<◌, ◌≤◌, List, [], ◌∷◌, Some, None, Option, refl, arith, codes}
use Rattle.htmd_nodes.specs.Items.{document_item, depth_at, element_node, text_node, greatest_depth, parent_at, IsTree}
use Rattle.htmd_nodes.specs.Items.{IsUnder}
use Rattle.htmd_nodes.proofs.ItemsLemmas.{IsTree-added}
use Rattle.htmd_walk.specs.BuiltIn.{built_in}
use Rattle.htmd_values.specs.ValueTrees.{document}
use Rattle.htmd_walk.specs.NumberedTrees.{tree_of, forest_from, value_tree}
use Rattle.htmd_walk.specs.ParagraphLaws.{paragraphs}
use Rattle.htmd_walk.proofs.ParagraphLawsLemmas.{paragraphs_read_back}
use Rattle.htmd.specs.PageOutputs.{empty_paragraph, paragraph, paragraph_markdown}
use Rattle.htmd_law_trees.specs.OneParagraphLaws.{ParagraphReadsBack}

-- ---- it is a tree

none_under : (k p : ℕ) → k < 1 → parent_at (document_item ∷ []) k ≡ Some p
    → IsUnder (document_item ∷ []) p k
none_under zero p l e = cc
none_under (suc k) p l e = absurd (omega arith)

not_deep : (k : ℕ) → k < 1 → depth_at (document_item ∷ []) k ≤ greatest_depth
not_deep zero l = omega arith
not_deep (suc k) l = absurd (omega arith)

document_alone : IsTree (document_item ∷ [])
document_alone = record {
  not_empty = omega arith;
  first = refl;
  has_parent = λ k positive l. absurd (omega arith);
  under = none_under;
  within = not_deep;
}

empty_is_tree : IsTree empty_paragraph
empty_is_tree =
    IsTree-added _ 0 (element_node (codes "p") []) (omega arith) refl (omega arith) document_alone

paragraph_is_tree : (text : List ℕ) → IsTree (paragraph text)
paragraph_is_tree [] = empty_is_tree
paragraph_is_tree (b ∷ s) =
    IsTree-added empty_paragraph 1 (text_node (b ∷ s)) (omega arith) refl (omega arith) empty_is_tree

-- ---- its Markdown

held_in : List ℕ → Option (List ℕ)
held_in [] = None
held_in (b ∷ s) = Some (b ∷ s)

is_paragraph : (text : List ℕ) → value_tree (tree_of (paragraph text) 0)
    ≡ document (paragraphs (held_in text ∷ []))
unfolding tree_of forest_from held_in
is_paragraph [] = refl
is_paragraph (b ∷ s) = refl

pub paragraph_reads_back : ParagraphReadsBack
unfolding paragraph_markdown held_in
paragraph_reads_back options [] =
    paragraphs_read_back (built_in options) (paragraph []) 0 (paragraph_is_tree []) options (None ∷ []) refl refl
    (is_paragraph [])
paragraph_reads_back options (b ∷ s) =
    paragraphs_read_back (built_in options) (paragraph (b ∷ s)) 0 (paragraph_is_tree (b ∷ s)) options
    (Some (b ∷ s) ∷ []) refl refl (is_paragraph (b ∷ s))
