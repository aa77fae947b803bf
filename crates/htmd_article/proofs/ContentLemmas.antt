-- What is laid out under the Document of a tree.
use Rattle.std.proofs.Common.{◌≡◌, ◌<◌, ◌+◌, ◌++◌, ℕ, true, false, List, length, refl, sym, ap}
use Rattle.std.proofs.Common.{◌∙◌, subst}
use Rattle.htmd_values.specs.ValueTrees.{ValueForest}
use Rattle.htmd_nodes.specs.Items.{Item, IsTree, data_at, holds_children}
use Rattle.htmd_nodes.specs.Layout.{forest_items}
use Rattle.htmd_nodes.specs.Views.{data_of}
use Rattle.htmd_nodes.specs.declared.tree.NodeData.{NodeData}
use Rattle.htmd_nodes.specs.declared.tree.NodeData.TheVariants.{Document, Doctype, Text, Comment, Element}
use Rattle.htmd_article.specs.declared.facts.Facts.{Facts}
use Rattle.htmd_article.specs.declared.parts.Part as source
use Rattle.htmd_article.specs.declared.parts.Part.{out-Part}
use Rattle.htmd_article.specs.Parts.{part, Parts}
use Rattle.htmd_article.specs.PartViews.{part_of, parts_of}
use Rattle.htmd_article.specs.TopLinks.{without_links, linkless}
use Rattle.htmd_article.specs.Writing.{written, written_part, written_whole}
use Rattle.htmd_article.proofs.PartsLemmas.{part-out}
use Rattle.htmd_article.proofs.WritingLemmas.{laid}

module _ (out : List Item) (root : ℕ) (t : IsTree out) (zeroth : root ≡ 0) where
  pub root_within : root < length out
  root_within = subst (λ n. n < length out) (sym zeroth) t.not_empty

  pub root_holds : holds_children (data_at out root) ≡ true
  root_holds =
      ap (λ n. holds_children (data_at out n)) zeroth ∙ ap (λ (x : Item). holds_children x.node_data) t.first

  pub under_root : (new : List Item) (f : ValueForest) → new ≡ laid out root f
      → new ≡ out ++ forest_items 1 0 (length out) f
  under_root new f e =
      e ∙ (ap (λ n. laid out n f) zeroth
      ∙ ap (λ (x : Item). out ++ forest_items (x.depth + 1) 0 (length out) f) t.first)

other-whole : (d : NodeData) (f : Facts) (ps : Parts) → (d ≡ Document → ⊥)
    → written_whole (part (data_of d) f ps) ≡ written_part false (part (data_of d) f ps)
other-whole Document f ps h = absurd (h refl)
other-whole Doctype f ps h = refl
other-whole (Text s) f ps h = refl
other-whole (Comment s) f ps h = refl
other-whole (Element name attributes) f ps h = refl

module _ (p : source.Part) where
  pub whole_document : (out-Part p).node.now ≡ Document
      → written false (parts_of (out-Part p).parts.items) ≡ written_whole (part_of p)
  whole_document e =
      sym (ap written_whole (part-out p)
      ∙ ap (λ d. written_whole (part (data_of d) (out-Part p).facts (parts_of (out-Part p).parts.items))) e)

  pub whole_other : ((out-Part p).node.now ≡ Document → ⊥)
      → written_part false (part_of p) ≡ written_whole (part_of p)
  whole_other h =
      ap (written_part false) (part-out p)
      ∙ (sym (other-whole (out-Part p).node.now (out-Part p).facts (parts_of (out-Part p).parts.items) h)
      ∙ sym (ap written_whole (part-out p)))

  pub linkless_document : (out-Part p).node.now ≡ Document
      → written false (without_links (parts_of (out-Part p).parts.items)) ≡ written_whole (linkless (part_of p))
  linkless_document e =
      sym (ap (λ x. written_whole (linkless x)) (part-out p)
      ∙ ap (λ d. written_whole (part (data_of d) (out-Part p).facts
      (without_links (parts_of (out-Part p).parts.items)))) e)

  pub linkless_other : ((out-Part p).node.now ≡ Document → ⊥)
      → written_part false (linkless (part_of p)) ≡ written_whole (linkless (part_of p))
  linkless_other h =
      ap (λ x. written_part false (linkless x)) (part-out p)
      ∙ (sym (other-whole (out-Part p).node.now (out-Part p).facts
      (without_links (parts_of (out-Part p).parts.items)) h)
      ∙ sym (ap (λ x. written_whole (linkless x)) (part-out p)))

-- a whole page under the root of a new tree
pub ruleset whole_steps = (root_within, root_holds, under_root, whole_document, whole_other)

-- the same without the links above its content
pub ruleset linkless_steps = (root_within, root_holds, under_root, linkless_document, linkless_other)

-- what stands under the root of a new tree
pub ruleset root_steps = (root_within, root_holds, under_root)
