-- What stands in a title: it shows as elsewhere.
use Rattle.std.proofs.Common.{◌≡◌, ℕ, ◌<◌, Bool, true, false}
use Rattle.std.proofs.Common.{sym, subst, None}
use Rattle.htmd_nodes.specs.NumberedTrees.{NumberedForest, value_forest}
use Rattle.htmd_document.specs.Documents.{Blocks}
use Rattle.htmd_document.specs.FlatDocuments.{text_in_line}
use Rattle.htmd_document.specs.NormalDocuments.{are_normal_blocks}
use Rattle.htmd_shown.specs.Pieces.{greatest_count}
use Rattle.htmd_shown.specs.SimpleTrees.{Simples}
use Rattle.htmd_law_returning.proofs.KeptBlocks.{blocks_keep}
use Rattle.htmd_law_returning.specs.PageFormats.{formats_show}
use Rattle.htmd_law_returning.specs.SettledDocuments.{blocks_are_away}
use Rattle.htmd_law_returning.specs.SettledDocuments.{weight_in}
use Rattle.htmd_law_returning.proofs.BlockTrees.{trees_in, cut_blocks}
use Rattle.htmd_law_returning.proofs.ElementForms.{are_settled_alone}
use Rattle.htmd_law_returning.proofs.FarBlocks.{blocks-far, inside-far}
use Rattle.htmd_law_returning.proofs.FarLinks.{far-same}
use Rattle.htmd_law_returning.proofs.GivenBlocks.{AreGiven}
use Rattle.htmd_law_returning.proofs.InsideLemmas.{IsTitle, inside_trees, inside-returned}
use Rattle.htmd_law_returning.proofs.OrderLemmas.{is_ordered}
use Rattle.htmd_law_returning.proofs.PageLemmas.{shown_of}
use Rattle.htmd_law_returning.proofs.ShownInlines.{shown_at}
use Rattle.htmd_law_returning.proofs.StandLemmas.{Stands}
use Rattle.htmd_law_returning.proofs.ElementTrees.{cut-text}
use Rattle.htmd_law_returning.proofs.GivenBlocks.{plain-parts}
use Rattle.htmd_law_returning.proofs.ReadyLemmas.{parts_of}

module _ (scripting is_rich : Bool) where
  -- what stands in a title, by what comes back elsewhere
  pub title-inside : (n : ℕ) (all : Blocks) (f : NumberedForest)
      → Stands (value_forest f) (inside_trees (text_in_line all) (trees_in all))
      → blocks_are_away (cut_blocks all) ≡ true → are_settled_alone (cut_blocks all) ≡ true
      → blocks_keep false (cut_blocks all) ≡ true → formats_show is_rich (cut_blocks all) ≡ true
      → are_normal_blocks false (cut_blocks all) ≡ true → weight_in (cut_blocks all) < greatest_count
      → is_ordered 0 f ≡ true
      → ((g : NumberedForest) → Stands (value_forest g) (trees_in all) → (k : ℕ) → is_ordered k g ≡ true
      → AreGiven (parts_of is_rich n) (shown_of scripting is_rich None g) (cut_blocks all))
      → IsTitle (parts_of is_rich n) (shown_at scripting is_rich true None f) (cut_blocks all)
  title-inside n all f e title settled keep formats normal light o later =
      let seen : Blocks = cut_blocks all in
      let same = far-same scripting is_rich true None f
      (inside-far scripting is_rich (text_in_line all) (trees_in all)
      (blocks-far scripting is_rich all false settled keep formats normal title light) f 0 e o) in
      let inside = inside-returned scripting is_rich n (parts_of is_rich n) (plain-parts is_rich n) all f
      (subst (λ t. Stands (value_forest f) (inside_trees t (trees_in all))) (sym (cut-text all)) e) settled formats
      normal light o later in
      subst (λ (ts : Simples). IsTitle (parts_of is_rich n) ts seen) (sym same)
      (record { inside = inside; first = inside.first })
