-- A figure on a page, and a caption in one.
use Rattle.std.proofs.Common.{◌≡◌, ℕ, suc, ◌<◌, Bool, true, false, List, [], ◌∷◌, refl, sym, ap, ◌∙◌, subst, Option}
use Rattle.std.proofs.Common.{Some, None, codes, not, ◌||◌}
use Rattle.std.proofs.lemmas.Bool.{and_parts}
use Rattle.htmd_lexical.specs.AttributePairs.{AttributePair}
use Rattle.htmd_lexical.specs.Characters.{line_feed}
use Rattle.htmd_nodes.specs.NumberedTrees.{NumberedForest, value_forest}
use Rattle.htmd_nodes.specs.NumberedTrees as page
use Rattle.htmd_document.specs.Documents.{element, paragraph, Block, Blocks, block}
use Rattle.htmd_document.specs.FlatDocuments.{text_in_line}
use Rattle.htmd_document.specs.NormalDocuments.{is_normal_block, are_normal_blocks}
use Rattle.htmd_document.specs.NormalInlines.{are_anchors}
use Rattle.htmd_document.specs.TightItems.{is_filled}
use Rattle.htmd_document.specs.declared.document.BlockElement.TheVariants as an
use Rattle.htmd_shown.specs.declared.role.Role.TheVariants as role
use Rattle.htmd_shown.specs.Facts.{made}
use Rattle.htmd_shown.specs.Pieces.{greatest_count}
use Rattle.htmd_shown.specs.SimpleTrees.{Simples, text, more}
use Rattle.htmd_law_rendering.specs.SpelledTrees.{value_forest as forest_of}
use Rattle.htmd_law_returning.specs.LastingAnchors.{title_keeps, line_keeps}
use Rattle.htmd_document.specs.LoneAnchors.{is_alone, stand_alone}
use Rattle.htmd_law_returning.proofs.KeptBlocks.{blocks_keep}
use Rattle.htmd_law_returning.specs.PageFormats.{formats_show}
use Rattle.htmd_law_returning.specs.SettledDocuments.{has_caption, blocks_are_away, weight_in}
use Rattle.htmd_law_returning.proofs.BlockSteps.{alone-found, alone-titled, stays}
use Rattle.htmd_law_returning.proofs.BlockTrees.{trees_in, cut_block, cut_blocks, spelled_element, spelled_in}
use Rattle.htmd_law_returning.proofs.ElementForms.{are_settled_alone, figure-long}
use Rattle.htmd_law_returning.proofs.ElementShown.{figure-shown, caption-shown}
use Rattle.htmd_law_returning.proofs.ElementTrees.{cut-text}
use Rattle.htmd_law_returning.proofs.FigureLemmas.{AreInFigure, figure-caption, figure-gives, shows_caption}
use Rattle.htmd_law_returning.proofs.LeanTrees.{black-filled}
use Rattle.htmd_law_returning.proofs.GivenBlocks.{AreGiven}
use Rattle.htmd_law_returning.proofs.ReadyLemmas.{parts_of}
use Rattle.htmd_law_returning.proofs.InsideLemmas.{inside_trees, element-trees}
use Rattle.htmd_law_returning.proofs.TitleLemmas.{title-inside}
use Rattle.htmd_law_returning.proofs.OrderLemmas.{is_ordered, ordered-next}
use Rattle.htmd_law_returning.proofs.PageLemmas.{shown_of, line_before, from-block, block-order, from-text}
use Rattle.htmd_law_returning.proofs.PageLemmas.{line-shown, IsFresh}
use Rattle.htmd_law_returning.proofs.ReturnedBlocks.{IsFirst, first-one, behind}
use Rattle.htmd_law_returning.proofs.ShownInlines.{shown_at}
use Rattle.htmd_law_returning.proofs.StandLemmas.{Stands}
use Rattle.htmd_law_returning.proofs.StartLemmas.{false-true}

module _ (scripting is_rich : Bool) (n : ℕ) (all d : Blocks) (before : Option (List AttributePair))
    (f : NumberedForest) (k : ℕ) where
  -- a figure by what stands in it
  pub figure-one : IsFresh before → Stands (value_forest f) (trees_in (block (element an.Figure [] all) d))
      → is_rich ≡ true → has_caption (cut_blocks all) ≡ true → is_filled (cut_blocks all) ≡ true
      → is_ordered k f ≡ true
      → ((g : NumberedForest) → Stands (value_forest g) (trees_in all) → (j : ℕ) → is_ordered j g ≡ true
      → AreInFigure is_rich n (shown_of scripting is_rich None g) (cut_blocks all))
      → IsFirst scripting is_rich before f n (element an.Figure [] (cut_blocks all)) d
  figure-one fresh e rich some filled o within =
      let seen : Blocks = cut_blocks all in
      let own = from-block f (codes "figure") [] (line_before (trees_in all)) (trees_in d)
      (subst (λ t. Stands (value_forest f) (forest_of (spelled_element an.Figure [] t (spelled_in all)
      (spelled_in d))))
      (sym (cut-text all) ∙ figure-long seen some) e) refl in
      let order = block-order k f own.id (codes "figure") [] own.inside own.line own.rest own.is o in
      let inner = from-text own.inside (line_feed ∷ []) (trees_in all) own.within in
      let ts : Simples = shown_of scripting is_rich None inner.rest in
      let after : Simples = shown_of scripting is_rich (Some []) (behind own.line own.rest) in
      first-one scripting is_rich before f own.rest n own.line
      (made own.id role.Figure [] (more (text (line_feed ∷ [])) ts)) [] (element an.Figure [] seen) d
      (ap (shown_of scripting is_rich before) own.is
      ∙ (figure-shown scripting is_rich before own.id own.inside (behind own.line own.rest) fresh
      ∙ ap (λ us. more (made own.id role.Figure [] us) after)
      (ap (shown_of scripting is_rich None) inner.is ∙ line-shown scripting is_rich None inner.id inner.rest)))
      (figure-gives is_rich n own.id ts seen rich filled some
      (within inner.rest inner.others (suc inner.id)
      (ordered-next 0 own.inside (page.text inner.id (line_feed ∷ [])) inner.rest inner.is order.0).rest))
      own.others (suc own.line) order.1

  -- a caption, and what stands behind it
  pub caption-one : IsFresh before → Stands (value_forest f) (trees_in (block (element an.FigureCaption [] all) d))
      → blocks_are_away (cut_blocks all) ≡ true → are_settled_alone (cut_blocks all) ≡ true
      → blocks_keep false (cut_blocks all) ≡ true → title_keeps (cut_blocks all) ≡ true
      → formats_show is_rich (cut_blocks all) ≡ true → are_normal_blocks false (cut_blocks all) ≡ true
      → is_filled (cut_blocks all) ≡ true → weight_in (cut_blocks all) < greatest_count
      → is_ordered k f ≡ true
      → ((g : NumberedForest) → Stands (value_forest g) (trees_in all) → (j : ℕ) → is_ordered j g ≡ true
      → AreGiven (parts_of is_rich n) (shown_of scripting is_rich None g) (cut_blocks all))
      → ((g : NumberedForest) → Stands (value_forest g) (trees_in d) → (j : ℕ) → is_ordered j g ≡ true
      → AreInFigure is_rich n (shown_of scripting is_rich (Some []) g) (cut_blocks d))
      → AreInFigure is_rich n (shown_of scripting is_rich before f)
      (block (element an.FigureCaption [] (cut_blocks all)) (cut_blocks d))
  caption-one fresh e title settled keep led formats normal filled light o within_it later =
      let seen : Blocks = cut_blocks all in
      let rest : Blocks = cut_blocks d in
      let own = from-block f (codes "figcaption") [] (inside_trees (text_in_line all) (trees_in all)) (trees_in d)
      (subst (Stands (value_forest f))
      (element-trees an.FigureCaption [] (text_in_line all) (spelled_in all) (spelled_in d)) e) refl in
      let order = block-order k f own.id (codes "figcaption") [] own.inside own.line own.rest own.is o in
      let content : Simples = shown_at scripting is_rich true None own.inside in
      let within = title-inside scripting is_rich n all own.inside own.within title settled keep formats normal light
      order.0 within_it in
      subst (λ (us : Simples). AreInFigure is_rich n us (block (element an.FigureCaption [] seen) rest))
      (sym (ap (shown_of scripting is_rich before) own.is
      ∙ (caption-shown scripting is_rich before own.id own.inside (behind own.line own.rest) fresh
      ∙ ap (more (made own.id role.FigureCaption [] content))
      (line-shown scripting is_rich (Some []) own.line own.rest))))
      (figure-caption is_rich n own.id content (shown_of scripting is_rich (Some []) own.rest) seen rest filled within
      led (within.inside.shows ∙ (black-filled seen keep ∙ filled))
      (later own.rest own.others (suc own.line) order.1))

-- anchors alone, before a code block
pub alone-in-figure : (scripting is_rich : Bool) (b : Block) (d : Blocks) (before : Option (List AttributePair))
    (f : NumberedForest) (n : ℕ) → IsFresh before
    → Stands (value_forest f) (trees_in (block b d)) → is_alone (cut_block b) ≡ true
    → stays false (cut_block b) (cut_blocks d) ≡ true → is_normal_block false (cut_block b) ≡ true
    → (k : ℕ) → is_ordered k f ≡ true
    → ((g : NumberedForest) → Stands (value_forest g) (trees_in d) → (k : ℕ) → is_ordered k g ≡ true
    → AreInFigure is_rich n (shown_of scripting is_rich (Some []) g) (cut_blocks d))
    → AreInFigure is_rich n (shown_of scripting is_rich before f) (block (cut_block b) (cut_blocks d))
alone-in-figure scripting is_rich (paragraph xs) d before f n fresh e anchors keep normal k o later =
    let keeps = and_parts (line_keeps xs) (not (are_anchors xs) || stand_alone false (cut_blocks d)) keep in
    let own = alone-found scripting is_rich xs d false before f fresh e anchors keeps.0 normal k o in
    record {
      given = alone-titled scripting is_rich true (paragraph xs) d before f n fresh e anchors keep normal k o
          (λ g h j p. (later g h j p).given);
      captioned = ap shows_caption (own.shows ∙ ap (more (made own.id role.Paragraph [] own.content))
          (line-shown scripting is_rich (Some []) own.line own.rest))
          ∙ (later own.rest own.others (suc own.line) own.ordered).captioned;
    }
alone-in-figure scripting is_rich b d before f n fresh e anchors keep normal k o later = false-true anchors
