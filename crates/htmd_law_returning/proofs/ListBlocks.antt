-- Lists come back by their items.
use Rattle.std.proofs.Common.{◌≡◌, ℕ, suc, ◌+◌, ◌≤◌, Bool, true, ◌&&◌, List, [], ◌∷◌, refl, ap, ◌∙◌, arith, codes}
use Rattle.std.proofs.Common.{Option, Some, None}
use Rattle.std.proofs.lemmas.Bool.{and_parts}
use Rattle.std.proofs.lemmas.Bool.Decides.{nat_tests}
use Rattle.htmd_lexical.specs.Characters.{line_feed}
use Rattle.htmd_lexical.specs.AttributePairs.{AttributePair}
use Rattle.htmd_nodes.specs.NumberedTrees.{NumberedForest, value_forest}
use Rattle.htmd_nodes.specs.NumberedTrees as page
use Rattle.htmd_document.specs.DocumentLimits.{most_nested}
use Rattle.htmd_document.specs.Documents as documents
use Rattle.htmd_document.specs.NormalDocuments.{depth_of, item_count, is_normal_list, are_normal_items}
use Rattle.htmd_document.specs.NormalDocuments.{has_filled_item, are_short_numbers, has_right_distance, are_tight}
use Rattle.htmd_shown.specs.declared.role.Role.TheVariants as role
use Rattle.htmd_shown.specs.Facts.{made}
use Rattle.htmd_shown.specs.SimpleTrees.{Simples, text, more}
use Rattle.htmd_law_rendering.specs.RenderedTrees.{pairs_of_start}
use Rattle.htmd_law_returning.specs.SettledDocuments.{is_settled_block, are_settled_items, has_fitting_numbers}
use Rattle.htmd_law_returning.specs.SettledDocuments.{block_numbers_fit, item_numbers_fit, is_right_list}
use Rattle.htmd_law_returning.proofs.StandLemmas.{Stands}
use Rattle.htmd_law_returning.proofs.BlockTrees.{trees_in, trees_of_items, cut_items}
use Rattle.htmd_law_returning.proofs.PageLemmas.{line_before, from-block, block-order, from-text, IsFresh, shown_of}
use Rattle.htmd_law_returning.proofs.PageLemmas.{line-shown, bullets-shown, numbers-shown}
use Rattle.htmd_law_returning.proofs.ListLemmas.{tight-items, list-made, right-distance, start-kept, start-fresh}
use Rattle.htmd_law_returning.proofs.ListLemmas.{start-plain, start-nameless}
use Rattle.htmd_law_returning.proofs.OrderLemmas.{is_ordered, ordered-next}
use Rattle.htmd_document.specs.FlatDocuments.{flat_items}
use Rattle.htmd_law_returning.proofs.ListFlowLemmas.{AreItems, bullets-gives, numbers-gives}
use Rattle.htmd_law_returning.proofs.ReturnedBlocks.{behind, first-one, IsFirst}
use Rattle.htmd_law_returning.proofs.BlockSteps.{low-of}

module _ (scripting is_rich : Bool) where
  pub list-first : (start : Option ℕ) (is_tight : Bool) (items : documents.Items) (d : documents.Blocks)
      (before : Option (List AttributePair)) (f : NumberedForest) (n : ℕ) → IsFresh before
      → Stands (value_forest f) (trees_in (documents.block (documents.list start is_tight items) d))
      → is_settled_block (documents.list start is_tight (cut_items items)) ≡ true
      → depth_of (documents.list start is_tight (cut_items items)) + n ≤ most_nested
      → block_numbers_fit n (documents.list start is_tight (cut_items items)) ≡ true
      → (is_normal_list start is_tight (flat_items (cut_items items)) && are_normal_items (cut_items items)) ≡ true
      → (k : ℕ) → is_ordered k f ≡ true
      → ((g : NumberedForest) → Stands (value_forest g) (trees_of_items is_tight items)
      → (is_tight ≡ true → are_tight (flat_items (cut_items items)) ≡ true)
      → are_normal_items (cut_items items) ≡ true
      → item_numbers_fit (suc n) (cut_items items) ≡ true → (j : ℕ) → is_ordered j g ≡ true
      → AreItems is_rich (suc n) is_tight (cut_items items) (shown_of scripting is_rich None g))
      → IsFirst scripting is_rich before f n (documents.list start is_tight (cut_items items)) d
  list-first None is_tight items d before f n fresh e settled fits numbers normal k o later =
      let seen : documents.Items = cut_items items in
      let good = and_parts (is_right_list is_tight seen) (are_settled_items seen) settled in
      let low = and_parts (has_fitting_numbers n (None) (item_count seen)) (item_numbers_fit (suc n) seen)
      numbers in
      let form = and_parts (is_normal_list (None) is_tight (flat_items seen)) (are_normal_items seen) normal in
      let list_form = and_parts
      (has_filled_item (flat_items seen) && are_short_numbers (None) (item_count (flat_items seen)))
      (has_right_distance is_tight (flat_items seen)) form.0 in
      let filled = and_parts (has_filled_item (flat_items seen))
      (are_short_numbers (None) (item_count (flat_items seen))) list_form.0 in
      let own = from-block f (codes "ul") [] (line_before (trees_of_items is_tight items)) (trees_in d) e refl in
      let order = block-order k f own.id (codes "ul") [] own.inside own.line own.rest own.is o in
      let inner = from-text own.inside (line_feed ∷ []) (trees_of_items is_tight items) own.within in
      let within : AreItems is_rich (suc n) is_tight seen (shown_of scripting is_rich None inner.rest) =
      later inner.rest inner.others (tight-items is_tight seen list_form.1) form.1 low.1
      (suc inner.id) (ordered-next 0 own.inside (page.text inner.id
      (line_feed ∷ [])) inner.rest inner.is order.0).rest in
      let ts : Simples = shown_of scripting is_rich None inner.rest in
      let content : shown_of scripting is_rich None own.inside ≡ more (text (line_feed ∷ [])) ts =
      ap (shown_of scripting is_rich None) inner.is ∙ line-shown scripting is_rich None inner.id inner.rest in
      let made_list = list-made n (None) is_tight seen low.0 filled.0 filled.1
      (right-distance is_tight seen good.0 list_form.1) in
      let after : Simples = shown_of scripting is_rich (Some []) (behind own.line own.rest) in
      first-one scripting is_rich before f own.rest n own.line
      (made own.id role.BulletList [] (more (text (line_feed ∷ [])) ts)) []
      (documents.list None is_tight seen) d
      (ap (shown_of scripting is_rich before) own.is
      ∙ (bullets-shown scripting is_rich before own.id own.inside (behind own.line own.rest) fresh
      ∙ ap (λ us. more (made own.id role.BulletList [] us) after) content))
      (bullets-gives is_rich n own.id ts is_tight seen (grind (arith, nat_tests, fits)) within filled.0
      made_list)
      own.others (suc own.line) order.1
  list-first (Some s) is_tight items d before f n fresh e settled fits numbers normal k o later =
      let seen : documents.Items = cut_items items in
      let good = and_parts (is_right_list is_tight seen) (are_settled_items seen) settled in
      let low = and_parts (has_fitting_numbers n (Some s) (item_count seen)) (item_numbers_fit (suc n) seen)
      numbers in
      let form = and_parts (is_normal_list (Some s) is_tight (flat_items seen)) (are_normal_items seen) normal in
      let list_form = and_parts
      (has_filled_item (flat_items seen) && are_short_numbers (Some s) (item_count (flat_items seen)))
      (has_right_distance is_tight (flat_items seen)) form.0 in
      let filled = and_parts (has_filled_item (flat_items seen))
      (are_short_numbers (Some s) (item_count (flat_items seen))) list_form.0 in
      let own = from-block f (codes "ol") (pairs_of_start (Some s)) (line_before (trees_of_items is_tight items))
      (trees_in d) e refl in
      let order = block-order k f own.id (codes "ol") (pairs_of_start
      (Some s)) own.inside own.line own.rest own.is o in
      let inner = from-text own.inside (line_feed ∷ []) (trees_of_items is_tight items) own.within in
      let within : AreItems is_rich (suc n) is_tight seen (shown_of scripting is_rich None inner.rest) =
      later inner.rest inner.others (tight-items is_tight seen list_form.1) form.1 low.1
      (suc inner.id) (ordered-next 0 own.inside (page.text inner.id
      (line_feed ∷ [])) inner.rest inner.is order.0).rest in
      let ts : Simples = shown_of scripting is_rich None inner.rest in
      let content : shown_of scripting is_rich None own.inside ≡ more (text (line_feed ∷ [])) ts =
      ap (shown_of scripting is_rich None) inner.is ∙ line-shown scripting is_rich None inner.id inner.rest in
      let made_list = list-made n (Some s) is_tight seen low.0 filled.0 filled.1
      (right-distance is_tight seen good.0 list_form.1) in
      let after : Simples = shown_of scripting is_rich (Some (pairs_of_start (Some s))) (behind own.line own.rest) in
      first-one scripting is_rich before f own.rest n own.line
      (made own.id role.NumberedList (pairs_of_start (Some s)) (more (text (line_feed ∷ [])) ts))
      (pairs_of_start (Some s))
      (documents.list (Some s) is_tight seen) d
      (ap (shown_of scripting is_rich before) own.is
      ∙ (numbers-shown scripting is_rich before own.id (pairs_of_start (Some s)) own.inside
      (behind own.line own.rest)
      (start-fresh before (Some s)) (start-plain (Some s))
      ∙ ap (λ us. more (made own.id role.NumberedList (pairs_of_start (Some s)) us) after) content))
      (numbers-gives is_rich n own.id s (pairs_of_start (Some s)) ts is_tight seen
      (grind (arith, nat_tests, fits)) within filled.0 (start-nameless (Some s))
      (start-kept s (low-of s (item_count (flat_items seen)) filled.1))
      made_list)
      own.others (suc own.line) order.1
