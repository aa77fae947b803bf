-- Where no anchors stand, all stay.
use Rattle.std.proofs.Common.{◌≡◌, ℕ, true, false, ◌&&◌, List, [], ◌∷◌, ◌++◌, refl, sym, ap, ◌∙◌}
use Rattle.std.specs.Prelude.{nat_le}
use Rattle.std.proofs.lemmas.Bool.{and_parts, and_from}
use Rattle.htmd_document.specs.DocumentLimits.{most_nested}
use Rattle.htmd_lexical.specs.CharacterClasses.{are_distinct}
use Rattle.htmd_document.specs.AnchorIds.{ids_of_line, has_unique_ids}
use Rattle.htmd_document.specs.Documents.{Blocks}
use Rattle.htmd_document.specs.LoneAnchors.{all_stand}
use Rattle.htmd_document.specs.NormalDocuments.{IsNormal, are_normal_blocks, depth_among}
use Rattle.htmd_document_of_tree.specs.declared.anchors.Anchors.{Anchors}
use Rattle.htmd_document_of_tree.specs.declared.anchors.Anchors.TheVariants as which
use Rattle.htmd_law_returning.specs.LastingAnchors.{Line, lines_in, lines_stand, are_led_to}
use Rattle.htmd_law_returning.proofs.KeptBlocks.{both}
use Rattle.htmd_law_returning.specs.LastingAnchors.{anchors_stand, anchors_stay}
use Rattle.htmd_law_returning.specs.NoAnchors.{blocks_have_no_anchors}
use Rattle.htmd_law_returning.specs.SettledDocuments.{are_settled_blocks}
use Rattle.htmd_law_returning.proofs.ElementForms.{settled-alone}
use Rattle.htmd_law_returning.proofs.LineIds.{ids_in_lines, blocks-ids}
use Rattle.htmd_law_returning.proofs.HomeAnchors.{none-in-blocks}
use Rattle.htmd_law_returning.proofs.StayLemmas.{none-keep}

both-none : (xs ys : List (List ℕ)) → xs ++ ys ≡ [] → (xs ≡ []) × (ys ≡ [])
both-none [] ys h = (refl, h)
both-none (x ∷ xs) ys h = absurd (clash h)
  where
    clash : x ∷ (xs ++ ys) ≡ [] → ⊥
    clash p = (cc)

led-none : (before ls : List Line) → ids_in_lines ls ≡ []
    → are_led_to before ls ≡ true
led-none before [] h = refl
led-none before (l ∷ ls) h =
    let parts = both-none (ids_of_line l.content) (ids_in_lines ls) h in
    rw parts.0 (led-none (l ∷ before) ls parts.1)

unplaced-stand : (d : Blocks) → blocks_have_no_anchors d ≡ true → IsNormal d → are_settled_blocks d ≡ true
    → anchors_stand d ≡ true
unplaced-stand d h normal settled =
    let stand = both d true
    (none-keep d false true h (and_parts (are_normal_blocks false d) (nat_le (depth_among d) most_nested) normal).0
    (settled-alone d settled)) in
    and_from (lines_stand d && all_stand true d) (has_unique_ids d)
    (and_from (lines_stand d) (all_stand true d) stand.0 stand.1)
    (ap are_distinct (sym (blocks-ids d) ∙ none-in-blocks d h))

pub unplaced-stay : (w : Anchors) (d : Blocks) → blocks_have_no_anchors d ≡ true → IsNormal d
    → are_settled_blocks d ≡ true → anchors_stay w d ≡ true
unplaced-stay which.None d h normal settled = h
unplaced-stay which.All d h normal settled = unplaced-stand d h normal settled
unplaced-stay which.Linked d h normal settled =
    and_from (anchors_stand d) (are_led_to [] (lines_in d)) (unplaced-stand d h normal settled)
    (led-none [] (lines_in d) (none-in-blocks d h))
