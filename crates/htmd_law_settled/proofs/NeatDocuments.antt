-- The document of a page has neat leaves.
use Rattle.std.proofs.Common.{◌≡◌, Bool, true, false, refl, ◌∙◌}
use Rattle.std.specs.Prelude.{nat_le}
use Rattle.std.proofs.lemmas.Bool.{and_parts}
use Rattle.htmd_document.specs.Documents.{Blocks}
use Rattle.htmd_document.specs.DocumentLimits.{most_nested}
use Rattle.htmd_document.specs.NormalDocuments.{are_normal_blocks, depth_among}
use Rattle.htmd_document_of_tree.specs.TreeDocuments.{document_of_tree}
use Rattle.htmd_law_documents.proofs.NormalMain.{documents_are_normal, lone_anchors_stand}
use Rattle.htmd_law_settled.specs.NeatLeaves.{LeavesAreNeat}
use Rattle.htmd_law_settled.proofs.EncodedLeaves.{leaves-encoded}
use Rattle.htmd_law_settled.proofs.HeadedPages.{headers-show}
use Rattle.htmd_law_settled.proofs.LeafHolds.{blocks-hold}
use Rattle.htmd_law_settled.proofs.NeatPages.{leaves, neat-document}
use Rattle.htmd_law_settled.proofs.OrderedDocuments.{Tells, blocks-neat}
use Rattle.htmd_law_settled.proofs.PlainFormats.{no-element}
use Rattle.htmd_law_settled.proofs.WholeHolds.{neat-holds}

pub leaves-neat : LeavesAreNeat
leaves-neat which sight tree e =
    let d : Blocks = document_of_tree which sight tree in
    let normal = and_parts (are_normal_blocks false d) (nat_le (depth_among d) most_nested)
    (documents_are_normal which sight tree e) in
    leaves-encoded d
    ∙ blocks-neat sight.is_rich false true d normal.0
    (blocks-hold leaves neat-holds (λ is_tight items h. h) 0 d (neat-document which sight tree e))
    (lone_anchors_stand which sight tree e) (tells sight.is_rich refl)
  where
    tells : (b : Bool) → sight.is_rich ≡ b → Tells b (document_of_tree which sight tree)
    tells true r = headers-show which sight tree r e
    tells false r = no-element which sight tree r e
