-- How big the document of a page is, and how long its Markdown.
use Rattle.std.proofs.Common.{◌+◌, ◌*◌, ◌≤◌, mul-le-mul, arith}
use Rattle.htmd_document_of_tree.specs.Anchors.{anchored}
use Rattle.htmd_document_of_tree.specs.FirstPieces.{pieced_all}
use Rattle.htmd_document_of_tree.specs.Limits.{limited}
use Rattle.htmd_document_of_tree.specs.TreeDocuments.{document_by, document_of_tree}
use Rattle.htmd_flow.specs.Flows.{document_of}
use Rattle.htmd_shown.specs.Shown.{shown_in}
use Rattle.htmd_law_sizes.specs.DocumentSizes.{margin_of}
use Rattle.htmd_law_sizes.specs.SizeLaws.{DocumentIsBounded, PagesAreBounded}
use Rattle.htmd_law_sizes.proofs.BoundsLemmas.{markdown_is_bounded}
use Rattle.htmd_law_sizes.proofs.DebtFlows.{debt_le}
use Rattle.htmd_law_sizes.proofs.DebtLimits.{all_parts, links_le}
use Rattle.htmd_law_sizes.proofs.DebtShown.{page_counted}
use Rattle.htmd_law_sizes.proofs.Debts.{repeated_le}
use Rattle.htmd_law_sizes.proofs.FlowCosts.{flow_is_bounded}
use Rattle.htmd_law_sizes.proofs.FlowMargins.{margin_is_bounded}
use Rattle.htmd_law_sizes.proofs.PreparedSizes.{prepared_is_bounded}
use Rattle.htmd_law_sizes.proofs.ShownSizes.{shown_is_bounded}
use Rattle.htmd_law_sizes.proofs.SizeParts.{size_parts}

pub document_is_bounded : DocumentIsBounded
unfolding document_of_tree document_by
document_is_bounded which sight tree =
    let trees = shown_in sight tree in
    let ready = pieced_all (anchored which sight.is_rich (limited trees)) in
    omega (
      arith,
      size_parts (document_of sight.is_rich ready),
      repeated_le (document_of sight.is_rich ready),
      debt_le sight.is_rich ready,
      all_parts ready,
      links_le which sight.is_rich trees (page_counted sight tree),
      flow_is_bounded sight.is_rich ready,
      prepared_is_bounded which sight.is_rich trees,
      shown_is_bounded sight tree,
    )

pub pages_are_bounded : PagesAreBounded
unfolding document_of_tree document_by
pages_are_bounded which sight tree options =
    let d = document_of_tree which sight tree in
    let ready = pieced_all (anchored which sight.is_rich (limited (shown_in sight tree))) in
    let m = margin_is_bounded sight.is_rich ready in
    let g : 256 + 4 * margin_of d ≤ 9088 = omega (arith, m) in
    omega (arith, markdown_is_bounded options d, mul-le-mul g (document_is_bounded which sight tree))
