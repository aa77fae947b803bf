-- The law of links: each link of a document to a part of its page is one of those that count.
use Rattle.std.proofs.Common.{◌≡◌, ℕ, Bool, true, false, List, [], ◌∷◌, None}
use Rattle.std.specs.Str.{bytes_eq}
use Rattle.htmd_shown.specs.Shown.{shown_in}
use Rattle.htmd_shown.specs.SimpleTrees.{Simples}
use Rattle.htmd_document_of_tree.specs.declared.leadings.Layout.TheVariants as layout
use Rattle.htmd_document_of_tree.specs.Anchors.{Placing, anchored, targets_by}
use Rattle.htmd_document_of_tree.specs.FirstPieces.{pieced_all}
use Rattle.htmd_document_of_tree.specs.Leadings.{Leading, all_leadings, is_linked_to}
use Rattle.htmd_document_of_tree.specs.Limits.{limited}
use Rattle.htmd_document_of_tree.specs.TreeDocuments.{document_by, document_of_tree}
use Rattle.htmd_law_documents.specs.SimpleForms.{AreSound}
use Rattle.htmd_law_documents.proofs.NormalPlacedLemmas.{limited-clear}
use Rattle.htmd_law_documents.proofs.NormalShownLemmas.{AreClear, page-clear}
use Rattle.htmd_law_documents.proofs.ShownTreeLemmas.{page-sound}
use Rattle.htmd_law_documents.proofs.SoundLemmas.{limited-sound, anchored-sound}
use Rattle.htmd_law_anchors.specs.AnchorLaws.{AreAmong, LeadsAmong, LinksCount}
use Rattle.htmd_law_anchors.proofs.LinkKeptLemmas.{anchored-within, all-within-pieced}
use Rattle.htmd_law_anchors.proofs.LinkLeadLemmas.{leadings-within}
use Rattle.htmd_law_anchors.proofs.LinkTreeLemmas.{AllWithin, document-links}
use Rattle.htmd_law_anchors.proofs.ProperTreeLemmas.{limited-proper, all-calm}
use Rattle.htmd_law_anchors.proofs.ShapeLeafLemmas.{all-grids-placed, all-grids-pieced}
use Rattle.htmd_law_anchors.proofs.ShownProperLemmas.{page-proper}
use Rattle.htmd_law_anchors.proofs.TruthLemmas.{or-left, or-right, same-bytes}

among : (all ls : List Leading) → ((s : List ℕ) → is_linked_to ls s ≡ true → is_linked_to all s ≡ true)
    → AreAmong all ls
among all [] f = tt
among all (l ∷ ls) f = (
  f l.to (or-left (bytes_eq l.to l.to) (is_linked_to ls l.to) (same-bytes l.to)),
  among all ls (λ s e. f s (or-right (bytes_eq l.to s) (is_linked_to ls s) e)),
)

pub links_count : LinksCount
unfolding document_of_tree document_by
links_count which sight tree e =
    let shown : Simples = shown_in sight tree in
    let ts : Simples = limited shown in
    let rich : Bool = sight.is_rich in
    let all : List Leading = all_leadings rich ts in
    let sound : AreSound ts = limited-sound shown (page-sound sight tree e) in
    let clear : AreClear ts = limited-clear shown (page-clear sight tree e) in
    let p : Placing = record { seen = 0; targets = targets_by which rich ts } in
    let us : Simples = anchored which rich ts in
    let within : AllWithin (LeadsAmong all) rich None layout.Blocks ts =
    leadings-within all rich ts (all-calm rich ts false sound (limited-proper shown (page-proper sight tree e)))
    (among all all (λ s f. f)) in
    let placed : AllWithin (LeadsAmong all) rich None layout.Blocks us =
    anchored-within (LeadsAmong all) rich which ts (all-grids-placed p ts sound clear) within in
    document-links (LeadsAmong all) rich (pieced_all us)
    (all-within-pieced (LeadsAmong all) rich us None layout.Blocks
    (all-grids-pieced us (anchored-sound which rich ts sound))
    placed)
