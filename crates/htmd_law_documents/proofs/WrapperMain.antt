-- The law of wrappers: formats and links around characters.
use Rattle.std.proofs.Common.{ℕ, List, true, false, refl, sym, ap, ◌∙◌}
use Rattle.htmd_nodes.specs.NumberedTrees.{NumberedTree, tree_of}
use Rattle.htmd_shown.specs.Shown.{shown_in}
use Rattle.htmd_shown.specs.SimpleTrees.{Simple, text, image, formula, embedded, anchor, element, Simples, none, more}
use Rattle.htmd_document_of_tree.specs.Anchors.{anchored}
use Rattle.htmd_document_of_tree.specs.FirstPieces.{pieced_all}
use Rattle.htmd_document_of_tree.specs.Limits.{limited}
use Rattle.htmd_document_of_tree.specs.TreeDocuments.{document_by, document_of_tree}
use Rattle.htmd_flow.specs.Contexts.{bare_in}
use Rattle.htmd_flow.specs.Flows.{document_of}
use Rattle.htmd_law_documents.specs.DocumentWrappers.{Wrapper, of_link}
use Rattle.htmd_law_documents.specs.SimpleForms.{AreSound, HasLinks, HaveLinks}
use Rattle.htmd_law_documents.specs.WrapperLaws.{WrappersOfDocument, WrappersOfTree}
use Rattle.htmd_law_documents.proofs.StoredTextsLemmas.{tree-text}
use Rattle.htmd_law_documents.proofs.ShownTreeLemmas.{page-sound}
use Rattle.htmd_law_documents.proofs.SoundLemmas.{limited-sound, anchored-sound, pieced-sound}
use Rattle.htmd_law_documents.proofs.LinkedPageLemmas.{page-links}
use Rattle.htmd_law_documents.proofs.LinkedTreeLemmas.{limited-links, anchored-links, all-pieced-links}
use Rattle.htmd_law_documents.proofs.WrapperStoredLemmas.{link_at, tree-linked}
use Rattle.htmd_law_documents.proofs.Readers.{all-sound-fit}
use Rattle.htmd_law_documents.proofs.WrapperReader.{wrapped, blocks-wrappers, trees-wrappers}
use Rattle.htmd_law_documents.proofs.WrapperTreeLemmas.{HaveAddress, HaveAddresses, document-keeps}

module _ (places : ℕ → List ℕ) where
  abbrev wrapper_at : ℕ → Wrapper
  wrapper_at id = of_link (places id)

  mutual
    has-address : (t : Simple) → HasLinks places t → HaveAddress wrapped wrapper_at t
    has-address (text s) h = tt
    has-address (image address attributes) h = tt
    has-address (formula tex is_alone attributes) h = tt
    has-address (embedded id address title attributes anchors) h = ap of_link h
    has-address (anchor id) h = tt
    has-address (element id r facts attributes content) h =
        (λ e. ap of_link (h.0 e), have-addresses content h.1)

    have-addresses : (ts : Simples) → HaveLinks places ts → HaveAddresses wrapped wrapper_at ts
    have-addresses none h = tt
    have-addresses (more t ts) h = (has-address t h.0, have-addresses ts h.1)

pub wrappers_of_document : WrappersOfDocument
wrappers_of_document is_rich trees places u h =
    sym (blocks-wrappers (document_of is_rich trees))
    ∙ (document-keeps wrapped (wrapper_at places) is_rich trees
    (all-sound-fit wrapped (λ id. refl) true trees u)
    (have-addresses places trees h)
    ∙ trees-wrappers trees (bare_in is_rich) false)

pub wrappers_of_tree : WrappersOfTree
unfolding document_of_tree document_by
wrappers_of_tree which sight items h =
    let tree : NumberedTree = tree_of items 0 in
    let shown : Simples = shown_in sight tree in
    let ts : Simples = limited shown in
    let us : Simples = anchored which sight.is_rich ts in
    let sound : AreSound (pieced_all us) =
    pieced-sound us (anchored-sound which sight.is_rich ts
    (limited-sound shown (page-sound sight tree (tree-text items 0 h)))) in
    let at : ℕ → List ℕ = link_at items in
    let links : HaveLinks at (pieced_all us) =
    all-pieced-links at us (anchored-links at which sight.is_rich ts (limited-links at shown (page-links at sight tree
    (tree-linked items 0)))) in
    wrappers_of_document sight.is_rich (pieced_all us) at sound links
