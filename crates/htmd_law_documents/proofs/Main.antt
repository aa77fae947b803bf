-- The laws of texts.
use Rattle.std.proofs.Common.{ℕ, Bool, true, false, refl, sym, ◌∙◌, subst, List}
use Rattle.htmd_shown.specs.Shown.{shown_in}
use Rattle.htmd_document_of_tree.specs.Anchors.{anchored}
use Rattle.htmd_document_of_tree.specs.FirstPieces.{pieced_all}
use Rattle.htmd_document_of_tree.specs.Limits.{limited}
use Rattle.htmd_document_of_tree.specs.TreeDocuments.{document_by, document_of_tree}
use Rattle.htmd_shown.specs.SimpleTrees.{Simple, text, image, formula, embedded, anchor, element, Simples, none, more}
use Rattle.htmd_flow.specs.Contexts.{bare_in}
use Rattle.htmd_flow.specs.Flows.{document_of}
use Rattle.htmd_law_documents.specs.DocumentTexts.{text_of_blocks, visible}
use Rattle.htmd_law_documents.specs.SaidTexts.{SayAll}
use Rattle.htmd_law_documents.specs.SimpleForms.{AreSound}
use Rattle.htmd_law_documents.specs.SimpleTexts.{text_of_simples}
use Rattle.htmd_law_documents.specs.TextLaws.{KeepsText, SaysText, TextOfDocument, TextOfTree}
use Rattle.htmd_law_documents.proofs.ElementLemmas.{simples-utf8}
use Rattle.htmd_law_documents.proofs.SaidLemmas.{limited-say, anchored-say, pieced-say}
use Rattle.htmd_law_documents.proofs.Readers.{read_trees, all-sound-fit}
use Rattle.htmd_law_documents.proofs.ShownTreeLemmas.{page-sound}
use Rattle.htmd_law_documents.proofs.SoundLemmas.{limited-sound, anchored-sound, pieced-sound}
use Rattle.htmd_law_documents.proofs.TextReader.{texts, taken-good, blocks-say, trees-taken, Said, trees-said}
use Rattle.htmd_law_documents.proofs.WrapperTreeLemmas.{HaveAddress, HaveAddresses, document-keeps}

-- nothing is taken from addresses
abbrev no-link : ℕ → Unit {0}
no-link id = tt

mutual
  no-address : (t : Simple) → HaveAddress texts no-link t
  no-address (text s) = tt
  no-address (image address attributes) = tt
  no-address (formula tex is_alone attributes) = tt
  no-address (embedded id address title attributes anchors) = refl
  no-address (anchor id) = tt
  no-address (element id r facts attributes content) = (λ e. refl, no-addresses content)

  no-addresses : (ts : Simples) → HaveAddresses texts no-link ts
  no-addresses none = tt
  no-addresses (more t ts) = (no-address t, no-addresses ts)

-- of documents that aren't rich
plain-text : (trees : Simples) → AreSound trees → KeepsText trees
plain-text trees u =
    (blocks-say (document_of false trees) (visible (text_of_simples false false trees))
    (document-keeps texts no-link false trees (all-sound-fit texts (λ id. refl) true trees u)
    (no-addresses trees)
    ∙ (trees-taken trees u (bare_in false) false refl
    ∙ taken-good (text_of_simples false false trees) (simples-utf8 trees u false false)))).is

-- of all
said-text : (is_rich : Bool) (trees : Simples) → AreSound trees → SaysText is_rich trees
said-text is_rich trees u =
    let x : Said false false trees (read_trees texts trees (bare_in is_rich) false) =
    trees-said trees u (bare_in is_rich) false in
    subst (SayAll false false trees)
    (sym (blocks-say (document_of is_rich trees) x.0
    (document-keeps texts no-link is_rich trees (all-sound-fit texts (λ id. refl) true trees u)
    (no-addresses trees)
    ∙ x.1)).is)
    x.2

pub text_of_document : TextOfDocument
text_of_document trees u = (plain-text trees u, λ is_rich. said-text is_rich trees u)

pub text_of_tree : TextOfTree
unfolding document_of_tree document_by
text_of_tree which sight tree e =
    let shown : Simples = shown_in sight tree in
    let ts : Simples = limited shown in
    let us : Simples = anchored which sight.is_rich ts in
    let all : Simples = pieced_all us in
    let sound : AreSound all =
    pieced-sound us (anchored-sound which sight.is_rich ts (limited-sound shown (page-sound sight tree e))) in
    let cs : List ℕ = visible (text_of_blocks (document_of sight.is_rich all)) in
    limited-say shown false false cs
    (anchored-say which sight.is_rich ts false false cs
    (pieced-say us false false cs (said-text sight.is_rich all sound)))
