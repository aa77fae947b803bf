-- What a reader of CommonMark sees of what a page becomes.
use Rattle.std.proofs.Common.{◌≡◌, ◌<◌, ◌^◌, ◌∙◌, ℕ, List, length, sym, subst, Some, true, false}
use Rattle.htmd_commonmark.specs.DocumentMarkdown.{markdown_of}
use Rattle.htmd_nodes.specs.Items.{Item}
use Rattle.htmd.specs.PageDocuments.{document_options}
use Rattle.htmd_nodes.specs.Items.{HoldTexts}
use Rattle.htmd_nodes.specs.NumberedTrees.{tree_of}
use Rattle.htmd_document.specs.Documents.{Blocks}
use Rattle.htmd_chunks.specs.Pieces.{chunks_of}
use Rattle.htmd_chunks.proofs.Main.{pieces_join}
use Rattle.htmd_law_documents.proofs.NormalMain.{documents_are_normal}
use Rattle.htmd_law_documents.proofs.StoredTextsLemmas.{tree-text}
use Rattle.htmd_law_documents.proofs.Main.{text_of_tree}
use Rattle.htmd_law_documents.proofs.WrapperMain.{wrappers_of_tree}
use Rattle.htmd_law_reading.specs.ReadingLaws.{IsSeenIn, Shows}
use Rattle.htmd_law_reading.proofs.PageLaws.{answers_are_seen}
use Rattle.htmd_law_reading.proofs.PieceLaws.{page_pieces_read_back}
use Rattle.htmd.specs.PageChanges.{head_of, part_of}
use Rattle.htmd.specs.PageOutputs.{IsTreeBy, document_in, pieces_output, text_in}
use Rattle.htmd.specs.PageSights.{sight_in, AreSeenPieces, IsSeenBy, IsSeen}
use Rattle.htmd.specs.PageSettings.{Settings, writes_html}
use Rattle.htmd.proofs.PageOutputsLemmas.{match_false, match_true}

-- the Markdown of the document of a tree
pub seen_in : (settings : Settings) (tree : List Item) (markdown : List ℕ) → HoldTexts tree
    → markdown ≡ markdown_of (document_options settings.options) (document_in settings tree)
    → length markdown < 2 ^ 64
    → IsSeenIn settings.anchors (sight_in settings) tree markdown
seen_in settings tree markdown texts is fits =
    subst (IsSeenIn settings.anchors (sight_in settings) tree) (sym is)
    (answers_are_seen settings.anchors (sight_in settings) tree (document_options settings.options) texts
    (subst (λ (s : List ℕ). length s < 2 ^ 64) is fits))

-- the pieces of the document of a tree
pub pieces_seen : (settings : Settings) (most : ℕ) (head : List ℕ) (items : List Item) (output : List ℕ)
    → HoldTexts items → output ≡ pieces_output settings most head items
    → AreSeenPieces settings head items output
unfolding pieces_output
pieces_seen settings most head items output texts e =
    let options = document_options settings.options in
    let which = settings.anchors in
    let sight = sight_in settings in
    let tree = tree_of items 0 in
    let text = tree-text items 0 texts in
    let d = document_in settings items in
    let same = pieces_join options most d (documents_are_normal which sight tree text) in (
      chunks_of options most d,
      e,
      same,
      subst (λ (x : Blocks). Shows which sight tree (Some x)) (sym same)
          (text_of_tree which sight tree text, wrappers_of_tree which sight items texts),
      page_pieces_read_back which sight tree options most text,
    )

-- what is written of the part of the tree that the bytes' text has, after what its head says
pub seen_of : (settings : Settings) (bytes text found : List ℕ) (page part : List Item) (head output : List ℕ)
    → text ≡ text_in settings bytes → writes_html settings ≡ false → found ≡ text
    → IsTreeBy settings found page
    → part_of settings page ≡ Some part
    → head ≡ head_of settings page → IsSeenBy settings.chunks settings head part output
    → IsSeen settings bytes output
seen_of settings bytes text found page part head output t w f by p h s = match_false _ _ (writes_html settings) w (
  page,
  subst (λ (x : List ℕ). IsTreeBy settings x page) (f ∙ t) by,
  part,
  p,
  subst (λ (x : List ℕ). IsSeenBy settings.chunks settings x part output) h s,
)

-- or its HTML is written
pub html_written : (settings : Settings) (bytes output : List ℕ) → writes_html settings ≡ true
    → IsSeen settings bytes output
html_written settings bytes output w = match_true _ _ (writes_html settings) w tt
