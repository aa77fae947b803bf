-- What holds for the document of a page holds for what is made of the page.
use Rattle.std.proofs.Common.{◌≡◌, ℕ, List, Result, Ok, Err, IfOk, sym, subst}
use Rattle.std.specs.Prelude.{IsUtf8}
use Rattle.htmd_nodes.specs.Items.{Item, HoldTexts}
use Rattle.htmd_nodes.specs.NumberedTrees.{tree_of}
use Rattle.htmd_html5.specs.Html5Documents.{html5_document}
use Rattle.htmd_document.specs.declared.document.Document.{Document}
use Rattle.htmd_document.specs.Documents.{Blocks}
use Rattle.htmd_document.specs.DocumentViews.{document_of}
use Rattle.htmd_shown.specs.Shown.{Sight}
use Rattle.htmd_document_of_tree.specs.declared.anchors.Anchors.{Anchors}
use Rattle.htmd_document_of_tree.specs.TreeDocuments.{document_of_tree}
use Rattle.htmd_law_pages.specs.PageTexts.{page_document, IsRead}

same_document : {E : Type 0} (P : Blocks → Type 0) (b : Blocks) (r : Result Document E) → P b
    → IfOk r (λ d. document_of d ≡ b) → IfOk r (λ d. P (document_of d))
same_document P b (Ok d) p e = subst P (sym e) p
same_document P b (Err x) p e = tt

pub made : {E : Type 0} (which : Anchors) (P : Sight → List ℕ → Blocks → Type 0)
    → ((sight : Sight) (page : List ℕ) → IsRead sight page → P sight page (page_document which sight page))
    → (sight : Sight) (page : List ℕ) (items : List Item) (r : Result Document E) → IsUtf8 page
    → HoldTexts items → items ≡ html5_document sight.scripting page
    → IfOk r (λ d. document_of d ≡ document_of_tree which sight (tree_of items 0))
    → IfOk r (λ d. P sight page (document_of d))
made which P law sight page items r u h e same =
    same_document (P sight page) (page_document which sight page) r
    (law sight page (record { utf8 = u; texts = subst HoldTexts e h }))
    (subst (λ (x : List Item). IfOk r
    (λ d. document_of d ≡ document_of_tree which sight (tree_of x 0))) e same)
