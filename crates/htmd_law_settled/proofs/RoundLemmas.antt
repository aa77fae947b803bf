-- The Markdown of the HTML of a page's Markdown is the same bytes.
use Rattle.std.proofs.Common.{◌≡◌, ◌<◌, ◌^◌, ℕ, Bool, true, false, List, length, Result, Ok, Err, IfOk}
use Rattle.std.proofs.Common.{refl, ap, ◌∙◌, subst}
use Rattle.htmd_nodes.specs.Items.{Item, HoldTexts}
use Rattle.htmd_html5.specs.Html5Documents.{html5_document}
use Rattle.htmd_document.specs.Documents.{Blocks}
use Rattle.htmd_document_of_tree.specs.declared.anchors.Anchors.{Anchors}
use Rattle.htmd_commonmark.specs.declared.options.DocumentOptions.{DocumentOptions}
use Rattle.htmd_commonmark.specs.DocumentMarkdown.{markdown_of}
use Rattle.htmd_commonmark_reading.specs.Reading.{read}
use Rattle.htmd_commonmark_reading.specs.Rendering.{html_of}
use Rattle.htmd_law_documents.specs.TreeForms.{is_text_tree}
use Rattle.htmd_law_documents.proofs.StoredTextsLemmas.{tree-text}
use Rattle.htmd_law_returning.specs.EncodedDocuments.{encoded}
use Rattle.htmd_law_returning.specs.ReturningLaws.{whole_sight}
use Rattle.htmd_law_settled.specs.CommonDocuments.{is_common, keeps_by}
use Rattle.htmd_document_of_tree.specs.declared.anchors.Anchors.TheVariants as which
use Rattle.htmd_law_settled.specs.PageLaws.{PagesComeBack, ShowsAll, ShowHeaders}
use Rattle.htmd_law_settled.specs.Rounds.{page_document, page_tree}

-- the texts of a tree that is held are UTF-8
pub texts : {A E : Type 0} (r : Result A E) (scripting : Bool) (page : List ℕ) (items : List Item) → HoldTexts items
    → items ≡ html5_document scripting page → IfOk r (λ d. is_text_tree (page_tree scripting page) ≡ true)
texts (Ok d) scripting page items h e = tree-text (html5_document scripting page) 0 (subst HoldTexts e h)
texts (Err x) scripting page items h e = tt

-- a page shows what one like it does
shows-all : (is_rich : Bool) → ShowsAll is_rich is_rich
shows-all true = refl
shows-all false = refl

keeps-own : (which : Anchors) (d : Blocks) → keeps_by which which d ≡ true
keeps-own which.None d = refl
keeps-own which.Linked d = refl
keeps-own which.All d = refl

show-headers : (is_rich : Bool) (d : Blocks) → ShowHeaders is_rich is_rich d
show-headers true d = refl
show-headers false d = refl

pub again : PagesComeBack → (which : Anchors) (scripting is_rich : Bool) (options : DocumentOptions)
    (page markdown html last : List ℕ) (d back : Blocks)
    → is_text_tree (page_tree scripting page) ≡ true
    → is_common which (encoded (page_document which scripting is_rich page)) ≡ true
    → length markdown < 2 ^ 64 → d ≡ page_document which scripting is_rich page
    → markdown ≡ markdown_of options d → html ≡ html_of (read markdown)
    → back ≡ page_document which scripting is_rich html → last ≡ markdown_of options back
    → last ≡ markdown_of options (encoded (page_document which scripting is_rich page))
again law which scripting is_rich options page markdown html last d back text common fits is written rendered found
    out =
    let e : Blocks = page_document which scripting is_rich page in
    let first : markdown ≡ markdown_of options e =
    written ∙ ap (markdown_of options) is in
    let returned : back ≡ encoded e =
    found ∙ (ap (page_document which scripting is_rich) (rendered ∙ ap (λ s. html_of (read s)) first)
    ∙ law which (whole_sight scripting is_rich) (page_tree scripting page) options text common
    (subst (λ s. length s < 2 ^ 64) first fits) which scripting is_rich
    (keeps-own which (encoded e)) (shows-all is_rich) (show-headers is_rich e)) in
    out ∙ ap (markdown_of options) returned
