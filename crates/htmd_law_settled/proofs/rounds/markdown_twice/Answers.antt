use Rattle.std.proofs.Common.{◌≡◌, ◌<◌, ◌^◌, ◌∙◌, ap, length, rules, string_bytes, subst, sym, true}
use Rattle.htmd_commonmark.specs.DocumentMarkdown.{markdown_of}
use Rattle.htmd_commonmark_reading.specs.Reading.{read}
use Rattle.htmd_commonmark_reading.specs.Rendering.{html_of}
use Rattle.htmd_document.specs.DocumentViews.{document_of}
use Rattle.htmd_law_html5.proofs.StrictPages.{pages_agree}
use Rattle.htmd_law_html5.proofs.StrictImplied.{texts_agree}
use Rattle.htmd_law_rendering.proofs.DocumentLemmas.{documents-parsed}
use Rattle.htmd_law_returning.proofs.ComingBackLemmas.{come-back}
use Rattle.htmd_law_settled.proofs.PageLemmas as page
use Rattle.htmd_law_settled.proofs.RoundLemmas.{again}
use Rattle.htmd_law_settled.specs.CommonDocuments.{is_common}
use Rattle.htmd_law_settled.specs.Rounds.{page_document}
use Rattle.htmd_law_settled.proofs.rounds.markdown_twice.Goals as goal

pub returns-clause-again : goal.returns-clause-again
returns-clause-again c common =
    let markdown = string_bytes c.in_ok-markdown.markdown in
    let fits : length markdown < 2 ^ 64 = search rules in
    again (page.come-back (come-back (documents-parsed pages_agree texts_agree))) c.args.anchors c.args.scripting
    c.args.is_rich c.args.options.now c.args.page.now markdown (string_bytes c.in_ok-html.html) _
    (document_of c.in_ok-document.document) (document_of c.in_ok-document-2.document) c.in_ok-document.ensures.texts
    common fits c.in_ok-document.ensures.ok c.in_ok-markdown.ensures.ok
    (c.in_ok-html.ensures ∙ ap (λ s. html_of (read s)) c.as_str.ensures.value)
    (c.in_ok-document-2.ensures.ok
    ∙ ap (page_document c.args.anchors c.args.scripting c.args.is_rich) c.as_str-2.ensures.value)
    c.in_ok-again.ensures.ok

pub returns-clause-same : goal.returns-clause-same
returns-clause-same c common stay =
    returns-clause-again c (subst (λ d. is_common c.args.anchors d ≡ true) (sym stay) common)
    ∙ (ap (markdown_of c.args.options.now) (stay ∙ sym c.in_ok-document.ensures.ok)
    ∙ sym c.in_ok-markdown.ensures.ok)
