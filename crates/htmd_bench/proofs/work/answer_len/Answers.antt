-- What is left to prove of `answer_len`.
use Rattle.std.proofs.Common.{◌≡◌, subst, sym, ap, ◌∙◌, length, string_bytes, rules}
use Rattle.htmd.specs.DocumentMarkdown.{markdown_of}
use Rattle.htmd.specs.DocumentViews as value
use Rattle.htmd_bench.specs.Work.{HasLength, HasDocumentLength}
use Rattle.htmd_bench.proofs.WorkLemmas.{markdown_of_tree, document_of_page}
use Rattle.htmd_bench.proofs.work.answer_len.Goals as goal

pub returns-in_ok-markdown-in-Walk : goal.returns-in_ok-markdown-in-Walk
returns-in_ok-markdown-in-Walk c =
    let markdown = c.as_str-in-Walk.result.now in
    subst (λ work. HasLength work c.args.input.now (length markdown)) (sym c.in-Walk.is)
    (markdown_of_tree _ _ c.args.input.now markdown _ _ c.in_ok-converter-in-Walk.ensures.handlers
    c.in_ok-converter-in-Walk.ensures.scripting c.in_ok-tree-in-Walk.ensures.ok c.root-in-Walk.ensures.value
    (c.as_str-in-Walk.ensures.value ∙ c.in_ok-markdown-in-Walk.ensures.markdown))

pub returns-in_ok-to_markdown-in-Document : goal.returns-in_ok-to_markdown-in-Document
returns-in_ok-to_markdown-in-Document c =
    let text = string_bytes c.in_ok-to_markdown-in-Document.field-0 in
    let document = value.document_of c.in_ok-document-in-Document.document in
    let len : c.len-in-Document.result ≡ length text = search rules in
    subst (λ work. HasLength work c.args.input.now c.len-in-Document.result) (sym c.in-Document.is)
    (subst (λ n. HasDocumentLength c.args.input.now n) (sym len)
    (document_of_page _ _ _ _ _ c.args.input.now text _ document c.in_ok-converter-in-Document.ensures.handlers
    c.in_ok-converter-in-Document.ensures.scripting c.in_ok-converter-in-Document.ensures.skipped
    c.in_ok-converter-in-Document.ensures.anchors c.in_ok-converter-in-Document.ensures.rich
    c.in_ok-tree-in-Document.ensures.ok
    c.in_ok-document-in-Document.ensures.ok
    (c.in_ok-to_markdown-in-Document.ensures.ok
    ∙ ap (λ options. markdown_of options document) c.document_options.ensures)))
