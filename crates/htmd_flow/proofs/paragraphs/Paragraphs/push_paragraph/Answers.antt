-- A paragraph with something in it.
use Rattle.std.proofs.Common.{◌∙◌, ◌++◌, ap, map, List}
use Rattle.std.specs.Prelude.{◌==◌}
use Rattle.std.proofs.lemmas.List.{map_push}
use Rattle.htmd_document.specs.Documents.{Block}
use Rattle.htmd_document.specs.DocumentViews.{block_of}
use Rattle.htmd_document.specs.declared.document.Block as source
use Rattle.htmd_flow.specs.ParagraphViews.{writing_in}
use Rattle.htmd_flow.proofs.BlocksLemmas.{paragraph_some}
use Rattle.htmd_flow.proofs.paragraphs.Paragraphs.push_paragraph.Goals as goal

pub returns : goal.returns
returns c =
    let done = c.args.self.now.done.items in
    ap (λ (d : List Block). record (writing_in c.args.self.now) { done = d })
    (ap (map block_of) c.in_ok-push.ensures.items
    ∙ map_push block_of done (source.Paragraph c.args.content)
    ∙ ap (λ bs. map block_of done ++ bs)
    (paragraph_some c.args.content c.is_empty.result (c.is_empty.ensures ∙ ap (λ n. n == 0) c.args.content.ok.0)
    c.if-is_empty.false))
