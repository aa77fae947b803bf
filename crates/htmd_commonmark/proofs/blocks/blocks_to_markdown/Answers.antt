-- The blocks, and then the definitions.
use Rattle.std.proofs.Common.{◌≡◌, [], ap, ◌∙◌, string_bytes}
use Rattle.htmd_document.specs.DocumentViews.{blocks_of}
use Rattle.htmd_document.specs.FlatDocuments.{flattened}
use Rattle.htmd_markdown.specs.Tables.{texts}
use Rattle.htmd_commonmark.specs.BlockMarkdown.{written_blocks}
use Rattle.htmd_commonmark.specs.BlockViews.{Output, output_of, put}
use Rattle.htmd_commonmark.specs.DocumentMarkdown.{outermost}
use Rattle.htmd_commonmark.specs.Pages.{nothing}
use Rattle.htmd_commonmark.specs.WrittenText.{written_of}
use Rattle.htmd_commonmark.proofs.BlocksLemmas.{document_put}
use Rattle.htmd_commonmark.proofs.blocks.blocks_to_markdown.Goals as goal

pub returns : goal.returns
returns c =
    let o : Output = record { page = c.new.result; definitions = (written_of c.new-2.result).definitions } in
    let start : o ≡ record { page = nothing; definitions = [] } =
    ap (λ p. record { page = p; definitions = (written_of c.new-2.result).definitions }) c.new.ensures
    ∙ ap (λ w. record { page = nothing; definitions = w.definitions }) c.new-2.ensures in
    let blocks = flattened (blocks_of c.args.blocks.now) in
    record {
      ok = document_put o (output_of c.write_blocks.new.self)
          (written_blocks c.args.options.now outermost [] blocks) c.push_definitions.new.lines
          (texts c.deref.result.now) (string_bytes c.into_text.result) start
          (c.in_ok-write_blocks.ensures
          ∙ ap (λ ds. put o (written_blocks c.args.options.now outermost ds blocks))
          (ap (λ u. u.definitions) start))
          (ap texts c.deref.ensures.value) c.in_ok-push_definitions.ensures c.into_text.ensures;
    }
