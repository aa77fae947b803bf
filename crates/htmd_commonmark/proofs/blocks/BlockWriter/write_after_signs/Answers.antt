-- The signs, a space and the text.
use Rattle.std.proofs.Common.{ap, ◌∙◌}
use Rattle.htmd_document.specs.DocumentViews.{inlines_of}
use Rattle.htmd_commonmark.specs.declared.line.LineKind.TheVariants.{Heading}
use Rattle.htmd_commonmark.specs.BlockMarkdown.{line_of}
use Rattle.htmd_commonmark.specs.BlockViews.{output_of}
use Rattle.htmd_commonmark.specs.InlineMarkdown.{written_line}
use Rattle.htmd_commonmark.specs.WrittenText.{written_of}
use Rattle.htmd_commonmark.proofs.BlocksLemmas.{signs_put}
use Rattle.htmd_commonmark.proofs.blocks.BlockWriter.write_after_signs.Goals as goal

pub returns : goal.returns
returns c =
    let o = output_of c.args.self.now in
    let w = written_line (line_of c.args.options.now Heading) o.definitions (inlines_of c.args.content.now) in
    let written = c.in_ok-write_line.ensures
    ∙ ap (λ l. written_line l o.definitions (inlines_of c.args.content.now)) c.new-line.ensures in
    signs_put c.push.result o w c.args.level c.push_signs.new.self c.push_in_line.new.self c.push.new.self
    c.deref.result.now (written_of c.write_line.new.self).definitions c.in_ok-push_signs.ensures
    c.in_ok-push_in_line.ensures
    c.push.ensures (c.deref.ensures ∙ ap (λ x. x.text) written) (ap (λ x. x.definitions) written)
