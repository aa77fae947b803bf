-- The text of all lines.
use Rattle.std.proofs.Common.{◌∙◌, false, subst}
use Rattle.std.proofs.lemmas.Result.{on_ok_weaker}
use Rattle.htmd_commonmark_reading.specs.Boxes.{text, parts_of}
use Rattle.htmd_commonmark_reading.specs.LinkDefinitions.{definitions}
use Rattle.htmd_commonmark_reader.specs.OpenBlocks.{Closes}
use Rattle.htmd_commonmark_reader.proofs.blocks.Blocks.close_paragraph.Goals as goal

pub returns : goal.returns
returns c =
    let o = c.args.self.now in
    on_ok_weaker c.push_text.result (λ e ls s h.
    subst (λ t. Closes (parts_of o.gap text (definitions t)) false o c.push_text.new.self)
    (c.as_str.ensures.value ∙ c.in_ok-text.ensures ls s h) e) c.push_text.ensures
