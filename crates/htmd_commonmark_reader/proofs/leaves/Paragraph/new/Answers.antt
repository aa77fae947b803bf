-- One line.
use Rattle.std.proofs.Common.{◌∙◌, sym}
use Rattle.htmd_commonmark_reader.proofs.LinesLemmas.{spaces_content}
use Rattle.htmd_commonmark_reader.proofs.leaves.Paragraph.new.Goals as goal

pub returns : goal.returns
returns c = record {
  earlier = c.new.ensures;
  last = c.requires.content ∙ sym (spaces_content c.args.line.spaces c.args.line.text.now);
}
