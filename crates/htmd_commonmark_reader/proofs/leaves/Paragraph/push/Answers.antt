-- One more line.
use Rattle.std.proofs.Common.{◌∙◌, [], sym, append-nil}
use Rattle.htmd_commonmark_reader.proofs.LinesLemmas.{spaces_content}
use Rattle.htmd_commonmark_reader.proofs.leaves.Paragraph.push.Goals as goal

pub returns : goal.returns
returns c = λ ls s h. record {
  earlier = c.in_ok-push_text.ensures ls s [] h.earlier (h.last ∙ sym (append-nil s));
  last = c.requires.content ∙ sym (spaces_content c.args.line.spaces c.args.line.text.now);
}
