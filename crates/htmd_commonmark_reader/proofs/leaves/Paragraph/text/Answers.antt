-- The earlier lines and the last one.
use Rattle.std.proofs.Common.{◌∙◌, [], sym, append-nil}
use Rattle.htmd_commonmark_reader.proofs.leaves.Paragraph.text.Goals as goal

pub returns : goal.returns
returns c = λ ls s h.
    (c.in_ok-push_text.ensures ls s [] (c.in_ok-whole.ensures ls h.earlier) (h.last ∙ sym (append-nil s))).text
