-- More than one block isn't written in one line.
use Rattle.htmd_document.proofs.FlatLemmas.{not-in-line}
use Rattle.htmd_document.proofs.flat.text_in_line.Goals as goal

pub returns-in_default : goal.returns-in_default
returns-in_default c = not-in-line c.args.content.now c.in_default.len_at_least
