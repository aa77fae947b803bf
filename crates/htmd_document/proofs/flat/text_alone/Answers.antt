-- More than one inline is no text alone.
use Rattle.htmd_document.proofs.FlatLemmas.{not-alone}
use Rattle.htmd_document.proofs.flat.text_alone.Goals as goal

pub returns-in_default : goal.returns-in_default
returns-in_default c = not-alone c.args.content.now c.in_default.len_at_least
