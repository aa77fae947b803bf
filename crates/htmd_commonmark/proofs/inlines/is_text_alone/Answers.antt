-- More than one inline is no text alone.
use Rattle.htmd_commonmark.proofs.InlinesLemmas.{not_alone}
use Rattle.htmd_commonmark.proofs.inlines.is_text_alone.Goals as goal

pub returns-in_default-2 : goal.returns-in_default-2
returns-in_default-2 c = not_alone c.args.address.now c.args.content.now c.in_default.len_at_least
