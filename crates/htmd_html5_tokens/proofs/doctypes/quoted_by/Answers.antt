-- The quotes end or don't.
use Rattle.htmd_html5_tokens.proofs.DoctypesLemmas.{quote_lacks}
use Rattle.htmd_html5_tokens.proofs.doctypes.quoted_by.Goals as goal

pub returns-in-None : goal.returns-in-None
returns-in-None c =
    quote_lacks c.args.quote c.args.text.now c.split_run.result.1.now c.split_run.ensures.rest c.in-None.ensures
