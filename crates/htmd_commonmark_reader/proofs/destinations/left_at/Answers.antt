-- By the table.
use Rattle.htmd_commonmark_reader.proofs.DestinationsLemmas.{left_when}
use Rattle.htmd_commonmark_reader.proofs.destinations.left_at.Goals as goal

pub returns : goal.returns
returns c = left_when c.args.text.now c.args.lefts.now c.args.len _ c.requires.known c.requires.within
