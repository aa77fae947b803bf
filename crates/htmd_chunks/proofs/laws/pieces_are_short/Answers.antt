use Rattle.htmd_chunks.proofs.ShortSectionsLemmas.{pieces-short}
use Rattle.htmd_chunks.proofs.laws.pieces_are_short.Goals as goal

pub returns : goal.returns
returns c = pieces-short
