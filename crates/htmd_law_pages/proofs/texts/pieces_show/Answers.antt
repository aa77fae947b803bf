use Rattle.htmd_law_pages.proofs.PieceLemmas as lemmas
use Rattle.htmd_law_pages.proofs.texts.pieces_show.Goals as goal

pub returns : goal.returns
returns c = lemmas.pieces_show
