use Rattle.htmd_law_html5.proofs.KeptTokens.{characters_kept}
use Rattle.htmd_law_html5.proofs.letters.characters_are_kept.Goals as goal

pub returns : goal.returns
returns c = characters_kept
