use Rattle.htmd_law_html5.proofs.KeptLettersLemmas.{letters_kept}
use Rattle.htmd_law_html5.proofs.letters.letters_are_kept.Goals as goal

pub returns : goal.returns
returns c = letters_kept
