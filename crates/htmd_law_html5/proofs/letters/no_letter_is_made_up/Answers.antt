use Rattle.htmd_law_html5.proofs.PageLettersLemmas.{no_letter_made_up}
use Rattle.htmd_law_html5.proofs.letters.no_letter_is_made_up.Goals as goal

pub returns : goal.returns
returns c = no_letter_made_up
