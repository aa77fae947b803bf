use Rattle.htmd_law_html5.proofs.UndroppedLettersLemmas.{harmless_letters_kept}
use Rattle.htmd_law_html5.proofs.letters.undropped_letters_are_kept.Goals as goal

pub returns : goal.returns
returns c = harmless_letters_kept
