use Rattle.htmd_law_html5.proofs.UndroppedTokens.{harmless_taken}
use Rattle.htmd_law_html5.proofs.letters.undropped_texts_are_taken.Goals as goal

pub returns : goal.returns
returns c = harmless_taken
