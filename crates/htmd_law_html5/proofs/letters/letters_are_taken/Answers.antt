use Rattle.htmd_law_html5.proofs.PuttingTokens.{letters_taken}
use Rattle.htmd_law_html5.proofs.letters.letters_are_taken.Goals as goal

pub returns : goal.returns
returns c = letters_taken
