use Rattle.htmd_law_html5.proofs.LetterOrderLemmas.{letters_in_order}
use Rattle.htmd_law_html5.proofs.letters.letters_stand_in_order.Goals as goal

pub returns : goal.returns
returns c = letters_in_order
