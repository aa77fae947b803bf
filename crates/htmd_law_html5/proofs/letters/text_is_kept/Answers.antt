use Rattle.htmd_law_html5.proofs.TextKeptLemmas.{text_kept}
use Rattle.htmd_law_html5.proofs.letters.text_is_kept.Goals as goal

pub returns : goal.returns
returns c = text_kept
