use Rattle.htmd_law_html5.proofs.TextKeptLemmas.{whole_text_kept}
use Rattle.htmd_law_html5.proofs.letters.whole_text_is_kept.Goals as goal

pub returns : goal.returns
returns c = whole_text_kept
