use Rattle.htmd_law_pages.proofs.PageLaws as laws
use Rattle.htmd_law_pages.proofs.texts.all_text_is_written.Goals as goal

pub returns : goal.returns
returns c = laws.all_text_is_written
