use Rattle.htmd_law_pages.proofs.PageLaws as laws
use Rattle.htmd_law_pages.proofs.texts.page_text_stands_in_order.Goals as goal

pub returns : goal.returns
returns c = laws.page_text_stands_in_order
