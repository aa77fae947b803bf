-- The table has each name's spelling at its number.
use Rattle.htmd_html5_state.proofs.TagLemmas.{spelled_at}
use Rattle.htmd_html5_state.proofs.names.TagName.text.Goals as goal

pub returns : goal.returns
returns c = spelled_at c.spellings.result.now _ c.number.result c.args.self c.spellings.ensures c.number.ensures.value
