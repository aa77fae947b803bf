use Rattle.htmd_law_html5.proofs.Utf8Tokens.{tokens_utf8}
use Rattle.htmd_law_html5.proofs.letters.tokens_are_utf8.Goals as goal

pub returns : goal.returns
returns c = tokens_utf8
