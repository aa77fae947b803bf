use Rattle.std.proofs.Common.{rules}
use Rattle.std.proofs.lemmas.Iterator.Search.{any_from_yields_List}
use Rattle.std.proofs.lemmas.Iterator.Splits.{YieldsList-from_slice_split}
use Rattle.htmd_lexical.specs.WhiteSpace.{is_ascii_white_space}
use Rattle.htmd_article.specs.Sayings.{same_word}
use Rattle.htmd_article.proofs.sayings.has_word.Goals as goal

pub returns : goal.returns
returns c =
    any_from_yields_List (same_word c.args.word.now) _ _ c.any.result c.any.ensures.ran
    (YieldsList-from_slice_split _ is_ascii_white_space c.args.text.now
    c.split.ensures.rest c.split.ensures.done c.split.ensures.closure (λ x b q k. search rules))
    (λ x b q k. search rules)
