use Rattle.std.proofs.Common.{rules, not, codes}
use Rattle.std.specs.Char.{is_ascii_alphabetic}
use Rattle.std.proofs.lemmas.Iterator.Search.{any_from_yields_List}
use Rattle.std.proofs.lemmas.Iterator.Splits.{YieldsList-from_slice_split}
use Rattle.htmd_article.specs.Sayings.{same_word}
use Rattle.htmd_article.proofs.sayings.has_code_word.Goals as goal

pub returns : goal.returns
returns c =
    any_from_yields_List (same_word (codes "code")) _ _ c.any.result c.any.ensures.ran
    (YieldsList-from_slice_split _ (λ b. not (is_ascii_alphabetic b)) c.args.text.now
    c.split.ensures.rest c.split.ensures.done c.split.ensures.closure (λ x b q k. search rules))
    (λ x b q k. search rules)
