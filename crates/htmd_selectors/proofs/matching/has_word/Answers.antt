use Rattle.std.proofs.Common.{rules}
use Rattle.htmd_selectors.specs.Matching.{same_value}
use Rattle.std.proofs.lemmas.Iterator.Search.{any_from_yields_List}
use Rattle.std.proofs.lemmas.Iterator.Splits.{YieldsList-from_slice_split}
use Rattle.htmd_lexical.specs.WhiteSpace.{is_ascii_white_space}
use Rattle.htmd_selectors.proofs.matching.has_word.Goals as goal

pub returns : goal.returns
returns c =
    any_from_yields_List (λ part. same_value c.args.caseless part c.args.word.now) _ _ c.any.result c.any.ensures.ran
    (YieldsList-from_slice_split _ is_ascii_white_space c.args.value.now
    c.split.ensures.rest c.split.ensures.done c.split.ensures.closure (λ x b q k. search rules))
    (λ x b q k. search rules)
