use Rattle.std.proofs.Common.{rules, tests, ◌∙◌}
use Rattle.std.specs.Str.{chars}
use Rattle.std.proofs.lemmas.Iterator.{YieldsList-from_chars}
use Rattle.std.proofs.lemmas.Iterator.Consumers.{YieldsList-from_filter, count_from_yields_List}
use Rattle.std.proofs.lemmas.List.Sums.{length-filter}
use Rattle.htmd_article.specs.Letters.{is_sign}
use Rattle.htmd_article.proofs.letters.signs_in.Goals as goal

pub returns : goal.returns
returns c =
    count_from_yields_List c.filter.result c.count.result c.count.ensures.ran
    (YieldsList-from_filter _ is_sign (YieldsList-from_chars c.args.text.now c.utf8.text cc)
    c.filter.ensures.closure (λ x b q k. search (rules, tests)))
    ∙ length-filter is_sign (chars c.args.text.now)
