use Rattle.std.proofs.Common.{rules, tests}
use Rattle.std.proofs.lemmas.Iterator.{YieldsList-from_slice}
use Rattle.std.proofs.lemmas.Iterator.Search.{all_from_yields_List}
use Rattle.htmd_shown.specs.Attributes.{is_in_name}
use Rattle.htmd_flow.proofs.language.are_in_name.Goals as goal

pub returns : goal.returns
returns c =
    all_from_yields_List is_in_name _ _ _ c.all.ensures.ran (YieldsList-from_slice c.args.word.now cc)
    (λ x b q k. search (rules, tests))
