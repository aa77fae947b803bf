-- All of the bytes are looked at.
use Rattle.std.proofs.Common.{eqb, rules, tests}
use Rattle.std.proofs.lemmas.Iterator.{YieldsList-from_slice}
use Rattle.std.proofs.lemmas.Iterator.Search.{all_from_yields_List}
use Rattle.htmd_c.proofs.options.are_zero.Goals as goal

pub returns : goal.returns
returns c =
    all_from_yields_List (λ b. eqb b 0) _ _ _ c.all.ensures.ran (YieldsList-from_slice c.args.bytes.now cc)
    (λ x b q k. search (rules, tests))
