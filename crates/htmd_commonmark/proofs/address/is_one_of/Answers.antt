-- What `any` answers over the signs.
use Rattle.std.proofs.Common.{rules, tests}
use Rattle.std.specs.Prelude.{◌==◌}
use Rattle.std.proofs.lemmas.Iterator.{YieldsList-from_slice}
use Rattle.std.proofs.lemmas.Iterator.Search.{any_from_yields_List}
use Rattle.htmd_commonmark.proofs.address.is_one_of.Goals as goal

pub returns : goal.returns
returns c =
    any_from_yields_List (λ s. c.args.byte == s) _ _ c.any.result c.any.ensures.ran
    (YieldsList-from_slice c.args.signs.now cc) (λ x b q k. search (rules, tests))
