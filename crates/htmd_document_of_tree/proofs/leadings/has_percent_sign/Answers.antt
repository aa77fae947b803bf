use Rattle.std.proofs.Common.{rules, tests}
use Rattle.std.specs.Prelude.{◌==◌}
use Rattle.std.proofs.lemmas.Iterator.{YieldsList-from_slice}
use Rattle.std.proofs.lemmas.Iterator.Search.{any_from_yields_List}
use Rattle.percent_encoding.specs.Percent.{percent_sign}
use Rattle.htmd_document_of_tree.proofs.leadings.has_percent_sign.Goals as goal

pub returns : goal.returns
returns c =
    any_from_yields_List (λ b. b == percent_sign) _ _ c.any.result c.any.ensures.ran
    (YieldsList-from_slice c.args.bytes.now cc) (λ x b q k. search (rules, tests))
