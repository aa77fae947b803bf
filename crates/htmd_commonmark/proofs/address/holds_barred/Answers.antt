-- What `any` answers over the bytes.
use Rattle.std.proofs.Common.{rules, tests}
use Rattle.std.proofs.lemmas.Iterator.{YieldsList-from_slice}
use Rattle.std.proofs.lemmas.Iterator.Search.{any_from_yields_List}
use Rattle.htmd_commonmark.specs.Addresses.{is_barred}
use Rattle.htmd_commonmark.proofs.address.holds_barred.Goals as goal

pub returns : goal.returns
returns c =
    any_from_yields_List is_barred _ _ c.any.result c.any.ensures.ran (YieldsList-from_slice c.args.bytes.now cc)
    (λ x b q k. search (rules, tests))
