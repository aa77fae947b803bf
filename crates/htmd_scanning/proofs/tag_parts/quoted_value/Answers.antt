-- The value ends where its quote stands again.
use Rattle.std.proofs.Common.{inl}
use Rattle.htmd_lexical.proofs.QuotedValuesLemmas.{quote_lacks, quote_ends}
use Rattle.htmd_scanning.proofs.RunCuts.{outside_byte}
use Rattle.htmd_scanning.proofs.tag_parts.quoted_value.Goals as goal

pub split_run-requires : goal.split_run-requires
split_run-requires c = inl (λ b. outside_byte c.args.quote b c.requires)

pub returns-in-None : goal.returns-in-None
returns-in-None c = quote_lacks _ _ _ _ c.split_run.ensures.rest c.in-None.ensures

pub returns-in-Some : goal.returns-in-Some
returns-in-Some c =
    quote_ends _ _ _ _ _ _ c.split_run.ensures.run c.split_run.ensures.rest c.in-Some.ensures.0 c.in-Some.ensures.1
