-- Each part of the host is a label.
use Rattle.std.proofs.Common.{rules, tests}
use Rattle.std.proofs.lemmas.Iterator.Search.{all_from_yields_List}
use Rattle.std.proofs.lemmas.Iterator.Splits.{YieldsList-from_slice_split}
use Rattle.htmd_commonmark_reading.specs.InlineTokens as spec
use Rattle.htmd_commonmark_reader.proofs.inline_tokens.is_host.Goals as goal

pub returns : goal.returns
returns c =
    all_from_yields_List spec.is_host_label _ _ _ c.all.ensures.ran
    (YieldsList-from_slice_split _ spec.is_full_stop c.args.text.now c.split.ensures.rest c.split.ensures.done
    c.split.ensures.closure (λ x b q k. search rules))
    (λ x b q k. search (rules, tests))
