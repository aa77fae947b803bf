use Rattle.std.proofs.Common.{◌∙◌, ap, arith}
use Rattle.htmd_document.specs.DocumentViews.{blocks_of}
use Rattle.htmd_document.specs.FlatDocuments.{flattened}
use Rattle.htmd_chunks.proofs.PushesLemmas.{one_short, many_spread}
use Rattle.htmd_chunks.proofs.list_filling.is_short.Goals as goal

pub returns-in_ok-flattened-in-len1 : goal.returns-in_ok-flattened-in-len1
returns-in_ok-flattened-in-len1 c =
    let flat = c.in_ok-flattened-in-len1.field-0 in
    one_short c.args.items.now c.item-item.result flat.items c.len.result (omega arith) c.item-item.is
    (c.in_ok-flattened-in-len1.ensures ∙ ap (λ bs. flattened (blocks_of bs)) c.deref.ensures.value)
    (c.len.ensures ∙ flat.ok.0)

pub returns-in_default : goal.returns-in_default
returns-in_default c = many_spread c.args.items.now c.in_default.len_at_least
