use Rattle.std.proofs.Common.{[], ap, sym, ◌∙◌, ◌||◌}
use Rattle.htmd_document.specs.DocumentViews as views
use Rattle.htmd_document.specs.FlatDocuments as flat
use Rattle.htmd_document.specs.TightItems as tight
use Rattle.htmd_flow.specs.ListViews as items
use Rattle.htmd_flow.proofs.FlatItemsLemmas.{many-short, short-one, single}
use Rattle.htmd_flow.proofs.list.is_short.Goals as goal

pub returns-else-is_plain : goal.returns-else-is_plain
returns-else-is_plain c =
    let b = c.block-item.result in
    c.is_tags_alone.ensures
    ∙ sym (ap (λ x. x || items.is_tags_alone (views.block_of b)) (sym c.is_plain.ensures ∙ c.if-is_plain.false))
    ∙ short-one b
    ∙ ap (λ xs. tight.is_short (flat.flattened (views.blocks_of xs)))
    (single c.args.blocks.now b c.in-len1.len_at_least c.in-len1.len_below c.block-item.is)

pub returns-in_default : goal.returns-in_default
returns-in_default c = c.are_tags_alone.ensures ∙ many-short c.args.blocks.now c.in_default.len_at_least
