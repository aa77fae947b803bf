use Rattle.std.proofs.Common.{[], not, ap, sym, ◌∙◌, ◌&&◌}
use Rattle.htmd_document.specs.DocumentViews as views
use Rattle.htmd_document.specs.FlatDocuments as flat
use Rattle.htmd_document.specs.TightItems as tight
use Rattle.htmd_flow.proofs.FlatItemsLemmas.{one-tight, pair-tight, many-tight, single, double}
use Rattle.htmd_flow.proofs.list.is_tight_item.Goals as goal

pub returns-else-is_plain : goal.returns-else-is_plain
returns-else-is_plain c =
    let b = c.block-item.result in
    c.if-is_plain.false
    ∙ sym (ap (λ x. x && not (tight.is_table (views.block_of b))) (sym c.is_plain.ensures ∙ c.if-is_plain.false))
    ∙ one-tight b
    ∙ ap (λ xs. tight.is_tight_item (flat.flattened (views.blocks_of xs)))
    (single c.args.blocks.now b c.in-len1.len_at_least c.in-len1.len_below c.block-item.is)

pub returns-then-is_paragraph : goal.returns-then-is_paragraph
returns-then-is_paragraph c =
    let b = c.block-item-then-blocks-lt3.result in
    let next = c.next-item.result in
    c.goes_on_a_paragraph.ensures
    ∙ sym (ap (λ x. x && tight.goes_on_a_paragraph (views.block_of next))
    (sym c.is_paragraph.ensures ∙ c.if-is_paragraph.true))
    ∙ pair-tight b next
    ∙ ap (λ xs. tight.is_tight_item (flat.flattened (views.blocks_of xs)))
    (double c.args.blocks.now b next c.in-len2.len_at_least c.in-len2.len_below c.block-item-then-blocks-lt3.is
    c.next-item.is)

pub returns-else-is_paragraph : goal.returns-else-is_paragraph
returns-else-is_paragraph c =
    let b = c.block-item-then-blocks-lt3.result in
    let next = c.next-item.result in
    c.if-is_paragraph.false
    ∙ sym (ap (λ x. x && tight.goes_on_a_paragraph (views.block_of next))
    (sym c.is_paragraph.ensures ∙ c.if-is_paragraph.false))
    ∙ pair-tight b next
    ∙ ap (λ xs. tight.is_tight_item (flat.flattened (views.blocks_of xs)))
    (double c.args.blocks.now b next c.in-len2.len_at_least c.in-len2.len_below c.block-item-then-blocks-lt3.is
    c.next-item.is)

pub returns-in_default : goal.returns-in_default
returns-in_default c = many-tight c.args.blocks.now c.in_default.len_at_least
