use Rattle.std.proofs.Common.{◌∙◌, sym, ap, map, ◌&&◌}
use Rattle.htmd_document.specs.DocumentViews as views
use Rattle.htmd_document.specs.Documents as documents
use Rattle.htmd_document.specs.TightItems as spec
use Rattle.htmd_flow.proofs.ListBlocksLemmas.{block-list}
use Rattle.htmd_flow.proofs.list.goes_on_a_paragraph.Goals as goal

pub returns-then-is_one_or_none : goal.returns-then-is_one_or_none
returns-then-is_one_or_none c =
    c.begins_with_blocks.ensures
    ∙ ap (λ xs. spec.begins_with_blocks (documents.items_of (map (λ bs. views.blocks_of bs.items) xs)))
    c.as_slice.ensures.value
    ∙ sym (ap (λ b. b && spec.begins_with_blocks (documents.items_of (map (λ bs. views.blocks_of bs.items)
    c.in-List.items.items))) (sym c.is_one_or_none.ensures ∙ c.if-is_one_or_none.true))
    ∙ sym (ap (λ b. spec.goes_on_a_paragraph (views.block_of b)) c.in-List.is
    ∙ ap spec.goes_on_a_paragraph (block-list c.in-List.start c.in-List.tight c.in-List.items))
