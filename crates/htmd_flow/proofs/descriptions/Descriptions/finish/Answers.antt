use Rattle.std.proofs.Common.{◌∙◌, sym, ap, map}
use Rattle.std.specs.List.{list_any}
use Rattle.htmd_document.specs.DocumentViews.{block_of}
use Rattle.htmd_flow.specs.DescriptionViews as views
use Rattle.htmd_flow.specs.ParagraphViews.{writing_in}
use Rattle.htmd_flow.proofs.DescriptionsLemmas.{filled_elements, no_element, some_element}
use Rattle.htmd_flow.proofs.FeedLemmas.{on_ok}
use Rattle.htmd_flow.proofs.descriptions.Descriptions.finish.Goals as goal

pub returns-then-not-are_filled : goal.returns-then-not-are_filled
returns-then-not-are_filled c =
    no_element (writing_in c.args.out.now) (views.begun_in c.args.self)
    (sym (filled_elements (views.begun_in c.args.self))
    ∙ ap (list_any views.is_filled_element) (sym c.in_ok-content.ensures)
    ∙ ap (λ xs. list_any views.is_filled_element (map block_of xs)) (sym c.as_slice.ensures.value)
    ∙ sym c.are_filled.ensures ∙ c.if-not-are_filled.true)

pub returns : goal.returns
returns c =
    on_ok c.block.result c.block.ensures (λ e. e
    ∙ some_element (writing_in c.args.out.now) (views.begun_in c.args.self) c.new.result c.in_ok-content.content
    c.new.ensures.items c.in_ok-content.ensures
    (sym (filled_elements (views.begun_in c.args.self))
    ∙ ap (list_any views.is_filled_element) (sym c.in_ok-content.ensures)
    ∙ ap (λ xs. list_any views.is_filled_element (map block_of xs)) (sym c.as_slice.ensures.value)
    ∙ sym c.are_filled.ensures ∙ c.if-not-are_filled.false))
