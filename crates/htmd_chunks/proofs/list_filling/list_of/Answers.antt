use Rattle.std.proofs.Common.{◌∙◌, sym, ap, not}
use Rattle.std.specs.Prelude.{◌||◌}
use Rattle.htmd_document.specs.FlatDocuments.{flat_items}
use Rattle.htmd_document.specs.NormalDocuments.{is_spread}
use Rattle.htmd_commonmark.specs.BlockViews.{all_items_of}
use Rattle.htmd_chunks.proofs.PushesLemmas.{part_shape}
use Rattle.htmd_chunks.proofs.list_filling.list_of.Goals.{then-list, else-list+in_ok-is_short}
use Rattle.htmd_chunks.proofs.list_filling.list_of.Goals as goal

pub returns : goal.returns
returns c =
    part_shape c.args.list c.args.first c.in_ok-start_at.field-0 c.if-list.result c.args.items c.in_ok-start_at.ensures
    (elim c.if-list.branch [
      | then-list w ↦
          w.result-is ∙ w.if-list.true
          ∙ sym (ap (λ t. t || not (is_spread (flat_items (all_items_of c.args.items.items)))) w.if-list.true)
      | else-list+in_ok-is_short w ↦
          w.result-is ∙ w.in_ok-is_short.ensures
          ∙ ap (λ is. not (is_spread (flat_items (all_items_of is)))) w.deref.ensures.value
          ∙ sym (ap (λ t. t || not (is_spread (flat_items (all_items_of c.args.items.items)))) w.if-list.false)
    ])
