use Rattle.std.proofs.Common.{◌≡◌, drop}
use Rattle.htmd_walk.specs.Tables.{with_parts, no_texts}
use Rattle.htmd_walk.specs.TableViews.{parts_view, texts_view}
use Rattle.htmd_walk.specs.Views.{results_view}
use Rattle.htmd_walk.proofs.element_handler.table.texts_of_parts.Given as goal

abbrev pub invariant-loop-part : goal.invariant-loop-part
invariant-loop-part l =
    with_parts (texts_view l.texts) (parts_view (drop l.part-index l.parts)) (results_view l.rest)
    ≡ with_parts no_texts (parts_view l.parts) (results_view l.contents)
