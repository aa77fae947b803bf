use Rattle.std.proofs.Common.{◌≡◌, take, filter, fold, ◌∷◌, [], codes}
use Rattle.htmd_walk.specs.TableLayouts.{has_tag, with_section_row}
use Rattle.htmd_walk.specs.TableViews.{layout_view}
use Rattle.htmd_walk.proofs.element_handler.table_layout.Layout.push_section.Given as goal

abbrev pub invariant-loop-child : goal.invariant-loop-child
invariant-loop-child l =
    layout_view l.self ≡ fold (with_section_row l.tree) (layout_view l.initial.self)
    (filter (has_tag (codes "tr" ∷ []) l.tree) (take l.child-index l.child-items))
