use Rattle.std.proofs.Common.{◌≡◌, take, filter, ◌∷◌, [], codes}
use Rattle.htmd_walk.specs.TableLayouts.{has_tag}
use Rattle.htmd_walk.proofs.element_handler.table_layout.head_row.Given as goal

abbrev pub invariant-loop-child : goal.invariant-loop-child
invariant-loop-child l = filter (has_tag (codes "tr" ∷ []) l.tree) (take l.child-index l.child-items) ≡ []
