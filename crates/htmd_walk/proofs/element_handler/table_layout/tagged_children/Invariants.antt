use Rattle.std.proofs.Common.{◌≡◌, take, filter, ◌∷◌, []}
use Rattle.htmd_walk.specs.TableLayouts.{has_tag}
use Rattle.htmd_walk.proofs.element_handler.table_layout.tagged_children.Given as goal

abbrev pub invariant-loop-child : goal.invariant-loop-child
invariant-loop-child l = l.tagged.items ≡ filter (has_tag (l.tag ∷ []) l.tree) (take l.child-index l.child-items)
