use Rattle.std.proofs.Common.{◌≡◌, false, take}
use Rattle.std.specs.List.{list_any}
use Rattle.htmd_walk.specs.Lists.{is_other_element}
use Rattle.htmd_walk.proofs.element_handler.list.has_other_elements.Given as goal

abbrev pub invariant-loop-child : goal.invariant-loop-child
invariant-loop-child l = list_any (is_other_element l.element.tree.now) (take l.child-index l.child-items) ≡ false
