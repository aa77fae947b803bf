use Rattle.std.proofs.Common.{◌≡◌, false, take}
use Rattle.std.specs.List.{list_any}
use Rattle.htmd_walk.specs.TableCells.{is_block_node}
use Rattle.htmd_walk.proofs.element_handler.table_cell.has_blocks.Given as goal

abbrev pub invariant-loop-child : goal.invariant-loop-child
invariant-loop-child l = list_any (is_block_node l.element.tree.now) (take l.child-index l.child-items) ≡ false
