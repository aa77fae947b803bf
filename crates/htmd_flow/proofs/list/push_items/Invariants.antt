use Rattle.std.proofs.Common.{map}
use Rattle.htmd_flow.specs.GroupViews.{AreWithItems}
use Rattle.htmd_flow.specs.ListViews.{item_of}
use Rattle.htmd_flow.specs.ParagraphViews.{writing_in}
use Rattle.htmd_flow.proofs.list.push_items.Given as goal

abbrev pub invariant-loop-item : goal.invariant-loop-item
invariant-loop-item l =
    AreWithItems (writing_in l.initial.out) l.initial.group (map item_of l.yielded) (writing_in l.out) l.group
