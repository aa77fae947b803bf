use Rattle.std.proofs.Common.{◌≡◌, ◌-◌, false, take, length}
use Rattle.std.specs.List.{list_any}
use Rattle.htmd_walk.proofs.TableHeadersLemmas.{shows_header_deeper}
use Rattle.htmd_walk.proofs.element_handler.table.+has_header_below.Given as goal

-- children come after their parent
abbrev pub decreases-has_header_below : goal.decreases-has_header_below
decreases-has_header_below l = length l.tree.now - l.node

abbrev pub invariant-loop-child : goal.invariant-loop-child
invariant-loop-child l =
    list_any (shows_header_deeper l.tree) (take l.child-index l.child-items) ≡ false
