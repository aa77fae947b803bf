use Rattle.std.proofs.Common.{◌≡◌, false, take}
use Rattle.std.specs.List.{list_any}
use Rattle.htmd_walk.proofs.TableHeadersLemmas.{shows_header}
use Rattle.htmd_walk.proofs.element_handler.table.has_explicit_headers.Given as goal

abbrev pub invariant-loop-child : goal.invariant-loop-child
invariant-loop-child l = list_any (shows_header l.tree) (take l.child-index l.child-items) ≡ false
