use Rattle.std.proofs.Common.{◌≡◌, false, take}
use Rattle.std.specs.List.{list_any}
use Rattle.htmd_document_of_tree.specs.TargetViews.{is_name}
use Rattle.htmd_document_of_tree.proofs.targets.has_name.Given as goal

abbrev pub invariant-loop-target : goal.invariant-loop-target
invariant-loop-target l = list_any is_name (take l.target-index l.found) ≡ false
