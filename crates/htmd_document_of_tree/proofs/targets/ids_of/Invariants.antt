use Rattle.std.proofs.Common.{◌≡◌, ◌||◌, List, map, drop, ℕ}
use Rattle.htmd_shown.specs.Roles.{is_among}
use Rattle.htmd_document_of_tree.specs.TargetViews.{holds, target_of}
use Rattle.htmd_document_of_tree.specs.Targets.{ids_among}
use Rattle.htmd_document_of_tree.proofs.targets.ids_of.Given as goal

abbrev pub invariant-loop-target : goal.invariant-loop-target
invariant-loop-target l = (s : List ℕ)
    → (holds l.ids s || is_among (ids_among (drop l.target-index (map target_of l.found))) s)
    ≡ is_among (ids_among (map target_of l.found)) s
