use Rattle.std.proofs.Common.{◌≡◌, ◌++◌, List, [], map, take, drop, ℕ}
use Rattle.htmd_shown.specs.Roles.{is_among}
use Rattle.htmd_document_of_tree.specs.TargetViews.{firsts_of, holds, target_of}
use Rattle.htmd_document_of_tree.specs.Targets.{ids_among}
use Rattle.htmd_document_of_tree.proofs.TargetsLemmas.{known_after}
use Rattle.htmd_document_of_tree.proofs.targets.firsts.Given as goal

abbrev pub invariant-loop-target : goal.invariant-loop-target
invariant-loop-target l =
    let all = map target_of l.found in
    record {
      firsts : l.firsts.items ++ firsts_of (ids_among all) (known_after (ids_among all) [] (take l.target-index all))
          (drop l.target-index all) ≡ firsts_of (ids_among all) [] all;
      known : (s : List ℕ) → holds l.known s
          ≡ is_among (known_after (ids_among all) [] (take l.target-index all)) s;
    }
