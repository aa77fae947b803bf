use Rattle.std.proofs.Common.{◌≡◌, ◌<◌, [], ◌∷◌, Bool, Some, length}
use Rattle.std.specs.List.{list_any}
use Rattle.htmd_nodes.specs.Ancestors.{Ancestor, ancestors_of}
use Rattle.htmd_walk.specs.ElementPlans.{is_tag_among}
use Rattle.htmd_walk.proofs.node_util.has_ancestor_of.Given as goal

abbrev pub invariant-loop-parent : goal.invariant-loop-parent
invariant-loop-parent l =
    let is : Ancestor → Bool = λ a. is_tag_among (l.first ∷ l.second ∷ []) (Some a.tag) in
    record {
      within : l.at < length l.tree;
      same : list_any is (ancestors_of l.tree l.at) ≡ list_any is (ancestors_of l.tree l.fn.node);
    }

abbrev pub decreases-loop-parent : goal.decreases-loop-parent
decreases-loop-parent l = l.at
