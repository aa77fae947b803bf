use Rattle.std.proofs.Common.{◌≡◌, ◌++◌, map, string_bytes, length}
use Rattle.htmd_document_of_tree.specs.TargetViews.{ids_here, targets_here}
use Rattle.htmd_document_of_tree.proofs.placing.Placing.push_ids.Given as goal

abbrev pub invariant-loop-id : goal.invariant-loop-id
invariant-loop-id l = record {
  root : l.self.root ≡ l.initial.self.root;
  seen : l.self.seen ≡ l.initial.self.seen;
  targets : targets_here l.self ≡ targets_here l.initial.self;
  ids : map string_bytes l.ids.items ++ ids_here l.self
      ≡ map string_bytes l.initial.ids.items ++ ids_here l.initial.self;
}

abbrev pub decreases-loop-id : goal.decreases-loop-id
decreases-loop-id l = length l.self.targets.items
