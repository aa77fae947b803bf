use Rattle.std.proofs.Common.{◌≤◌, ◌+◌, length, map}
use Rattle.htmd_walk.specs.TagIndexes.{tag_index}
use Rattle.htmd_walk.proofs.LatestLemmas.{Searching, bound}
use Rattle.htmd_walk.proofs.element_handler.registrations.Registrations.find.Given as goal

abbrev pub invariant-loop-position : goal.invariant-loop-position
invariant-loop-position l = record {
  search : Searching l.tag (map tag_index l.self.all.items) l.skipped l.left l.position;
  passed : l.skipped + bound l.position ≤ l.left + length l.self.all.items;
}

abbrev pub decreases-loop-position : goal.decreases-loop-position
decreases-loop-position l = bound l.position
