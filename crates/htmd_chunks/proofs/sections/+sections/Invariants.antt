use Rattle.std.proofs.Common.{◌≡◌, ◌+◌, ◌*◌, ◌-◌, ◌≤◌, ◌++◌, [], length, map, take, drop}
use Rattle.htmd_document.specs.DocumentViews.{block_of}
use Rattle.htmd_chunks.specs.Sections as spec
use Rattle.htmd_chunks.proofs.sections.+sections.Given as goal

abbrev pub decreases-push_sections : goal.decreases-push_sections
decreases-push_sections l = length l.levels.now * 3

abbrev pub decreases-push_level : goal.decreases-push_level
decreases-push_level l = length l.lower.now * 3 + 2

abbrev pub decreases-push_part : goal.decreases-push_part
decreases-push_part l = length l.lower.now * 3 + 1

abbrev pub invariant-push_level-loop-i : goal.invariant-push_level-loop-i
invariant-push_level-loop-i l = record {
  rest : l.initial.done.items ++ spec.gathered l.bounds (λ part. spec.sections l.bounds l.lower part) 0 0
      (spec.level_parts l.level [] (map block_of l.blocks))
      ≡ l.done.items ++ spec.gathered l.bounds (λ part. spec.sections l.bounds l.lower part) l.gathered.count
      l.gathered.used
      (spec.level_parts l.level (map block_of (take (l.i - l.from) (drop l.from l.blocks)))
      (map block_of (drop l.i l.blocks)));
  from : l.from ≤ l.i;
}
