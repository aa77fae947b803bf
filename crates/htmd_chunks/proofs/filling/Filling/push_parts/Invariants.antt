use Rattle.std.proofs.Common.{◌≡◌, map}
use Rattle.std.specs.Prelude.{if◌then◌else◌}
use Rattle.htmd_chunks.specs.ChunkViews.{filling_of, block_part_of}
use Rattle.htmd_chunks.specs.Fillings as spec
use Rattle.htmd_chunks.specs.Runs.{is_none}
use Rattle.htmd_chunks.proofs.filling.Filling.push_parts.Given as goal

abbrev pub invariant-loop-part : goal.invariant-loop-part
invariant-loop-part l = record {
  filling : filling_of l.self
      ≡ spec.with_further l.initial.self.limits.most (filling_of l.initial.self) (map block_part_of l.yielded);
  limits : l.self.limits ≡ l.initial.self.limits;
  before : l.before ≡ (if is_none l.yielded then l.initial.before else 0);
}
