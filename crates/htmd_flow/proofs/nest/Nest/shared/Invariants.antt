-- What the loop of `shared` keeps.
use Rattle.std.proofs.Common.{◌≡◌, ◌≤◌, ◌+◌, ◌-◌, drop, length, vec_len}
use Rattle.htmd_flow.specs.Nesting.{shared}
use Rattle.htmd_flow.specs.NestViews.{wrappers_in, wrappers_of}
use Rattle.htmd_flow.proofs.nest.Nest.shared.Given as goal

abbrev pub invariant-loop-count : goal.invariant-loop-count
invariant-loop-count l = record {
  bound : l.count ≤ vec_len l.self.frames;
  other : l.count ≤ length l.around;
  value : l.count + shared (drop l.count (wrappers_in l.self)) (drop l.count (wrappers_of l.around))
      ≡ shared (wrappers_in l.self) (wrappers_of l.around);
}

abbrev pub decreases-loop-count : goal.decreases-loop-count
decreases-loop-count l = vec_len l.self.frames - l.count
