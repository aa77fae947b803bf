use Rattle.std.proofs.Common.{◌≡◌, ◌+◌, ◌≤◌, drop, map}
use Rattle.htmd_flow.specs.Contexts.{raised_around}
use Rattle.htmd_flow.specs.PartViews.{around_of}
use Rattle.htmd_flow.proofs.place.raised_len.Given as goal

abbrev pub invariant-loop-a : goal.invariant-loop-a
invariant-loop-a l = record {
  value : l.count + raised_around (map around_of (drop l.a-index l.around))
      ≡ raised_around (map around_of l.around);
  bound : l.count ≤ l.a-index;
}
