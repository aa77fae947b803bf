-- The number so far, with the digits that are left, is the number.
use Rattle.std.proofs.Common.{◌≡◌, ◌<◌, ◌≤◌, ◌+◌, ◌-◌, drop}
use Rattle.htmd_streams.specs.Fields as spec
use Rattle.htmd_streams.proofs.fields.number.Given as goal

abbrev pub invariant-loop-count : goal.invariant-loop-count
invariant-loop-count l = record {
  value : spec.number_behind l.value l.base (l.most - l.count) (drop l.count l.bytes)
      ≡ spec.number_behind 0 l.base l.most l.bytes;
  count : l.count + spec.digits l.base (l.most - l.count) (drop l.count l.bytes) ≡ spec.digits l.base l.most l.bytes;
  small : l.value < 256;
  within : l.count ≤ l.most;
}

abbrev pub decreases-loop-count : goal.decreases-loop-count
decreases-loop-count l = l.most - l.count
