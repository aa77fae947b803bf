-- The run that is begun, and with the units to come all runs.
use Rattle.std.proofs.Common.{◌≡◌, ◌++◌, List, drop, map}
use Rattle.std.specs.Prelude.{◌==◌}
use Rattle.std.specs.List.{sum_by}
use Rattle.htmd_chunks.specs.Runs.{is_none, runs, runs_from}
use Rattle.htmd_chunks.specs.declared.units.Unit.{Unit}
use Rattle.htmd_chunks.proofs.UnitsLemmas.{taken_by}
use Rattle.htmd_chunks.proofs.units.run_counts.Given as goal

abbrev pub invariant-loop-i : goal.invariant-loop-i
invariant-loop-i l =
    let taken = taken_by l.room.always l.room.between in
    record {
      begun : List Unit;
      some : is_none begun ≡ (l.i == 0);
      count : l.count ≡ sum_by (λ u. u.count) begun;
      bytes : l.bytes ≡ taken begun;
      rest : l.counts.items
          ++ map (sum_by (λ u. u.count)) (runs_from taken l.room.most l.free begun (drop l.i l.units))
          ≡ map (sum_by (λ u. u.count)) (runs taken l.room.most l.room.first l.units);
    }
