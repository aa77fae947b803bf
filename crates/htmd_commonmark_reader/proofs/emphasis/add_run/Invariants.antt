-- What is left of the run does to the stack so far what the run does to the first one.
use Rattle.std.proofs.Common.{◌≡◌, ◌+◌, List}
use Rattle.htmd_commonmark_reading.specs.DelimiterRuns.{Stack, with_run}
use Rattle.htmd_commonmark_reader.specs.ReadingRuns.{IsReading}
use Rattle.htmd_commonmark_reader.specs.Runs.{run_of}
use Rattle.htmd_commonmark_reader.specs.declared.slots.Slot.{Slot}
use Rattle.htmd_commonmark_reader.proofs.ReadingRunsLemmas.{IsOnward}
use Rattle.htmd_commonmark_reader.proofs.emphasis.add_run.Given as goal

abbrev pub invariant-loop-rest : goal.invariant-loop-rest
invariant-loop-rest l = record {
  sign : l.rest.run.sign ≡ l.fn.run.run.sign;
  end : l.rest.from + l.rest.run.unused ≡ l.fn.run.from + l.fn.run.run.unused;
  onward : (s : Stack) (tail : List Slot)
      → IsReading s l.fn.openers l.fn.run.from l.fn.run.run.unused l.fn.run.run.sign l.fn.slots tail
      → IsOnward (with_run l.fn.run.run.unused (run_of l.fn.run.run) s) l.openers l.rest l.slots tail;
}

abbrev pub decreases-loop-rest : goal.decreases-loop-rest
decreases-loop-rest l = l.rest.run.unused
