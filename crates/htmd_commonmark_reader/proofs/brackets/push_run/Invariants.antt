-- So many of the signs are appended.
use Rattle.std.proofs.Common.{◌≡◌, ◌++◌, replicate}
use Rattle.htmd_commonmark_reader.specs.declared.slots.Slot.TheVariants.{Sign}
use Rattle.htmd_commonmark_reader.proofs.brackets.push_run.Given as goal

abbrev pub invariant-loop : goal.invariant-loop
invariant-loop l = record {
  slots : l.scan.slots.items ≡ l.fn.scan.slots.items ++ replicate l.counter (Sign l.run.sign);
  runs : l.scan.runs ≡ l.fn.scan.runs;
  brackets : l.scan.brackets ≡ l.fn.scan.brackets;
  active : l.scan.active ≡ l.fn.scan.active;
}
