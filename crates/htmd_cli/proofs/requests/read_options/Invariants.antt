-- The options that are left are known if all are, unless memory ran out and some value is read in memory; one of them
-- that isn't known is one of all that isn't. What is asked for so far, with the options that are left, is what is asked
-- for, unless memory ran out.
use Rattle.std.proofs.Common.{◌≡◌, true, false, drop}
use Rattle.std.specs.List.{list_any}
use Rattle.htmd_cli.specs.Options as spec
use Rattle.htmd_cli.specs.OptionRows.{request_in}
use Rattle.htmd_cli.proofs.requests.read_options.Given as goal

abbrev pub invariant-loop-option : goal.invariant-loop-option
invariant-loop-option l = record {
  known : l.has_memory ≡ true → spec.are_known (drop l.option-index l.options) ≡ spec.are_known l.options;
  forgotten : list_any spec.takes_memory l.options ≡ false
      → spec.are_known (drop l.option-index l.options) ≡ spec.are_known l.options;
  unknown : spec.are_known (drop l.option-index l.options) ≡ false → spec.are_known l.options ≡ false;
  untaken : list_any spec.takes_memory l.options ≡ false
      → list_any spec.takes_memory (drop l.option-index l.options) ≡ false;
  so_far : l.has_memory ≡ true
      → spec.request_after (request_in l.request) (drop l.option-index l.options) ≡ spec.request_by l.options;
}
