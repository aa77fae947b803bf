-- No row so far is given.
use Rattle.std.proofs.Common.{◌≡◌, drop, map}
use Rattle.htmd_cli.specs.Options as spec
use Rattle.htmd_cli.specs.OptionRows.{option_of}
use Rattle.htmd_cli.proofs.requests.setting_in.Given as goal

abbrev pub invariant-loop-row : goal.invariant-loop-row
invariant-loop-row l = record {
  meaning : spec.meaning (map option_of (drop l.row-index l.rows)) l.given
      ≡ spec.meaning (map option_of l.rows) l.given;
  memory : spec.takes_memory_in (map option_of (drop l.row-index l.rows)) l.given
      ≡ spec.takes_memory_in (map option_of l.rows) l.given;
}
