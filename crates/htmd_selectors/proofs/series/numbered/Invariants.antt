use Rattle.std.proofs.Common.{◌≡◌, drop, Some}
use Rattle.htmd_selectors.specs.SeriesReading.{read_all, nothing_read}
use Rattle.htmd_selectors.proofs.series.numbered.Given as goal

abbrev pub invariant-loop-b : goal.invariant-loop-b
invariant-loop-b l = read_all (drop l.b-index l.text) l.notation ≡ read_all l.text (Some nothing_read)
