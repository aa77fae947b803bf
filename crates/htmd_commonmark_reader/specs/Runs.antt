-- Delimiter runs, as the reader holds them.
use Rattle.std.specs.Prelude.{ℕ}
use Rattle.htmd_commonmark_reading.specs.DelimiterRuns as spec
use Rattle.htmd_commonmark_reading.specs.DelimiterRuns.{used}
use Rattle.htmd_commonmark_reading.specs.Markup.{no_inlines}
use Rattle.htmd_commonmark_reader.specs.declared.delimiter_runs.Run.{Run}

abbrev pub run_of : Run → spec.Run
run_of r =
    record { sign = r.sign; unused = r.unused; count = r.count; opens = r.opens; closes = r.closes }

-- how many signs a run uses of an opener that it closes, wherever that is
abbrev pub used_of : spec.Run → spec.Run → ℕ
used_of closing opened =
    used closing (record { opened = opened; inside = no_inlines; below = spec.base no_inlines })
