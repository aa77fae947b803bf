-- The gap as the source keeps it.
use Rattle.std.specs.Prelude.{string_bytes}
use Rattle.htmd_shown.specs.Spaces as value
use Rattle.htmd_shown.specs.declared.spaces.Gap.{Gap}

abbrev pub gap_of : Gap → value.Gap
gap_of g = record { white = string_bytes g.white; has_break = g.has_break; is_code = g.is_code }
