-- Places in a row: the offset and any number of steps (CSS Syntax Level 3, 6).
use Rattle.std.specs.Prelude.{ℕ, ◌+◌, ◌-◌, ◌%◌, Bool, false, true, ◌&&◌, ◌==◌, nat_le, if◌then◌else◌}
use Rattle.htmd_selectors.specs.declared.series.Series.{Series}

abbrev pub is_multiple : ℕ → ℕ → Bool
is_multiple step n = if step == 0 then n == 0 else n % step == 0

-- a place is the offset and any number of steps; both may go below 0
abbrev pub has_by : Bool → Bool → ℕ → ℕ → ℕ → Bool
has_by false false step offset place = nat_le offset place && is_multiple step (place - offset)
has_by false true step offset place = is_multiple step (place + offset)
has_by true false step offset place = nat_le place offset && is_multiple step (offset - place)
has_by true true step offset place = false

-- places count from 1
abbrev pub has : Series → ℕ → Bool
has series place = has_by series.falls series.is_below series.step series.offset place
