-- How deep documents nest, and where the numbers of lists end.
use Rattle.std.specs.Prelude.{ℕ}

abbrev pub greatest_start : ℕ
greatest_start = 999999999

-- lists and quotes in each other
abbrev pub most_nested : ℕ
most_nested = 32

-- what stands above or below the line, in each other
abbrev pub most_raised : ℕ
most_raised = 8
