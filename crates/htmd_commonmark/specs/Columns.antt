-- How many columns a text takes on a screen where all characters have the same width.
use Rattle.std.specs.Prelude.{ℕ, ◌==◌, if◌then◌else◌, List}
use Rattle.std.specs.List.{sum_by}
use Rattle.std.specs.Str.{chars}
use Rattle.unicode.specs.CanonicalCombiningClass.{canonical_combining_class}
use Rattle.unicode.specs.EastAsianWidth.{east_asian_width}
use Rattle.unicode.specs.declared.properties.EastAsianWidth.{EastAsianWidth}
use Rattle.unicode.specs.declared.properties.EastAsianWidth.TheVariants.{Wide, Fullwidth}

-- a character by its East Asian Width (UAX 11)
abbrev pub columns_by : EastAsianWidth → ℕ
columns_by Wide = 2
columns_by Fullwidth = 2
columns_by _ = 1

-- none if it stands on the one before: with a canonical combining class that isn't 0 (Unicode, 3.11)
abbrev pub columns_of : ℕ → ℕ
columns_of c = if canonical_combining_class c == 0 then columns_by (east_asian_width c) else 0

abbrev pub width_of : List ℕ → ℕ
width_of s = sum_by columns_of (chars s)
