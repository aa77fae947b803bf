-- How much room a text takes in a piece: its bytes, and what containers add to each of its lines.
use Rattle.std.specs.Prelude.{ℕ, ◌+◌, ◌*◌, Bool, not, if◌then◌else◌, List, length}
use Rattle.std.specs.List.{count_by, slice_split}
use Rattle.htmd_lexical.specs.CharacterClasses.{is_empty}
use Rattle.htmd_text.specs.Trims.{is_line_feed}
use Rattle.htmd_chunks.specs.declared.size.Size.{Size}
use Rattle.htmd_chunks.specs.declared.size.Margin.{Margin}

abbrev pub nothing : Size
nothing = record { bytes = 0; full = 0; empty = 0 }

-- of what stands one after the other
abbrev pub plus : Size → Size → Size
plus a b = record { bytes = a.bytes + b.bytes; full = a.full + b.full; empty = a.empty + b.empty }

-- the bytes, the lines with something in them, and the empty ones
abbrev pub text_size : List ℕ → Size
text_size s =
    let lines = slice_split is_line_feed s in
    record { bytes = length s; full = count_by (λ line. not (is_empty line)) lines; empty = count_by is_empty lines }

-- between tight blocks a line's end, between others an empty line too
abbrev pub gap_size : Bool → Size
gap_size is_tight =
    if is_tight then record { bytes = 1; full = 0; empty = 0 } else record { bytes = 2; full = 0; empty = 1 }

-- in a quote two bytes stand before a line, and one before an empty one, which is then none
abbrev pub quoted_size : Size → Size
quoted_size s = record { bytes = s.bytes + 2 * s.full + s.empty; full = s.full + s.empty; empty = 0 }

-- in an item this many stand before each line that isn't empty
abbrev pub indented_size : ℕ → Size → Size
indented_size width s = record { bytes = s.bytes + width * s.full; full = s.full; empty = s.empty }

-- ---- what stands before the lines of a piece

abbrev pub no_margin : Margin
no_margin = record { full = 0; empty = 0 }

abbrev pub in_quote : Margin → Margin
in_quote m = record { full = m.full + 2; empty = m.full + 1 }

abbrev pub in_item : ℕ → Margin → Margin
in_item width m = record { full = m.full + width; empty = m.empty }

-- the bytes of a text of this size behind the margin
abbrev pub cost : Margin → Size → ℕ
cost m s = s.bytes + s.full * m.full + s.empty * m.empty
