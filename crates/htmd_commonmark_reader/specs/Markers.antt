-- Markers of items, as the reader holds them.
use Rattle.std.specs.Prelude.{ℕ, suc, ◌&&◌, nat_le, if◌then◌else◌, List, length, codes, Option, Some, None}
use Rattle.htmd_lexical.specs.Characters.{is_one_of}
use Rattle.htmd_commonmark_reading.specs.BlockStarts.{digits, number_of, delimiter}
use Rattle.htmd_commonmark_reader.specs.declared.markers.NumberMarker.{NumberMarker}

-- the sign after a number, the number, and how many characters the marker has
pub record Numbered : Type 0 where
  pub sign : ℕ
  pub number : ℕ
  pub size : ℕ

abbrev pub marker_of : NumberMarker → Numbered
marker_of m = record { sign = m.sign; number = m.number; size = m.len }

-- the marker of a numbered item that a text begins with
abbrev pub numbered : List ℕ → Option Numbered
numbered s =
    if nat_le (length (digits s)) 9 && is_one_of (codes ".)") (delimiter s)
    then Some (record { sign = delimiter s; number = number_of s; size = suc (length (digits s)) })
    else None
