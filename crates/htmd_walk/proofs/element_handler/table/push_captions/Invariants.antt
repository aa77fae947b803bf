use Rattle.std.proofs.Common.{◌≡◌, ◌++◌, take, map, string_bytes}
use Rattle.std.specs.List.{flat_map}
use Rattle.htmd_walk.specs.Tables.{with_line_end}
use Rattle.htmd_walk.proofs.element_handler.table.push_captions.Given as goal

abbrev pub invariant-loop-caption : goal.invariant-loop-caption
invariant-loop-caption l =
    string_bytes l.out ≡ string_bytes l.initial.out
    ++ flat_map with_line_end (map (λ text. string_bytes text) (take l.caption-index l.captions))
