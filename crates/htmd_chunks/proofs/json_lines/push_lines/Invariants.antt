-- The lines that are left.
use Rattle.std.proofs.Common.{◌≡◌, ◌++◌, map, drop, string_bytes}
use Rattle.htmd_chunks.specs.ChunkViews.{piece_of}
use Rattle.htmd_chunks.specs.ChunkLines.{lines_from}
use Rattle.htmd_chunks.proofs.json_lines.push_lines.Given as goal

abbrev pub invariant-loop-n : goal.invariant-loop-n
invariant-loop-n l =
    string_bytes l.initial.out ++ lines_from l.options l.begin 0 (map piece_of l.pieces)
    ≡ string_bytes l.out ++ lines_from l.options l.begin l.n (map piece_of (drop l.n l.pieces))
