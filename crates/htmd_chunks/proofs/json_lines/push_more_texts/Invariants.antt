-- The texts that are left.
use Rattle.std.proofs.Common.{◌≡◌, ◌++◌, map, drop, string_bytes}
use Rattle.htmd_chunks.specs.ChunkLines.{more_texts}
use Rattle.htmd_chunks.proofs.json_lines.push_more_texts.Given as goal

abbrev pub invariant-loop-text : goal.invariant-loop-text
invariant-loop-text l =
    string_bytes l.initial.out ++ more_texts (map string_bytes l.texts)
    ≡ string_bytes l.out ++ more_texts (map string_bytes (drop l.text-index l.texts))
