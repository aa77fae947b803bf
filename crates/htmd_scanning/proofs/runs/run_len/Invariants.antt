-- The run from the front, and what is left of it.
use Rattle.std.proofs.Common.{◌≡◌, ◌+◌, length, drop}
use Rattle.htmd_lexical.specs.CharacterClasses.{leading_run}
use Rattle.htmd_scanning.proofs.runs.run_len.Given as goal

abbrev pub invariant-loop-len : goal.invariant-loop-len
invariant-loop-len g l =
    l.len + length (leading_run (g.C.ByteClass.bytes l.class) (drop l.len l.bytes))
    ≡ length (leading_run (g.C.ByteClass.bytes l.class) l.bytes)
