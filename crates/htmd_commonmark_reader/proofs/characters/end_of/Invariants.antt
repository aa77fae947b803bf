-- What is cut so far passes.
use Rattle.std.proofs.Common.{◌≡◌, ◌≤◌, length, take}
use Rattle.std.specs.Str.{IsCharBoundary}
use Rattle.htmd_commonmark_reading.specs.Characters.{stripped_end}
use Rattle.htmd_commonmark_reader.specs.Ends.{IsOfAscii}
use Rattle.htmd_commonmark_reader.proofs.characters.end_of.Given as goal

abbrev pub invariant-loop-end : goal.invariant-loop-end
invariant-loop-end g l = record {
  within : l.end ≤ length l.bytes;
  same : stripped_end (g.C.ByteClass.bytes l.class) (take l.end l.bytes)
      ≡ stripped_end (g.C.ByteClass.bytes l.class) l.bytes;
  cut : IsOfAscii (g.C.ByteClass.bytes l.class) → IsCharBoundary l.bytes l.end;
}

abbrev pub decreases-loop-end : goal.decreases-loop-end
decreases-loop-end g l = l.end
