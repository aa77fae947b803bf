use Rattle.std.proofs.Common.{◌≡◌, take, drop}
use Rattle.std.specs.Vec.Iter.{into_iter_items}
use Rattle.htmd_chunks.proofs.pieces.next_blocks.Given as goal

abbrev pub invariant-loop-i : goal.invariant-loop-i
invariant-loop-i l = record {
  taken : l.blocks.items ≡ take l._i (into_iter_items l.initial.rest);
  rest : into_iter_items l.rest ≡ drop l._i (into_iter_items l.initial.rest);
}
