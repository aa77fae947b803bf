use Rattle.std.proofs.Common.{◌≡◌, ◌++◌, map}
use Rattle.htmd_document.specs.DocumentViews.{block_of}
use Rattle.htmd_chunks.specs.ChunkViews.{filling_of}
use Rattle.htmd_chunks.proofs.filling.Filling.push_blocks.Given as goal

abbrev pub invariant-loop-block : goal.invariant-loop-block
invariant-loop-block l = record {
  filling : filling_of l.self ≡ record (filling_of l.initial.self) {
    now = (filling_of l.initial.self).now ++ map block_of l.yielded;
  };
  limits : l.self.limits ≡ l.initial.self.limits;
}
