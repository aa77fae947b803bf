-- The words so far, and those that are left.
use Rattle.std.proofs.Common.{◌≡◌, drop, map, take}
use Rattle.std.specs.Vec.Iter.{into_iter_items}
use Rattle.htmd_document.specs.DocumentViews.{inline_of}
use Rattle.htmd_chunks.specs.Words.{put_together}
use Rattle.htmd_chunks.specs.WordViews.{words_in}
use Rattle.htmd_chunks.proofs.words.next_line.Given as goal

abbrev pub invariant-loop-i : goal.invariant-loop-i
invariant-loop-i l = record {
  line : map inline_of l.line.items ≡ put_together (take l.i (words_in (into_iter_items l.initial.words)));
  words : into_iter_items l.words ≡ drop l.i (into_iter_items l.initial.words);
}
