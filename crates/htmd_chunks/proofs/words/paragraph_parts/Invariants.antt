-- The parts so far, and the words that are left.
use Rattle.std.proofs.Common.{◌≡◌, drop, map, take}
use Rattle.std.specs.Vec.Iter.{into_iter_items}
use Rattle.htmd_document.specs.Documents as value
use Rattle.htmd_document.specs.DocumentViews.{block_of, inlines_of}
use Rattle.htmd_chunks.specs.Runs.{together}
use Rattle.htmd_chunks.specs.Words.{put_together}
use Rattle.htmd_chunks.specs.WordViews.{words_in}
use Rattle.htmd_chunks.proofs.UnitPartsLemmas.{word_parts}
use Rattle.htmd_chunks.proofs.words.paragraph_parts.Given as goal

abbrev pub invariant-loop-count : goal.invariant-loop-count
invariant-loop-count l =
    let all = word_parts l.bounds l.fn.margin l.fn.first (inlines_of l.content) in
    record {
      parts : map block_of l.parts.items
          ≡ map (λ words. value.paragraph (value.inlines_of (put_together words))) (take l.count-index all);
      rest : words_in (into_iter_items l.words) ≡ together (drop l.count-index all);
    }
