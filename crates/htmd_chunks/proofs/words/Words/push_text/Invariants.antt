-- The words that are done, the one that is begun, and the parts of the text to come.
use Rattle.std.proofs.Common.{map, ◌++◌, []}
use Rattle.std.specs.Str.{IsCharBoundary}
use Rattle.htmd_document.specs.DocumentViews.{inline_of}
use Rattle.htmd_chunks.specs.Words.{cut_text, ended, begun}
use Rattle.htmd_chunks.specs.WordViews.{words_in}
use Rattle.htmd_chunks.proofs.CutTextsLemmas.{Cutting}
use Rattle.htmd_chunks.proofs.words.Words.push_text.Given as goal

abbrev pub invariant-loop-i : goal.invariant-loop-i
invariant-loop-i l =
    let word = map inline_of l.initial.self.now.items in
    let parts = cut_text l.initial.before l.behind [] l.text in
    record {
      cutting : Cutting l.behind l.text (words_in l.initial.self.done.items ++ ended word parts) (begun word parts)
          (words_in l.self.done.items) (map inline_of l.self.now.items) l.before l.from l.i;
      boundary : IsCharBoundary l.text l.from;
    }
