-- The first word, or one more.
use Rattle.std.proofs.Common.{◌+◌, [], length, map, take, refl, sym, ap, ◌∙◌, arith}
use Rattle.std.specs.Vec.Iter.{into_iter_items}
use Rattle.std.proofs.lemmas.List.{length-drop}
use Rattle.htmd_document.specs.DocumentViews.{inline_of}
use Rattle.htmd_chunks.specs.Words.{with_word}
use Rattle.htmd_chunks.specs.WordViews.{word_of}
use Rattle.htmd_chunks.proofs.CountsLemmas.{next-taken, none-taken}
use Rattle.htmd_chunks.proofs.WordStepsLemmas.{words-taken, first-taken, more-taken}
use Rattle.htmd_chunks.proofs.words.next_line.Goals.{in-Some+then-i-eq0, in-Some+else-i-eq0+in_ok-push_word, in_default}
use Rattle.htmd_chunks.proofs.words.next_line.Goals as goal

pub loop-i-preserved : goal.loop-i-preserved
loop-i-preserved c =
    let all = into_iter_items c.args.words.now in
    let old = into_iter_items c.loop-i.words in
    let new = into_iter_items c.next.new.self in
    let i = c.loop-i.i in
    let was = c.loop-i.invariant in
    elim c.match-next.branch [
      | in-Some+then-i-eq0 w ↦
          let both = next-taken all (take i all) old new i w.in-Some.word refl was.words w.in-Some.ensures.items in
          record {
            line = ap (λ v. map inline_of v.items) w.line-is
                ∙ first-taken all i w.in-Some.word w.if-i-eq0.true both.0;
            words = both.1;
          }
      | in-Some+else-i-eq0+in_ok-push_word w ↦
          let both = next-taken all (take i all) old new i w.in-Some.word refl was.words w.in-Some.ensures.items in
          record {
            line =
                ap (λ v. map inline_of v.items) w.line-is ∙ w.in_ok-push_word.ensures
                ∙ ap (λ l. with_word l (word_of w.in-Some.word)) was.line
                ∙ more-taken all i w.in-Some.word (omega arith)
                (omega (arith, length-drop i all, ap (λ l. length l) (sym was.words ∙ w.in-Some.ensures.items)))
                both.0;
            words = both.1;
          }
      | in_default w ↦
          let both = none-taken all (take i all) old new i refl was.words
          (sym c.loop-i.words.rest.ok.0 ∙ w.in_default.ensures.cases.0) w.in_default.ensures.items in
          record {
            line = ap (λ v. map inline_of v.items) w.line-is ∙ was.line ∙ words-taken all i both.0;
            words = both.1;
          }
    ]
