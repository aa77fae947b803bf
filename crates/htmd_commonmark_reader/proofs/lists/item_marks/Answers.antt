-- One more block before those that are known.
use Rattle.std.proofs.Common.{arith, ◌-◌}
use Rattle.htmd_commonmark_reader.specs.ItemMarks.{survey_of}
use Rattle.htmd_commonmark_reader.proofs.ItemMarksLemmas.{survey-step}
use Rattle.htmd_commonmark_reader.proofs.lists.item_marks.Goals as goal

pub loop-count-preserved : goal.loop-count-preserved
loop-count-preserved c =
    let count = c.loop-count.count in
    record {
      within = omega (arith, c.loop-count.invariant.within);
      known = survey-step c.args.blocks.now (count - 1) count c.index-blocks-count.result
          (survey_of c.loop-count.survey) (survey_of c.push.new.self)
          (omega (arith, c.loop-count.invariant.within, c.loop-count-test.true)) (omega (arith, c.loop-count-test.true))
          c.index-blocks-count.is c.loop-count.invariant.known
          c.in_ok-push.ensures;
    }
