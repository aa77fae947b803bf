-- One opener more doesn't fit, or all that an earlier search has passed.
use Rattle.std.proofs.Common.{◌∙◌, sym, arith}
use Rattle.htmd_commonmark_reader.specs.Runs.{run_of}
use Rattle.htmd_commonmark_reader.proofs.OpenersLemmas.{passed_searched, passed_one}
use Rattle.htmd_commonmark_reader.proofs.emphasis.nearest.Goals as goal

pub loop-count-preserved-then-searched-count : goal.loop-count-preserved-then-searched-count
loop-count-preserved-then-searched-count c = record {
  within = omega arith;
  passed = passed_searched (run_of c.args.closing.now) c.args.openers.now c.args.searched.index
      c.args.searched.place c.loop-count.count _ c.requires.ordered c.requires.searched
      c.loop-count.invariant.passed c.loop-count-test.true c.loop-count.invariant.within c.if-opener-searched.true;
}

pub loop-count-preserved : goal.loop-count-preserved
loop-count-preserved c = record {
  within = omega arith;
  passed = passed_one (run_of c.args.closing.now) c.args.openers.now c.loop-count.count _
      c.loop-count.invariant.passed c.loop-count-test.true c.loop-count.invariant.within
      (sym c.is_closed_by.ensures ∙ c.if-is_closed_by.false);
}
