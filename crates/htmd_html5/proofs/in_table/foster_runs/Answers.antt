-- One more run stands before the table.
use Rattle.std.proofs.Common.{◌≡◌, ◌==◌, false, length}
use Rattle.htmd_html5.proofs.InTableLemmas.{foster_more}
use Rattle.htmd_html5.proofs.TextsLemmas.{run_shorter, some_left}
use Rattle.htmd_html5.specs.InTable.{foster_runs}
use Rattle.htmd_html5.proofs.in_table.foster_runs.Goals as goal

pub loop-rest-smaller : goal.loop-rest-smaller
loop-rest-smaller c =
    let more : (length c.loop-rest.rest.now == 0) ≡ false = cc in
    run_shorter c.loop-rest.rest.now c.split_run-split.result.rest.now more c.split_run-split.ensures.rest

pub loop-rest-preserved : goal.loop-rest-preserved
loop-rest-preserved c =
    let more : (length c.loop-rest.rest.now == 0) ≡ false = cc in
    let split = c.split_run-split.ensures in
    record {
      text = split.text;
      reads = foster_more c.loop-rest.rest.now c.split_run-split.result.run.now c.split_run-split.result.rest.now
          c.split_run-split.result.kind c.loop-rest.state c.foster_run.new.state
          (foster_runs (length c.args.text.now) c.args.text.now c.args.state.now)
          (some_left c.loop-rest.rest.now more) split.kind split.run split.rest c.in_ok-foster_run.ensures
          c.loop-rest.invariant.reads;
    }
