-- One more run is kept.
use Rattle.std.proofs.Common.{◌≡◌, ◌==◌, false, length}
use Rattle.std.specs.String.{string_bytes}
use Rattle.htmd_html5.proofs.InTableLemmas.{kept_more}
use Rattle.htmd_html5.proofs.TextsLemmas.{run_shorter}
use Rattle.htmd_html5.specs.InTable.{without_nulls}
use Rattle.htmd_html5.proofs.in_table.without_nulls.Goals as goal

pub loop-rest-smaller : goal.loop-rest-smaller
loop-rest-smaller c =
    let more : (length c.loop-rest.rest.now == 0) ≡ false = cc in
    run_shorter c.loop-rest.rest.now c.split_run-split.result.rest.now more c.split_run-split.ensures.rest

pub loop-rest-preserved : goal.loop-rest-preserved
loop-rest-preserved c =
    let split = c.split_run-split.ensures in
    record {
      text = split.text;
      reads = kept_more (string_bytes c.loop-rest.kept) (string_bytes c.push_unless_nulls.new.kept)
          c.loop-rest.rest.now c.split_run-split.result.run.now c.split_run-split.result.rest.now
          (without_nulls c.args.text.now) c.split_run-split.result.kind split.kind split.run split.rest
          c.in_ok-push_unless_nulls.ensures c.loop-rest.invariant.reads;
    }
