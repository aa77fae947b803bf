-- One more part is put.
use Rattle.std.proofs.Common.{◌≡◌, ◌==◌, false, length}
use Rattle.htmd_html5.proofs.TextsLemmas.{put_more, rest_shorter, some_left}
use Rattle.htmd_html5.specs.Texts.{put_text}
use Rattle.htmd_html5.proofs.texts.put_parts.Goals as goal

pub loop-rest-smaller : goal.loop-rest-smaller
loop-rest-smaller c =
    let more : (length c.loop-rest.rest.now == 0) ≡ false = cc in
    rest_shorter c.loop-rest.rest.now c.in_ok-rest.rest.now c.loop-rest.state c.take_part.new.state
    (some_left c.loop-rest.rest.now more) c.in_ok-rest.ensures.value

pub loop-rest-preserved : goal.loop-rest-preserved
loop-rest-preserved c =
    let more : (length c.loop-rest.rest.now == 0) ≡ false = cc in
    record {
      text = c.in_ok-rest.ensures.text;
      reads = put_more c.loop-rest.rest.now c.in_ok-rest.rest.now c.loop-rest.state c.take_part.new.state
          (put_text c.args.text.now c.args.state.now) (some_left c.loop-rest.rest.now more)
          c.in_ok-rest.ensures.value c.loop-rest.invariant.reads;
    }
