use Rattle.std.proofs.Common.{string_bytes}
use Rattle.htmd_chunks.proofs.ChunkLinesLemmas.{line_more}
use Rattle.htmd_chunks.proofs.json_lines.push_lines.Goals as goal

pub loop-n-preserved : goal.loop-n-preserved
loop-n-preserved c =
    line_more c.args.options.now c.args.begin.now c.args.pieces.now c.loop-n.n c.index-pieces-n.result _
    (string_bytes c.loop-n.out) (string_bytes c.push_line.new.out) c.loop-n-test.true c.index-pieces-n.is
    c.loop-n.invariant c.in_ok-push_line.ensures
