use Rattle.std.proofs.Common.{arith, string_bytes, []}
use Rattle.htmd_files.proofs.PathsLemmas.{ups_turn}
use Rattle.htmd_files.proofs.places.push_ups.Goals as goal

pub loop-preserved : goal.loop-preserved
loop-preserved c =
    ups_turn c.args.names.now c.loop.index (record { ref_ptr = (0, 0); now = [] }) (string_bytes c.loop.path)
    (string_bytes c.push_str.new.self) _ (omega arith) c.loop.invariant c.in_ok-push_str.ensures.bytes
