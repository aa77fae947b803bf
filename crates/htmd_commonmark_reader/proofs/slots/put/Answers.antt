-- The first place, and one more.
use Rattle.std.proofs.Common.{arith}
use Rattle.htmd_commonmark_reader.specs.declared.slots.Slot.TheVariants as slot
use Rattle.htmd_commonmark_reader.proofs.SlotsLemmas.{put_begin, put_more}
use Rattle.htmd_commonmark_reader.proofs.slots.put.Goals as goal

pub loop-place-init : goal.loop-place-init
loop-place-init c = put_begin c.args.slots.now c.args.from c.args.first slot.Nothing (omega arith)

pub loop-place-preserved : goal.loop-place-preserved
loop-place-preserved c =
    put_more c.args.slots.now c.loop-place.slots c.args.from c.loop-place.place c.args.first slot.Nothing
    (omega arith) (omega arith) c.loop-place.invariant
