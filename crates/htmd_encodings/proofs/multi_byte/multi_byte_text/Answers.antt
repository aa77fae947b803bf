-- One sequence more.
use Rattle.std.proofs.Common.{arith}
use Rattle.htmd_encodings.proofs.SequencesLemmas.{sequences_more}
use Rattle.htmd_encodings.specs.MultiByte.{sequence_of}
use Rattle.htmd_encodings.proofs.multi_byte.multi_byte_text.Goals as goal

pub loop-rest-preserved : goal.loop-rest-preserved
loop-rest-preserved c =
    sequences_more (sequence_of c.args.encoding) c.loop-rest.rest.now _ _ _ _ c.sequence_of-sequence.result
    (omega arith) c.sequence_of-sequence.ensures c.in_ok-push_characters.ensures c.after-rest.ensures
    c.loop-rest.invariant
