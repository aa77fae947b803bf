-- One sequence more.
use Rattle.std.proofs.Common.{arith}
use Rattle.htmd_encodings.proofs.SequencesLemmas.{steps_more}
use Rattle.htmd_encodings.proofs.iso_2022_jp.iso_2022_jp_text.Goals as goal

pub loop-rest-preserved : goal.loop-rest-preserved
loop-rest-preserved c =
    steps_more c.loop-rest.mode c.loop-rest.is_escaped c.loop-rest.rest.now _ _ _ _ c.step_of-step.result
    (omega arith) c.step_of-step.ensures c.in_ok-push_characters.ensures c.after-rest.ensures
    c.loop-rest.invariant
