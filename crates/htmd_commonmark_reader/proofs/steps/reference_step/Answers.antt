-- A reference, or a sign.
use Rattle.std.proofs.Common.{[], ◌∷◌, refl}
use Rattle.htmd_commonmark_reading.specs.DelimiterRuns.{finished}
use Rattle.htmd_commonmark_reading.specs.Markup.{no_inlines, letters}
use Rattle.htmd_commonmark_reader.specs.Pieces.{meaning_of, piece_of}
use Rattle.htmd_commonmark_reader.proofs.JoinedLemmas.{letters_parts}
use Rattle.htmd_commonmark_reader.proofs.PiecesLemmas.{reference_cut}
use Rattle.htmd_commonmark_reader.proofs.StepKindsLemmas.{reference_found, reference_missing}
use Rattle.htmd_commonmark_reader.proofs.steps.reference_step.Goals as goal

pub range_from-requires : goal.range_from-requires
range_from-requires c = λ _.
    let found = rw c.as_bytes.ensures.value at c.in-Some.ensures in
    reference_cut c.args.after.now (meaning_of c.in-Some.piece.meaning) c.in-Some.piece.following c.utf8.after found

pub returns-in_ok-push_slot-in-Some : goal.returns-in_ok-push_slot-in-Some
returns-in_ok-push_slot-in-Some c = λ b h.
    let found = rw c.as_bytes.ensures.value at c.in-Some.ensures in
    let p = piece_of c.in-Some.piece in
    let x = letters p.meaning no_inlines in
    reference_found b c.args.after.now c.range_from.result.now p c.push_slot.new.scan found
    c.range_from.ensures.value
    (c.in_ok-push_slot-in-Some.ensures b (finished x ∷ []) x h (λ t. refl) (letters_parts p.meaning))

pub returns-in_ok-push_slot-in-None : goal.returns-in_ok-push_slot-in-None
returns-in_ok-push_slot-in-None c = λ b h.
    let missing = rw c.as_bytes.ensures.value at c.in-None.ensures in
    let x = letters (38 ∷ []) no_inlines in
    reference_missing b c.args.after.now c.push_slot-in-None.new.scan missing
    (c.in_ok-push_slot-in-None.ensures b (finished x ∷ []) x h (λ t. refl) refl)
