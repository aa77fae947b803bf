-- What the reference stands for, and what it leaves.
use Rattle.std.specs.String.{string_bytes}
use Rattle.htmd_commonmark_reader.specs.Pieces.{meaning_of}
use Rattle.htmd_commonmark_reader.proofs.PiecesLemmas.{reference_cut, reference_pushed}
use Rattle.htmd_commonmark_reader.proofs.characters.push_reference.Goals as goal

pub range_from-requires : goal.range_from-requires
range_from-requires c = λ _.
    let found = rw c.as_bytes.ensures.value at c.in-Some.ensures in
    reference_cut c.args.after.now (meaning_of c.in-Some.piece.meaning) c.in-Some.piece.following c.utf8.after found

pub returns-in_ok-push_meaning-in-Some-clause-pushed : goal.returns-in_ok-push_meaning-in-Some-clause-pushed
returns-in_ok-push_meaning-in-Some-clause-pushed c =
    let found = rw c.as_bytes.ensures.value at c.in-Some.ensures in
    reference_pushed c.args.escapes (string_bytes c.args.held.now) c.args.after.now
    (string_bytes c.push_meaning.new.held) c.range_from.result.now (meaning_of c.in-Some.piece.meaning)
    c.in-Some.piece.following found c.in_ok-push_meaning-in-Some.ensures c.range_from.ensures.value
