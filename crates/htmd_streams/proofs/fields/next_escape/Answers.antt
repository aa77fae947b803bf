-- One byte more, the first one that is escaped, or the end.
use Rattle.std.proofs.Common.{arith}
use Rattle.htmd_streams.proofs.FieldsLemmas.{written-plain, written-escape, written-whole}
use Rattle.htmd_streams.proofs.fields.next_escape.Goals as goal

pub loop-place-preserved : goal.loop-place-preserved
loop-place-preserved c =
    written-plain c.args.text.now c.loop-place.place (omega arith) c.in_default.ensures c.loop-place.invariant

pub returns-in-Some-clause-parts : goal.returns-in-Some-clause-parts
returns-in-Some-clause-parts c =
    written-escape c.args.text.now c.in-Some.escape.now c.loop-place.place (omega arith) c.in-Some.ensures
    c.loop-place.invariant

pub returns-clause-parts : goal.returns-clause-parts
returns-clause-parts c = written-whole c.args.text.now c.loop-place.place (omega arith) c.loop-place.invariant
