-- After a backslash a text may be cut.
use Rattle.std.proofs.Common.{arith}
use Rattle.std.proofs.lemmas.Str.{IsCharBoundary-after_ascii}
use Rattle.htmd_commonmark_reader.proofs.tables.with_bars.Goals as goal

pub range_from-rest-requires : goal.range_from-rest-requires
range_from-rest-requires c = λ _.
    let place = rw c.as_bytes.ensures.value at c.in-Some.ensures.place in
    let sign = rw c.as_bytes.ensures.value at c.in-Some.ensures.sign in
    IsCharBoundary-after_ascii c.loop-at.rest.now c.in-Some.at c.loop-at.invariant.text place (omega (arith, sign))
