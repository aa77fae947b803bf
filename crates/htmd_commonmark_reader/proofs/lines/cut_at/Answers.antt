-- White space is ASCII, and each character of it is cut, whole or in two.
use Rattle.std.proofs.Common.{◌≡◌, ◌∙◌, ◌+◌, ◌-◌, ◌<◌, length, drop, get_or, refl, sym, ap, arith}
use Rattle.std.proofs.lemmas.Str.{IsCharBoundary-start, IsCharBoundary-after_ascii}
use Rattle.htmd_commonmark_reading.specs.Lines.{cut_at}
use Rattle.htmd_commonmark_reader.specs.LineViews.{columns_at}
use Rattle.htmd_commonmark_reader.proofs.LinesLemmas.{columns_ascii, columns_small, cut_next}
use Rattle.htmd_commonmark_reader.proofs.lines.cut_at.Goals as goal

pub loop-at-init : goal.loop-at-init
loop-at-init c = record {
  few = omega arith;
  same = refl;
  cut = IsCharBoundary-start c.args.text.now c.utf8.text;
}

pub range_from-requires-then-columns-left : goal.range_from-requires-then-columns-left
range_from-requires-then-columns-left c = λ _.
    let s = c.args.text.now in
    let i = c.loop-at.at in
    let size = rw c.as_bytes-bytes.ensures.value at c.columns_at-columns.ensures in
    let within : i < length s = omega (arith, c.loop-at-test.true, ap length c.as_bytes-bytes.ensures.value) in
    IsCharBoundary-after_ascii s i c.utf8.text within
    (columns_ascii c.loop-at.place (get_or s i 0) (omega (arith, size, c.if-columns-eq0.false)))

pub loop-at-preserved : goal.loop-at-preserved
loop-at-preserved c =
    let s = c.args.text.now in
    let i = c.loop-at.at in
    let k = c.loop-at.place in
    let n = c.loop-at.left in
    let size : c.columns_at-columns.result ≡ columns_at k (get_or s i 0) =
    rw c.as_bytes-bytes.ensures.value at c.columns_at-columns.ensures in
    let within : i < length s = omega (arith, c.loop-at-test.true, ap length c.as_bytes-bytes.ensures.value) in
    let some : 0 < columns_at k (get_or s i 0) = omega (arith, size, c.if-columns-eq0.false) in
    let next = cut_next k n s i within some (omega (arith, size, c.if-columns-left.false)) in
    record {
      few = omega (arith, size, columns_small k (get_or s i 0), c.loop-at.invariant.few);
      same = ap (λ j. cut_at (k + j) (n - j) (drop (i + 1) s)) size ∙ sym next ∙ c.loop-at.invariant.same;
      cut = IsCharBoundary-after_ascii s i c.utf8.text within (columns_ascii k (get_or s i 0) some);
    }
