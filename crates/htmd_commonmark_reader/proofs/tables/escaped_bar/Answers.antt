-- A backslash before a bar, or none here.
use Rattle.std.proofs.Common.{◌∙◌, ◌++◌, take, length, sym, ap, arith}
use Rattle.std.proofs.lemmas.Slice.{between_to_end}
use Rattle.htmd_commonmark_reader.specs.Rows.{escapes_bar}
use Rattle.htmd_commonmark_reader.proofs.RowsLemmas.{unescaped_more, escaped_here}
use Rattle.htmd_commonmark_reader.proofs.tables.escaped_bar.Goals as goal

pub loop-at-preserved : goal.loop-at-preserved
loop-at-preserved c =
    let s = c.args.bytes.now in
    let i = c.loop-at.at in
    let here = ap escapes_bar (sym (between_to_end s i (length s) (omega arith)))
    ∙ sym c.escapes_bar.ensures ∙ c.if-escapes_bar.false in
    sym (unescaped_more s i c.loop-at-test.true here) ∙ c.loop-at.invariant

pub returns-then-escapes_bar-clause-value : goal.returns-then-escapes_bar-clause-value
returns-then-escapes_bar-clause-value c =
    let s = c.args.bytes.now in
    let i = c.loop-at.at in
    let here = ap escapes_bar (sym (between_to_end s i (length s) (omega arith)))
    ∙ sym c.escapes_bar.ensures ∙ c.if-escapes_bar.true in
    sym c.loop-at.invariant ∙ ap (λ t. take i s ++ t) ((escaped_here s i c.loop-at-test.true here).0)
