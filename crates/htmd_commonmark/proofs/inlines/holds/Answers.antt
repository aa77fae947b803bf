-- One more place where they don't begin.
use Rattle.std.proofs.Common.{sym, ap, ◌∙◌}
use Rattle.std.specs.Prelude.{nat_eq}
use Rattle.std.specs.List.{starts_with}
use Rattle.std.proofs.lemmas.List.{take_rest}
use Rattle.htmd_commonmark.proofs.InlinesLemmas.{holds-more}
use Rattle.htmd_commonmark.proofs.inlines.holds.Goals as goal

pub loop-i-preserved : goal.loop-i-preserved
loop-i-preserved c =
    holds-more c.args.signs.now c.args.text.now c.loop-i.i c.loop-i-test.true
    (ap (λ l. starts_with nat_eq l c.args.signs.now) (sym (take_rest c.args.text.now c.loop-i.i))
    ∙ sym c.starts_with.ensures.value ∙ c.if-starts_with.false)
    ∙ c.loop-i.invariant
