-- One more part, and all.
use Rattle.std.proofs.Common.{◌∙◌, ap, arith, false, []}
use Rattle.htmd_parts.specs.PartViews.{all_parts_of}
use Rattle.htmd_parts.specs.Machine.{page, page_of, with_parts}
use Rattle.htmd_parts.proofs.StepLemmas.{parts-turn, parts-end}
use Rattle.htmd_parts.proofs.RunLemmas.{whole}
use Rattle.htmd_parts.proofs.html.to_html.Goals as goal

pub loop-part-preserved : goal.loop-part-preserved
loop-part-preserved c = record {
  rest = parts-turn c.args.parts.now c.loop-part.part-index c.part-item.result (page_of c.loop-part.writer)
      (page_of c.push_part.new.self) _ c.loop-part-test.true c.part-item.is c.in_ok-push_part.ensures.page
      c.loop-part.invariant.rest;
  few = omega (arith, c.in_ok-push_part.ensures.few, c.loop-part.invariant.few);
}

pub returns : goal.returns
returns c = record {
  ok = λ bs e.
      ap (λ p. p.html) (parts-end c.args.parts.now c.loop-part.part-index (page_of c.loop-part.writer) _
      c.loop-part-test.false c.loop-part.invariant.rest)
      ∙ (ap (λ s. (with_parts (page s false 0) (all_parts_of c.args.parts.now)).html) c.new.ensures.bytes
      ∙ (ap (λ ps. (with_parts (page [] false 0) ps).html) e ∙ whole bs));
}
