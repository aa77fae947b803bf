-- One more name, which was met before or wasn't.
use Rattle.std.proofs.Common.{◌∙◌, ◌+◌, ◌++◌, drop, ap, arith}
use Rattle.htmd_lexical.specs.Attributes.{pairs_of}
use Rattle.htmd_html5_tokens.specs.Firsts.{are_first}
use Rattle.htmd_html5_tokens.proofs.FirstsLemmas.{marks_more}
use Rattle.htmd_html5_tokens.proofs.distinct.first_marks.Goals as goal

pub loop-attribute-preserved : goal.loop-attribute-preserved
loop-attribute-preserved c =
    let more = marks_more c.args.attributes.now c.loop-attribute.attribute-index c.attribute-item.result
    c.attribute-item.result c.loop-attribute.marks.items c.in_ok-is_new.is_new c.loop-attribute.invariant.0
    c.loop-attribute.names c.insert.new.self c.as_str.result (omega arith) c.attribute-item.is
    c.as_str.ensures.value c.in_ok-is_new.ensures.added c.in_ok-is_new.ensures.updates
    c.loop-attribute.invariant.1 c.loop-attribute.invariant.2 in (
      more.0,
      more.1,
      ap (λ x. x ++ are_first more.0 (pairs_of (drop (c.loop-attribute.attribute-index + 1) c.args.attributes.now)))
          c.in_ok-push.ensures.items
          ∙ more.2,
    )
