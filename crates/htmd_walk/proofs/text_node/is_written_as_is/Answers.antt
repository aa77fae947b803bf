use Rattle.std.proofs.Common.{◌∙◌, ap, sym, false}
use Rattle.htmd_walk.specs.UnescapedTexts.{begins_literal, stays_literal}
use Rattle.htmd_walk.proofs.UnescapedTextsLemmas.{plain_written}
use Rattle.htmd_walk.proofs.text_node.is_written_as_is.Goals as goal

pub returns-then-begins_literal : goal.returns-then-begins_literal
returns-then-begins_literal c = λ stays goes.
    plain_written goes c.args.text.now
    (sym (c.begins_literal.ensures ∙ ap begins_literal c.as_bytes.ensures.value) ∙ c.if-begins_literal.true)
    (sym (c.stays_literal.ensures ∙ ap (stays_literal false) c.as_bytes-then-begins_literal.ensures.value) ∙ stays)
