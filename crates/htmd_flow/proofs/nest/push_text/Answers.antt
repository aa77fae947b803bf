-- What is left to prove of `push_text`.
use Rattle.std.proofs.Common.{◌∙◌, ◌++◌, ap}
use Rattle.htmd_document.specs.Documents as value
use Rattle.htmd_flow.proofs.NestLemmas.{inlines-pushed, inline-text}
use Rattle.htmd_flow.proofs.nest.push_text.Goals as goal

pub returns : goal.returns
returns c = inlines-pushed _ _ _ _ c.in_ok-push.ensures.items
    (inline-text c.push_str.new.self ∙ ap value.text (c.in_ok-push_str.ensures.bytes
    ∙ ap (λ s. s ++ c.args.text.now) c.in_ok-copy.ensures.bytes))
