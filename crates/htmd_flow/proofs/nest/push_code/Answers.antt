-- What is left to prove of `push_code`.
use Rattle.std.proofs.Common.{◌∙◌, ap}
use Rattle.htmd_document.specs.Documents as value
use Rattle.htmd_flow.proofs.NestLemmas.{inlines-pushed}
use Rattle.htmd_document.proofs.ValuesLemmas.{inline-code}
use Rattle.htmd_flow.proofs.nest.push_code.Goals as goal

pub returns : goal.returns
returns c = inlines-pushed _ _ _ _ c.in_ok-push.ensures.items
    (inline-code c.in_ok-from_str.field-0 ∙ ap value.code c.in_ok-from_str.ensures.ok)
