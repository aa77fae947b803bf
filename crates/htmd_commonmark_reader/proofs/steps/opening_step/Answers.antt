-- A link may begin.
use Rattle.std.proofs.Common.{refl}
use Rattle.htmd_commonmark_reader.proofs.steps.opening_step.Goals as goal

pub returns : goal.returns
returns c = λ b h. record { stack = c.in_ok-open.ensures b h; behind = refl }
