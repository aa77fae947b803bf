-- What is left to prove of `push_text`.
use Rattle.std.proofs.Common.{◌∙◌, ap}
use Rattle.std.proofs.lemmas.Result.{IfOk-weaker}
use Rattle.htmd_flow.specs.Nesting.{text_or_code}
use Rattle.htmd_flow.specs.NestViews.{frames_of, within}
use Rattle.htmd_flow.proofs.nest.Nest.push_text.Goals as goal

pub returns-clause-inlines : goal.returns-clause-inlines
returns-clause-inlines c = IfOk-weaker c.join.result _ _
    (λ _ e. ap (within (frames_of c.reach.new.self)) e
    ∙ c.in_ok-reach.ensures.place (text_or_code c.args.is_code c.args.text.now))
    c.join.ensures
