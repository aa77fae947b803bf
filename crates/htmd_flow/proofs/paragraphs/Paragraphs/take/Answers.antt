-- The paragraph is taken, with the anchors after it.
use Rattle.std.proofs.Common.{◌∙◌}
use Rattle.htmd_flow.specs.ParagraphViews.{writing_in}
use Rattle.htmd_flow.proofs.FeedLemmas.{if_ok}
use Rattle.htmd_flow.proofs.ParagraphsLemmas.{IfOk-two, taken_content, taken_rest, taken_of}
use Rattle.htmd_flow.proofs.paragraphs.Paragraphs.take.Goals as goal

pub returns-clause-content : goal.returns-clause-content
returns-clause-content c =
    if_ok c.take.result _ _ c.take.ensures.inlines (λ xs e.
    taken_content (writing_in c.args.self.now) (writing_in c.forget_task.new.self) _ c.forget_task.ensures
    (e ∙ c.in_ok-push_anchors.ensures.put.content))

pub returns-clause-rest : goal.returns-clause-rest
returns-clause-rest c =
    IfOk-two c.take.result _ _ _ (λ xs none frames.
    taken_rest (writing_in c.args.self.now) (writing_in c.forget_task.new.self) (writing_in c.push_anchors.new.self) _ _
    c.forget_task.ensures c.in_ok-push_anchors.ensures.put c.in_ok-push_anchors.ensures.anchors
    c.in_ok-push_anchors.ensures.rest
    (taken_of (writing_in c.push_anchors.new.self) _ _ none frames)) c.take.ensures.nothing c.take.ensures.wrappers
