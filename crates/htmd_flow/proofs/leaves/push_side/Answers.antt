-- An edge, or a space.
use Rattle.std.proofs.Common.{◌∙◌, ◌∷◌, [], cond, sym, ap}
use Rattle.htmd_lexical.specs.Characters.{space}
use Rattle.htmd_flow.specs.Contexts.{run_in}
use Rattle.htmd_flow.specs.FlowViews.{context_in}
use Rattle.htmd_flow.specs.ParagraphViews.{writing_in}
use Rattle.htmd_flow.specs.Paragraphs.{fed}
use Rattle.htmd_flow.specs.Parts.{edge}
use Rattle.htmd_flow.proofs.FeedLemmas.{on_ok}
use Rattle.htmd_flow.proofs.leaves.push_side.Goals as goal

pub returns-then-place : goal.returns-then-place
returns-then-place c = on_ok c.run.result c.run.ensures (λ e. e
    ∙ ap (λ b. fed (writing_in c.args.out.now)
    (cond b (run_in (context_in c.args.place.now c.args.around.now) (space ∷ [])) edge)) (sym c.if-place.true))

pub returns : goal.returns
returns c = on_ok c.edge.result c.edge.ensures (λ e. e
    ∙ ap (λ b. fed (writing_in c.args.out.now)
    (cond b (run_in (context_in c.args.place.now c.args.around.now) (space ∷ [])) edge)) (sym c.if-place.false))
