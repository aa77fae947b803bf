-- A formula, alone or in a line.
use Rattle.std.proofs.Common.{◌∙◌, ◌∷◌, [], cond, sym, ap}
use Rattle.htmd_flow.specs.Contexts.{apart}
use Rattle.htmd_flow.specs.Flows.{math_block, math_in_line}
use Rattle.htmd_flow.specs.FlowViews.{context_in}
use Rattle.htmd_flow.specs.ParagraphViews.{writing_in}
use Rattle.htmd_flow.specs.Paragraphs.{fed, fed_all}
use Rattle.htmd_flow.specs.Parts.{edge, whole}
use Rattle.htmd_flow.proofs.FeedLemmas.{on_ok}
use Rattle.htmd_flow.proofs.leaves.push_formula.Goals as goal

pub returns-then-not-stands_alone : goal.returns-then-not-stands_alone
returns-then-not-stands_alone c =
    let context = context_in c.args.place.now c.args.around.now in
    on_ok c.push_math.result c.push_math.ensures (λ e. e
    ∙ ap (λ b. fed_all (writing_in c.args.out.now)
    (cond b (apart (whole (math_block c.args.tex.now) ∷ [])) (math_in_line c.args.tex.now context)))
    (sym (sym c.stands_alone.ensures ∙ c.if-not-stands_alone.true)))

pub returns : goal.returns
returns c =
    let context = context_in c.args.place.now c.args.around.now in
    on_ok c.edge-2.result c.edge-2.ensures (λ e. e
    ∙ ap (λ w. fed w edge) (c.in_ok-block.ensures
    ∙ ap (λ b. fed (writing_in c.edge.new.self) (whole b)) c.in_ok-formula_block.ensures
    ∙ ap (λ w. fed w (whole (math_block c.args.tex.now))) c.in_ok-edge.ensures)
    ∙ ap (λ b. fed_all (writing_in c.args.out.now)
    (cond b (apart (whole (math_block c.args.tex.now) ∷ [])) (math_in_line c.args.tex.now context)))
    (sym (sym c.stands_alone.ensures ∙ c.if-not-stands_alone.false)))
