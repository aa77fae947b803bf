-- TeX as code between dollar signs.
use Rattle.std.proofs.Common.{◌∙◌, ◌∷◌, [], true, ap, map}
use Rattle.htmd_shown.specs.AllTexts.{dollar_sign}
use Rattle.htmd_shown.specs.Attributes.{in_line}
use Rattle.htmd_flow.specs.ParagraphViews.{writing_in}
use Rattle.htmd_flow.specs.Paragraphs.{fed}
use Rattle.htmd_flow.specs.Parts.{run}
use Rattle.htmd_flow.specs.PartViews.{around_of}
use Rattle.htmd_flow.proofs.FeedLemmas.{on_ok}
use Rattle.htmd_flow.proofs.leaves.push_math.Goals as goal

pub returns : goal.returns
returns c =
    let around = map around_of c.args.around.now in
    let code = c.args.place.now.is_code in
    on_ok c.run-3.result c.run-3.ensures (λ e. e
    ∙ ap (λ w. fed w (run (dollar_sign ∷ []) around code))
    (c.in_ok-run-2.ensures
    ∙ ap (λ s. fed (writing_in c.run.new.self) (run s around true)) (c.as_str.ensures.value ∙ c.in_ok-tex.ensures)
    ∙ ap (λ w. fed w (run (in_line c.args.tex.now) around true)) c.in_ok-run.ensures))
