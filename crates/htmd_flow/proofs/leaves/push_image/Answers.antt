-- An image without an address is its description.
use Rattle.std.proofs.Common.{◌∙◌, sym, ap}
use Rattle.std.specs.Option.{option_copied}
use Rattle.htmd_lexical.specs.Attributes.{pairs_of}
use Rattle.htmd_shown.specs.Attributes.{description_of}
use Rattle.htmd_flow.specs.Contexts.{run_in}
use Rattle.htmd_flow.specs.Flows.{image_parts}
use Rattle.htmd_flow.specs.FlowViews.{context_in}
use Rattle.htmd_flow.specs.Paragraphs.{fed, fed_all}
use Rattle.htmd_flow.specs.ParagraphViews.{writing_in}
use Rattle.htmd_flow.proofs.FeedLemmas.{on_ok}
use Rattle.htmd_flow.proofs.LeavesLemmas.{description_given}
use Rattle.htmd_flow.proofs.leaves.push_image.Goals as goal

pub returns-in_default : goal.returns-in_default
returns-in_default c =
    let w = writing_in c.args.out.now in
    let context = context_in c.args.place.now c.args.around.now in
    let attributes = pairs_of c.args.attrs.now in
    on_ok c.run.result c.run.ensures (λ e. e
    ∙ ap (λ s. fed w (run_in context s)) (c.as_str.ensures.value ∙ c.in_ok-description.ensures)
    ∙ description_given w context (description_of attributes)
    ∙ sym (ap (λ v. fed_all w (image_parts v attributes context)) (ap option_copied c.in_default.is)))
