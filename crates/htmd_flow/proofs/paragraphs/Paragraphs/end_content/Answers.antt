-- What is in the paragraph, or nothing.
use Rattle.std.proofs.Common.{◌∙◌, ap}
use Rattle.htmd_document.specs.DocumentViews.{inlines_of}
use Rattle.htmd_flow.specs.Paragraphs.{paragraph_of}
use Rattle.htmd_flow.specs.ParagraphViews.{writing_in, emptied, with_blocks}
use Rattle.htmd_flow.proofs.FeedLemmas.{if_ok}
use Rattle.htmd_flow.proofs.ParagraphsLemmas.{idle_ended}
use Rattle.htmd_flow.proofs.paragraphs.Paragraphs.end_content.Goals as goal

pub returns : goal.returns
returns c =
    let w = writing_in c.args.self.now in
    if_ok c.push_paragraph.result _ _ c.push_paragraph.ensures (λ _ e.
    e ∙ ap (λ v. with_blocks v (paragraph_of (inlines_of c.in_ok-content.content.items)))
    c.in_ok-content.ensures.rest
    ∙ ap (λ xs. with_blocks (emptied w) (paragraph_of xs)) c.in_ok-content.ensures.content)

pub returns-then-is_idle : goal.returns-then-is_idle
returns-then-is_idle c =
    let idle = c.is_idle.ensures c.if-is_idle.true in
    idle_ended (writing_in c.args.self.now) _ _ idle.0 idle.1 c.clear.ensures.inlines c.clear.ensures.wrappers
