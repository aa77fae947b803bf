-- A text is written by itself.
use Rattle.std.proofs.Common.{◌++◌, ◌∙◌, sym, ap, string_bytes}
use Rattle.std.proofs.lemmas.Result.{on_ok_weaker}
use Rattle.htmd_commonmark_reading.specs.Rendering.{escaped}
use Rattle.htmd_parts.specs.PartViews.{part_of}
use Rattle.htmd_parts.specs.Machine.{page, page_of, with_parts}
use Rattle.htmd_parts.proofs.StepLemmas.{with-text}
use Rattle.htmd_parts.proofs.html.Writer.push_shown.Goals as goal

pub returns-in-Text-clause-page : goal.returns-in-Text-clause-page
returns-in-Text-clause-page c =
    let w = c.args.self.now in
    on_ok_weaker c.push_text.result
    (λ e. ap (λ s. page s w.in_line w.images)
    (e ∙ ap (λ t. string_bytes w.html ++ escaped t) c.deref.ensures)
    ∙ (sym (with-text w.images (string_bytes c.in-Text.text) (string_bytes w.html) w.in_line)
    ∙ sym (ap (λ x. with_parts (page_of w) (part_of x)) c.in-Text.is)))
    c.push_text.ensures
