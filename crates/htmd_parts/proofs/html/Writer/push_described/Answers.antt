-- A text is written by itself.
use Rattle.std.proofs.Common.{◌++◌, ◌∙◌, sym, ap, string_bytes}
use Rattle.std.proofs.lemmas.Result.{on_ok_weaker}
use Rattle.htmd_commonmark_reading.specs.Rendering.{escaped}
use Rattle.htmd_parts.specs.Machine.{page}
use Rattle.htmd_parts.proofs.StepLemmas.{with-string}
use Rattle.htmd_parts.proofs.html.Writer.push_described.Goals as goal

pub returns-in-Text-clause-page : goal.returns-in-Text-clause-page
returns-in-Text-clause-page c =
    let w = c.args.self.now in
    on_ok_weaker c.push_text.result
    (λ e. ap (λ s. page s w.in_line w.images)
    (e ∙ ap (λ t. string_bytes w.html ++ escaped t) c.deref.ensures)
    ∙ sym (with-string c.args.part.now c.in-Text.text c.in-Text.is (string_bytes w.html) w.in_line w.images
    c.requires.some))
    c.push_text.ensures
