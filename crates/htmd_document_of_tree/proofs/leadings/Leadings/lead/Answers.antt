use Rattle.std.proofs.Common.{◌≡◌, ◌∙◌, ◌++◌, false, ap, sym, string_bytes}
use Rattle.std.proofs.lemmas.Result.{on_ok_weaker}
use Rattle.std.specs.Str.Lossy.{utf8_lossy}
use Rattle.std.specs.Prelude.{◌==◌}
use Rattle.std.specs.List.{list_any}
use Rattle.percent_encoding.specs.Percent.{percent_decode, percent_sign}
use Rattle.htmd_shown.specs.Attributes.{in_line}
use Rattle.htmd_document_of_tree.specs.LeadingViews as views
use Rattle.htmd_document_of_tree.specs.Leadings as spec
use Rattle.htmd_document_of_tree.proofs.LeadingsLemmas.{decoded_plain, merged-append, merged-twice}
use Rattle.htmd_document_of_tree.proofs.leadings.Leadings.lead.Goals as goal

pub returns-then-not-has_percent_sign : goal.returns-then-not-has_percent_sign
returns-then-not-has_percent_sign c = λ s.
    let part = c.args.part.now in
    let known = views.span_to c.args.self.now s in
    let one = spec.leading_to c.args.heading in
    let first : string_bytes c.in_ok-value.value ≡ in_line part = c.in_ok-value.ensures in
    let none : list_any (λ b. b == percent_sign) part ≡ false =
    ap (list_any (λ b. b == percent_sign)) (sym c.as_bytes.ensures.value)
    ∙ sym c.has_percent_sign.ensures ∙ c.if-not-has_percent_sign.true in
    let same : in_line (utf8_lossy (percent_decode part)) ≡ in_line part =
    ap in_line (decoded_plain part c.utf8.part none) in
    c.in_ok-note.ensures s ∙ ap (λ v. views.merged known s (one v)) first
    ∙ (sym (merged-twice known s c.args.heading (in_line part))
    ∙ ap (λ v. views.merged known s (one (in_line part) ++ one v)) (sym same))

pub returns : goal.returns
returns c =
    let part = c.args.part.now in
    let one = spec.leading_to c.args.heading in
    let first : string_bytes c.in_ok-value.value ≡ in_line part = c.in_ok-value.ensures in
    let second : string_bytes c.in_ok-value-2.value ≡ in_line (utf8_lossy (percent_decode part)) =
    c.in_ok-value-2.ensures
    ∙ ap in_line (c.as_str.ensures.value ∙ (c.in_ok-decoded.ensures.exact
    ∙ ap utf8_lossy (c.percent_decode.ensures.bytes ∙ ap percent_decode c.as_bytes-2.ensures.value))) in
    on_ok_weaker c.note-2.result
    (λ f s.
    let known = views.span_to c.args.self.now s in
    f s ∙ (ap (λ k. views.merged k s (one (string_bytes c.in_ok-value-2.value))) (c.in_ok-note.ensures s)
    ∙ (sym (merged-append known s (one (string_bytes c.in_ok-value.value)) (one (string_bytes c.in_ok-value-2.value)))
    ∙ (ap (λ v. views.merged known s (one v ++ one (string_bytes c.in_ok-value-2.value))) first
    ∙ ap (λ v. views.merged known s (one (in_line part) ++ one v)) second)))) c.note-2.ensures
