use Rattle.std.proofs.Common.{◌≡◌, ◌∙◌, true, false, [], ◌∷◌, ap, sym, cond, length, string_bytes, arith, rules, Some}
use Rattle.std.proofs.lemmas.Bool.Decides.{nat_tests}
use Rattle.std.proofs.lemmas.Map.Text.{hash_map_updates_text}
use Rattle.std.specs.Str.{bytes_eq}
use Rattle.std.specs.String.{string_len}
use Rattle.htmd_shown.specs.Attributes.{is_filled}
use Rattle.htmd_document_of_tree.specs.LeadingViews as views
use Rattle.htmd_document_of_tree.proofs.LeadingsLemmas.{noted}
use Rattle.htmd_document_of_tree.proofs.leadings.Leadings.note.Goals as goal

pub returns-then-is_empty : goal.returns-then-is_empty
returns-then-is_empty c = λ s.
    let len : string_len c.args.value ≡ length (string_bytes c.args.value) = search rules in
    let blank : is_filled (string_bytes c.args.value) ≡ false =
    grind (arith, nat_tests, len, c.is_empty.ensures, c.if-is_empty.true) in
    sym (ap (λ b. views.merged (views.span_to c.args.self.now s) s
    (cond b (record { to = string_bytes c.args.value; heading = c.args.heading } ∷ []) [])) blank)

pub returns : goal.returns
returns c =
    let len : string_len c.args.value ≡ length (string_bytes c.args.value) = search rules in
    let filled : is_filled (string_bytes c.args.value) ≡ true =
    grind (arith, nat_tests, len, c.is_empty.ensures, c.if-is_empty.false) in
    noted c.args.self.now (record { alloc = c.args.self.now.alloc; spans = c.insert.new.self })
    (string_bytes c.args.value) c.args.heading
    (λ s. hash_map_updates_text (string_bytes c.args.value) c.args.self.now.spans c.insert.new.self
    (Some c.span_with-span.result) c.in_ok-insert.ensures.updates s
    ∙ ap (λ span. cond (bytes_eq (string_bytes c.args.value) s) (Some span) (views.span_to c.args.self.now s))
    (c.span_with-span.ensures
    ∙ ap (λ k. views.in_both (views.span_to c.args.self.now k)
    (views.span_of c.args.heading)) c.as_str.ensures.value))
    filled
