-- What is left to prove of `join_text`.
use Rattle.std.proofs.Common.{◌≡◌, ◌+◌, ◌++◌, ◌∙◌, rules, sym, ap, string_bytes}
use Rattle.std.proofs.lemmas.Result.{IfOk-equal}
use Rattle.htmd_document.specs.DocumentViews.{inline_of}
use Rattle.htmd_document.specs.Documents as value
use Rattle.htmd_document.specs.declared.document.Inline as declared_inline
use Rattle.htmd_flow.specs.Nesting.{met, one_inline}
use Rattle.htmd_flow.proofs.NestLemmas.{joined-set, beside-set, where_ok, inline-text, met-no_text}
use Rattle.htmd_flow.proofs.nest.join_text.Goals as goal

pub returns-in-Text : goal.returns-in-Text
unfolding declared_inline.out-Inline denote.Hole.Carrier.out
returns-in-Text c = where_ok c.push_str.result _ (λ ok.
    let bytes : string_bytes c.push_str.new.self ≡ string_bytes c.in-Text.last ++ c.args.text.now =
    (rw ok at c.push_str.ensures.bytes) ∙ ap (λ s. string_bytes s ++ c.args.text.now) c.in-Text.last-is in
    joined-set c.args.content.now.items c.in-Some.last c.index_mut.result.now _ (value.text c.args.text.now)
    (search rules) c.index_mut.ensures.value
    (ap (λ x. met (inline_of x) (value.text c.args.text.now)) c.in-Text.is
    ∙ (ap (λ x. met x (value.text c.args.text.now)) (inline-text c.in-Text.last)
    ∙ (ap (λ s. one_inline (value.text s)) (sym bytes)
    ∙ ap one_inline (sym (rw c.in-Text.is (inline-text c.push_str.new.self)))))))

pub returns-in_default-index_mut : goal.returns-in_default-index_mut
returns-in_default-index_mut c = IfOk-equal c.push_text-in_default-index_mut.result _ _ _
    c.push_text-in_default-index_mut.ensures
    (beside-set c.args.content.now.items c.in-Some.last c.index_mut.result.now (value.text c.args.text.now)
    (search rules) c.index_mut.ensures.value
    (met-no_text c.index_mut.result.now c.args.text.now c.in_default-index_mut.not-Text))
