-- What is left to prove of `is_at_markup`.
use Rattle.std.proofs.Common.{◌∙◌, sym, ap}
use Rattle.htmd_lexical.specs.EndTags.{begins_own_end}
use Rattle.htmd_grammar.specs.RawContent.{begins_markup}
use Rattle.htmd_tree.specs.OpenNodes.{innermost_name}
use Rattle.htmd_tree.proofs.PiecesLemmas.{text_alone_at, ends_alone, ends_at_markup}
use Rattle.htmd_tree.proofs.reader.Reader.is_at_markup.Goals as goal

pub returns-then-top : goal.returns-then-top
returns-then-top c = λ has_doctype fs h.
    let s = c.args.self.now in
    c.begins_own_end.ensures
    ∙ (ap (λ n. begins_own_end n c.as_bytes-bytes.result.now)
    (c.as_bytes.ensures.value ∙ c.innermost_name.ensures has_doctype fs h)
    ∙ (ap (λ b. begins_own_end (innermost_name fs) b) c.as_bytes-bytes.ensures.value
    ∙ ends_alone s.scripting (innermost_name fs) s.rest.now
    (sym (text_alone_at s has_doctype fs c.top.result c.top.ensures.top h) ∙ c.if-top.true)))

pub returns-else-top : goal.returns-else-top
returns-else-top c = λ has_doctype fs h.
    let s = c.args.self.now in
    c.begins_markup.ensures
    ∙ (ap (λ b. begins_markup b) c.as_bytes-bytes.ensures.value
    ∙ ends_at_markup s.scripting (innermost_name fs) s.rest.now
    (sym (text_alone_at s has_doctype fs c.top.result c.top.ensures.top h) ∙ c.if-top.false))
