-- A text without such bytes, at whose beginning no line is marked, stays as it is.
use Rattle.std.proofs.Common.{◌∙◌, ap, not, sym}
use Rattle.htmd_commonmark.proofs.PlainTextsLemmas.{no_place, plain_escaped}
use Rattle.htmd_commonmark.proofs.text_escape.is_plain.Goals as goal

pub returns : goal.returns
returns c = λ e. plain_escaped c.args.place.now c.args.bytes.now (sym c.holds_mark.ensures ∙ c.if-holds_mark.false)
    (λ k. sym (c.line_mark_of.ensures k) ∙ no_place c.line_mark_of.result k (c.is_none.ensures ∙ ap not e))
