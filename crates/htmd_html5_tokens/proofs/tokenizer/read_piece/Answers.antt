-- Markup is none of the others.
use Rattle.std.proofs.Common.{◌≡◌, ◌∙◌, true, sym, ap, subst}
use Rattle.std.specs.Result.{IfOk}
use Rattle.htmd_html5_tokens.specs.NextToken.{begins_markup}
use Rattle.htmd_html5_tokens.specs.Readings.{read_of}
use Rattle.htmd_html5_tokens.specs.Tokens.{Read}
use Rattle.htmd_html5_tokens.proofs.NextTokenLemmas.{markup_next}
use Rattle.htmd_html5_tokens.proofs.tokenizer.read_piece.Goals as goal

pub returns : goal.returns
returns c =
    let markup : begins_markup c.args.text.now ≡ true =
    ap begins_markup (sym c.as_bytes.ensures.value) ∙ sym c.begins_markup.ensures ∙ c.if-not-begins_markup.false in
    let same = markup_next c.args.foreign c.args.text.now c.range_from.result.now
    (sym c.is_empty.ensures ∙ c.if-is_empty.false) c.in_default.ensures markup c.range_from.ensures.value in
    subst (λ (x : Read). IfOk c.read_markup.result (λ r. read_of r ≡ x)) same c.read_markup.ensures
