-- An address in front of `>`.
use Rattle.std.proofs.Common.{◌≡◌, ◌∙◌, false, sym, rules}
use Rattle.htmd_lexical.specs.CharacterClasses as classes
use Rattle.htmd_commonmark_reader.proofs.InlineTokensLemmas.{email_found}
use Rattle.htmd_commonmark_reader.proofs.inline_tokens.email.Goals as goal

pub returns-clause-bound : goal.returns-clause-bound
returns-clause-bound c =
    let filled : classes.is_empty c.split_bytes.result.0.now ≡ false = search rules in
    (email_found c.args.text.now _ _ _ _ _ c.split_bytes.ensures.run c.split_bytes.ensures.rest c.in-Some.ensures
    c.split_bytes-2.ensures.run c.split_bytes-2.ensures.rest filled
    (sym c.is_host.ensures ∙ c.if-not-is_host.false) (sym c.first_is.ensures ∙ c.if-not-first_is.false)).within

pub returns-clause-value : goal.returns-clause-value
returns-clause-value c =
    let filled : classes.is_empty c.split_bytes.result.0.now ≡ false = search rules in
    (email_found c.args.text.now _ _ _ _ _ c.split_bytes.ensures.run c.split_bytes.ensures.rest c.in-Some.ensures
    c.split_bytes-2.ensures.run c.split_bytes-2.ensures.rest filled
    (sym c.is_host.ensures ∙ c.if-not-is_host.false) (sym c.first_is.ensures ∙ c.if-not-first_is.false)).value

pub returns-clause-end : goal.returns-clause-end
returns-clause-end c =
    let filled : classes.is_empty c.split_bytes.result.0.now ≡ false = search rules in
    (email_found c.args.text.now _ _ _ _ _ c.split_bytes.ensures.run c.split_bytes.ensures.rest c.in-Some.ensures
    c.split_bytes-2.ensures.run c.split_bytes-2.ensures.rest filled
    (sym c.is_host.ensures ∙ c.if-not-is_host.false) (sym c.first_is.ensures ∙ c.if-not-first_is.false)).end
