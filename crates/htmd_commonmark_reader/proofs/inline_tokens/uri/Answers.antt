-- An address in front of `>`.
use Rattle.std.proofs.Common.{◌∙◌, length, drop, ap, sym}
use Rattle.htmd_lexical.proofs.RunsLemmas.{drop_run}
use Rattle.htmd_lexical.specs.CharacterClasses.{first_is}
use Rattle.htmd_commonmark_reading.specs.InlineTokens as spec
use Rattle.htmd_commonmark_reader.proofs.InlineTokensLemmas.{run_before, uri_found}
use Rattle.htmd_commonmark_reader.proofs.inline_tokens.uri.Goals as goal

pub returns-then-first_is-clause-bound : goal.returns-then-first_is-clause-bound
returns-then-first_is-clause-bound c =
    run_before spec.is_in_uri c.args.text.now _ _ 62 c.split_bytes-2.ensures.run c.split_bytes-2.ensures.rest
    (sym c.first_is-2.ensures ∙ c.if-first_is.true)

pub returns-then-first_is-clause-value : goal.returns-then-first_is-clause-value
returns-then-first_is-clause-value c =
    uri_found c.args.text.now _ _ _ _ c.split_bytes.ensures.run c.split_bytes.ensures.rest
    (sym c.is_scheme.ensures ∙ c.if-not-is_scheme.false) (sym c.first_is.ensures ∙ c.if-not-first_is.false)
    c.split_bytes-2.ensures.run c.split_bytes-2.ensures.rest (sym c.first_is-2.ensures ∙ c.if-first_is.true)

pub returns-then-first_is-clause-end : goal.returns-then-first_is-clause-end
returns-then-first_is-clause-end c =
    let s = c.args.text.now in
    ap (λ l. first_is 62 (drop (length l) s)) c.split_bytes-2.ensures.run
    ∙ ap (first_is 62) (drop_run spec.is_in_uri s ∙ sym c.split_bytes-2.ensures.rest)
    ∙ (sym c.first_is-2.ensures ∙ c.if-first_is.true)
