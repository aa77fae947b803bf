-- A name, white space and `>`.
use Rattle.std.proofs.Common.{◌∙◌, sym, arith}
use Rattle.htmd_commonmark_reader.proofs.RawTagsLemmas.{closing_found}
use Rattle.htmd_commonmark_reader.proofs.raw_tags.closing_tag.Goals as goal

pub overflow_add-result-then-first_is : goal.overflow_add-result-then-first_is
overflow_add-result-then-first_is c =
    let found = closing_found c.args.text.now _ _ _ _ _ c.in-Some.ensures
    (sym c.begins_with_letter.ensures ∙ c.if-not-begins_with_letter.false) c.split_bytes.ensures.run
    c.split_bytes.ensures.rest c.split_bytes-2.ensures.run c.split_bytes-2.ensures.rest
    (sym c.first_is.ensures ∙ c.if-first_is.true) in
    omega (arith, found.within)

pub returns-then-first_is-clause-bound : goal.returns-then-first_is-clause-bound
returns-then-first_is-clause-bound c =
    (closing_found c.args.text.now _ _ _ _ _ c.in-Some.ensures
    (sym c.begins_with_letter.ensures ∙ c.if-not-begins_with_letter.false) c.split_bytes.ensures.run
    c.split_bytes.ensures.rest c.split_bytes-2.ensures.run c.split_bytes-2.ensures.rest
    (sym c.first_is.ensures ∙ c.if-first_is.true)).within

pub returns-then-first_is-clause-value : goal.returns-then-first_is-clause-value
returns-then-first_is-clause-value c =
    (closing_found c.args.text.now _ _ _ _ _ c.in-Some.ensures
    (sym c.begins_with_letter.ensures ∙ c.if-not-begins_with_letter.false) c.split_bytes.ensures.run
    c.split_bytes.ensures.rest c.split_bytes-2.ensures.run c.split_bytes-2.ensures.rest
    (sym c.first_is.ensures ∙ c.if-first_is.true)).value
