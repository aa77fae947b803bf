-- An address without such bytes stays as it is.
use Rattle.std.proofs.Common.{◌≡◌, ◌++◌, ap, false, rules, sym, ◌∙◌, string_bytes}
use Rattle.std.specs.List.{list_any}
use Rattle.htmd_lexical.proofs.Cases.{pushed}
use Rattle.htmd_commonmark.specs.PlainTexts.{may_be_escaped}
use Rattle.htmd_commonmark.proofs.PlainTextsLemmas.{plain_destination}
use Rattle.htmd_commonmark.proofs.address.push_destination.Goals as goal

pub returns-then-not-holds_sign : goal.returns-then-not-holds_sign
returns-then-not-holds_sign c =
    let none : c.holds_sign.result ≡ false = search rules in
    let s = c.args.address.now in
    pushed c.push_str.result (string_bytes c.push_str.new.self) (string_bytes c.args.out.now ++ s)
    (string_bytes c.args.out.now) c.push_str.ensures.bytes
    (ap (λ l. string_bytes c.args.out.now ++ l) (sym (plain_destination s
    (sym c.needs_brackets.ensures ∙ c.if-needs_brackets.false)
    (ap (list_any may_be_escaped) (sym c.as_bytes.ensures.value) ∙ (sym c.holds_sign.ensures ∙ none)))))
