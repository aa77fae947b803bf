-- What is left to prove of `is_all_shown`.
use Rattle.std.proofs.Common.{◌≡◌, true, false, rules, ap, sym, ◌∙◌}
use Rattle.std.specs.List.{list_any}
use Rattle.std.proofs.lemmas.Iterator.{YieldsList-from_chars, cases_from_all}
use Rattle.htmd_shown.specs.ShownTexts.{is_shown}
use Rattle.htmd_shown.specs.TextViews.{is_unshown_byte}
use Rattle.htmd_shown.proofs.ShownTextsLemmas.{shown-all, shown-bytes}
use Rattle.htmd_shown.proofs.shown_text.is_all_shown.Goals as goal

pub returns-then-not-holds_unshown_byte : goal.returns-then-not-holds_unshown_byte
returns-then-not-holds_unshown_byte c =
    let none : c.holds_unshown_byte.result ≡ false = search rules in
    λ _. shown-bytes c.args.text.now c.utf8.text
    (ap (list_any is_unshown_byte) (sym c.as_bytes.ensures.value) ∙ (sym c.holds_unshown_byte.ensures ∙ none))

pub returns : goal.returns
returns c = shown-all c.args.text.now c.all.result c.utf8.text (cases_from_all _ _ _ (λ x. is_shown x ≡ true)
    (λ x. is_shown x ≡ false) c.all.ensures.ran (YieldsList-from_chars c.args.text.now c.utf8.text cc)
    (λ x q k. search rules) (λ x q k. search rules))
