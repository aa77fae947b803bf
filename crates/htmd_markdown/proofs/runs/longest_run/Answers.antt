-- A text without the character has no run of it.
use Rattle.std.proofs.Common.{◌≡◌, false, rules, sym, ap, ◌∙◌}
use Rattle.std.specs.Prelude.{◌==◌}
use Rattle.std.specs.List.{list_any}
use Rattle.htmd_markdown.proofs.RunsLemmas.{no_run_without}
use Rattle.htmd_markdown.proofs.runs.longest_run.Goals as goal

pub returns-then-not-holds-clause-value : goal.returns-then-not-holds-clause-value
returns-then-not-holds-clause-value c =
    let none : c.holds.result ≡ false = search rules in
    sym (no_run_without c.args.character c.args.text.now
    (ap (list_any (λ b. b == c.args.character)) (sym c.as_bytes.ensures.value) ∙ (sym c.holds.ensures ∙ none)))
