-- The kinds of numbers.
use Rattle.std.proofs.Common.{◌∙◌, sym}
use Rattle.htmd_html5_tokens.proofs.ReferencesLemmas.{numbered_zero, numbered_windows, numbered_scalar, numbered_none}
use Rattle.htmd_html5_tokens.proofs.references.character_numbered.Goals as goal

pub returns-then-number-eq0 : goal.returns-then-number-eq0
returns-then-number-eq0 c = numbered_zero c.args.number c.if-number-eq0.true

pub returns-then-is_windows : goal.returns-then-is_windows
returns-then-is_windows c = numbered_windows c.args.number (sym c.is_windows.ensures ∙ c.if-is_windows.true)

pub returns-in-Some : goal.returns-in-Some
returns-in-Some c =
    numbered_scalar c.args.number c.in-Some.character c.if-number-eq0.false
    (sym c.is_windows.ensures ∙ c.if-is_windows.false) c.in-Some.ensures.cases c.in-Some.ensures.value.1

pub returns-in-None : goal.returns-in-None
returns-in-None c = numbered_none c.args.number c.in-None.ensures.cases
