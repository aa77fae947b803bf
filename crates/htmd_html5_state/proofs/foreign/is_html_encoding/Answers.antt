-- The first of the two was not met.
use Rattle.std.proofs.Common.{◌∙◌, sym, ap, Bool, ◌||◌}
use Rattle.std.specs.Prelude.{codes}
use Rattle.htmd_html5_state.specs.Foreign.{is_in_any_case}
use Rattle.htmd_html5_state.proofs.foreign.is_html_encoding.Goals as goal

pub returns-else-is_in_any_case : goal.returns-else-is_in_any_case
returns-else-is_in_any_case c =
    c.is_in_any_case-else-is_in_any_case.ensures
    ∙ sym (ap (λ (b : Bool). b || is_in_any_case (codes "application/xhtml+xml") c.args.value.now)
    (sym c.is_in_any_case.ensures ∙ c.if-is_in_any_case.false))
