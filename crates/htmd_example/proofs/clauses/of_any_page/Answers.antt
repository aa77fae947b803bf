-- The converter has the built-in handlers and reads with scripting.
use Rattle.std.proofs.Common.{◌≡◌, ℕ, Bool, List, subst, string_bytes}
use Rattle.std.proofs.lemmas.Result.{IfOk-weaker}
use Rattle.htmd.specs.Choice.{Config}
use Rattle.htmd.specs.Conversions.{IsHtml5Markdown}
use Rattle.htmd_example.proofs.clauses.of_any_page.Goals as goal

by_same : (config other : Config) (scripting other_scripting : Bool) (html text : List ℕ) → config ≡ other
    → scripting ≡ other_scripting → IsHtml5Markdown config scripting html text
    → IsHtml5Markdown other other_scripting html text
by_same config other scripting other_scripting html text c s h =
    subst (λ x. IsHtml5Markdown other x html text) s (subst (λ x. IsHtml5Markdown x scripting html text) c h)

pub returns : goal.returns
returns c =
    let html = c.args.html.now in
    let made = c.in_ok-converter.ensures in
    IfOk-weaker c.convert_html5.result _ _
    (λ text h. (by_same _ _ _ _ html (string_bytes text) made.handlers made.scripting h).is_markdown)
    c.convert_html5.ensures.ok
