-- The settings are those that the struct stands for.
use Rattle.std.proofs.Common.{◌≡◌, ◌∙◌, sym, false, subst, string_bytes}
use Rattle.std.specs.Prelude.{Result, Ok, Err, MatchResult, is_err}
use Rattle.std.proofs.lemmas.Bool.{false≢true}
use Rattle.htmd.specs.PageOutputs.{IsOutputOf}
use Rattle.htmd.specs.PageSettings.{Settings}
use Rattle.htmd_c.proofs.output.output_of.Goals as goal

-- what is said of an outcome that is no error
of_ok : {A E : Type 0} (r : Result A E) (Said : A → Type 0) (Fault : E → Type 0) (Good : Type 0)
    → ((x : A) → Said x → Good) → MatchResult r Said Fault → is_err r ≡ false → Good
of_ok (Ok x) Said Fault Good f said no_error = f x said
of_ok (Err e) Said Fault Good f said no_error = absurd (false≢true (sym no_error))

pub returns-clause-ok : goal.returns-clause-ok
returns-clause-ok c =
    let P : Settings → Type 0 = λ s. IsOutputOf s c.args.html.now (string_bytes c.in_ok-convert_page.field-0) in
    subst P c.settings_of-settings.ensures c.in_ok-convert_page.ensures.ok

pub returns-clause-good : goal.returns-clause-good
returns-clause-good c =
    of_ok c.from_utf8.result _ _ _ (λ x said. said.1) c.from_utf8.ensures.cases
    (sym c.is_err.ensures.value ∙ c.if-is_err.false)
