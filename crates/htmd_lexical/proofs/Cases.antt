-- The two ways that a test or a result may go.
use Rattle.std.proofs.Common.{◌≡◌, ◌∙◌, Bool, true, false, refl, Result, Ok, Err, OnOk, OnErr, List, ℕ, cond}
use Rattle.std.specs.Result.{is_ok}

-- either way, with what the test says
pub test : {P : Type 0} (b : Bool) → (b ≡ true → P) → (b ≡ false → P) → P
test true f g = f refl
test false f g = g refl

-- what holds anyway holds on an error
pub OnErr-always : {T E P : Type 0} (r : Result T E) → P → OnErr r P
OnErr-always (Ok x) p = tt
OnErr-always (Err e) p = p

-- what a push that may fail leaves where it didn't
pub pushed : {T E : Type 0} (r : Result T E) (new long short : List ℕ) {whole : List ℕ}
    → new ≡ cond (is_ok r) long short → long ≡ whole → OnOk r (new ≡ whole)
pushed (Ok x) new long short e f = e ∙ f
pushed (Err x) new long short e f = tt
