-- What holds for the text that a call answers.
use Rattle.std.proofs.Common.{◌≡◌, ℕ, List, Result, IfOk, subst, sym}
use Rattle.std.proofs.lemmas.Result.{IfOk-weaker}

pub of_answer : {T E : Type 0} (bytes : T → List ℕ) (r : Result T E) (s : List ℕ) (P : List ℕ → Type 0)
    → P s
    → IfOk r (λ t. bytes t ≡ s) → IfOk r (λ t. P (bytes t))
of_answer bytes r s P here told =
    IfOk-weaker r (λ t. bytes t ≡ s) (λ t. P (bytes t)) (λ t same. subst P (sym same) here) told
