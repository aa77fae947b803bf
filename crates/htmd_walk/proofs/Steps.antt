-- One element further in a list.
use Rattle.std.proofs.Common.{◌≡◌, ℕ, suc, ◌+◌, ◌<◌, List, ◌∷◌, length, get_or, drop, sym, ap, ◌∙◌, add-one}
use Rattle.std.proofs.Math.Seq.{drop-cons}

pub stepped : {A B : Type 0} (f : List A → B) (all : List A) (k : ℕ) (x : A) → k < length all
    → x ≡ get_or all k x
    → f (drop k all) ≡ f (x ∷ drop (k + 1) all)
stepped f all k x l here =
    ap f (drop-cons all k x l)
    ∙ ap (λ y. f (y ∷ drop (suc k) all)) (sym here)
    ∙ ap (λ n. f (x ∷ drop n all)) (sym (add-one k))
