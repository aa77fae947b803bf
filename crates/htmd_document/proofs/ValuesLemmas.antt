-- Lists of inlines of the source, and what they stand for.
use Rattle.std.proofs.Common.{◌≡◌, ℕ, zero, suc, ◌+◌, ◌-◌, ◌<◌, List, [], ◌∷◌, ◌++◌, map, length, take, get_or, String}
use Rattle.std.proofs.Common.{Global, string_bytes, refl, sym, ap, arith, add-one}
use Rattle.htmd_document.specs.declared.document.Inline as declared_inline
use Rattle.htmd_document.specs.declared.document.Inline.TheBlock.{Code}
use Rattle.htmd_document.specs.declared.document.Inline.TheFolds.{fold_out-Inline}
use Rattle.htmd_document.specs.Documents.{Inline}
use Rattle.htmd_document.specs.Documents as value
use Rattle.htmd_document.specs.DocumentViews.{inline_step, inline_of}

pub map-append : {A B : Type 0} (f : A → B) (xs ys : List A) → map f (xs ++ ys) ≡ map f xs ++ map f ys
map-append f [] ys = refl
map-append f (x ∷ xs) ys = ap (λ zs. f x ∷ zs) (map-append f xs ys)

pub take-step : {A B : Type 0} (f : A → B) (xs : List A) (i : ℕ) (x : A) → i < length xs → x ≡ get_or xs i x
    → take (i + 1) (map f xs) ≡ take i (map f xs) ++ f x ∷ []
take-step f [] i x h e = absurd (omega arith)
take-step f (y ∷ ys) zero x h e = ap (λ z. f z ∷ []) (sym e)
take-step f (y ∷ ys) (suc i) x h e =
    rw add-one (ap (λ zs. f y ∷ zs) (rw add-one at (take-step f ys i x (omega arith) e)))

pub inline-code : (s : String Global) → inline_of (Code s) ≡ value.code (string_bytes s)
unfolding declared_inline.out-Inline denote.Hole.Carrier.out
inline-code s = fold_out-Inline Inline inline_step (Code s)
