-- One more text after those that were joined.
use Rattle.std.proofs.Common.{◌≡◌, ℕ, ◌+◌, ◌<◌, Bool, false, List, [], ◌∷◌, ◌++◌, length, get_or, map, take, sym, ap}
use Rattle.std.proofs.Common.{◌∙◌, arith, append_assoc}
use Rattle.std.specs.Prelude.{not, ◌==◌, if◌then◌else◌}
use Rattle.std.proofs.lemmas.Bool.Decides.{nat_tests}
use Rattle.std.proofs.lemmas.List.{append-nil, flat_map_more, length-map, length-take-le, map_push}
use Rattle.std.proofs.lemmas.List.{take_more}
use Rattle.htmd_text.specs.Joins.{joined_texts}

-- the separator, unless the text is the first
abbrev pub separator_unless : Bool → List ℕ → List ℕ
separator_unless first separator = if not first then separator else []

joined_push : (separator : List ℕ) (texts : List (List ℕ)) (x : List ℕ)
    → joined_texts separator (texts ++ x ∷ []) ≡ joined_texts separator texts ++
    (separator_unless (length texts == 0) separator ++ x)
joined_push separator [] x = append-nil x
joined_push separator (y ∷ ys) x =
    let some : (length (y ∷ ys) == 0) ≡ false = grind (arith, nat_tests) in
    rw some (sym (flat_map_more (λ next. separator ++ next) y ys x))

pub joined_more : (separator : List ℕ) (f : List ℕ
    → List ℕ) (texts : List (List ℕ)) (n : ℕ) (x base : List ℕ) (first : Bool) → (n < length texts)
    × (x ≡ get_or texts n x) → first ≡ (n == 0)
    → ((base ++ joined_texts separator
    (map f (take n texts))) ++ separator_unless first separator) ++ f x ≡ base ++ joined_texts separator
    (map f (take (n + 1) texts))
joined_more separator f texts n x base first here begun =
    let size : length (map f (take n texts)) ≡ n =
    length-map (take n texts) f ∙ length-take-le n texts (omega (arith, here.0)) in
    let front : take (n + 1) texts ≡ take n texts ++ x ∷ [] =
    take_more texts n x here.0 ∙ ap (λ y. take n texts ++ y ∷ []) (sym here.1) in
    let more : map f (take (n + 1) texts) ≡ map f (take n texts) ++ f x ∷ [] =
    ap (map f) front ∙ map_push f (take n texts) x in
    rw (more, joined_push separator (map f (take n texts)) (f x), size, ← begun)
    (append_assoc (base ++ joined_texts separator (map f (take n texts))) (separator_unless first separator) (f x)
    ∙ append_assoc base (joined_texts separator (map f (take n texts))) (separator_unless first separator ++ f x))
