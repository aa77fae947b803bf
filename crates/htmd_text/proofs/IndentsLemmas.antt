-- One more line.
use Rattle.std.proofs.Common.{◌≡◌, ℕ, ◌+◌, ◌<◌, Bool, false, List, [], ◌∷◌, ◌++◌, length, get_or, take, map, refl, sym}
use Rattle.std.proofs.Common.{ap, ◌∙◌, arith, append_assoc}
use Rattle.std.specs.Prelude.{◌==◌}
use Rattle.std.specs.Str.Lines.{lines}
use Rattle.std.proofs.lemmas.List.{take_more, map_push, flat_map_more, length-map, length-take-le, length_push}
use Rattle.std.proofs.lemmas.List.{append-nil}
use Rattle.std.proofs.lemmas.Bool.{cond-false}
use Rattle.std.proofs.lemmas.Bool.Decides.{nat_tests}
use Rattle.htmd_text.specs.Indents.{next_line, line_text, indented_lines, indented_text}

indented_push : (indent : ℕ) (zs : List (List ℕ)) (x : List ℕ) → 0 < length zs
    → indented_lines indent (zs ++ x ∷ []) ≡ indented_lines indent zs ++ next_line indent x
indented_push indent [] x some = absurd (omega arith)
indented_push indent (y ∷ ys) x some = sym (flat_map_more (next_line indent) y ys x)

mapped_more : (f : List ℕ → List ℕ) (ls : List (List ℕ)) (n : ℕ) (x : List ℕ)
    → (n < length ls) × (x ≡ get_or ls n x)
    → map f (take (n + 1) ls) ≡ map f (take n ls) ++ f x ∷ []
mapped_more f ls n x here =
    ap (map f) (take_more ls n x here.0 ∙ ap (λ y. take n ls ++ y ∷ []) (sym here.1)) ∙ map_push f (take n ls) x

-- the first line, after what stood before
pub first_line : (indent : ℕ) (f : List ℕ → List ℕ) (ls : List (List ℕ)) (n : ℕ) (x before out : List ℕ)
    → (n < length ls) × (x ≡ get_or ls n x) → n ≡ 0
    → out ≡ before ++ indented_lines indent (map f (take n ls))
    → out ++ f x ≡ before ++ indented_lines indent (map f (take (n + 1) ls))
first_line indent f ls n x before out here start was =
    let none : take n ls ≡ [] = rw start refl in
    rw (was, mapped_more f ls n x here, none) (simp append-nil)

-- a further line
pub later_line : (indent : ℕ) (f : List ℕ → List ℕ) (ls : List (List ℕ)) (n : ℕ) (x before out : List ℕ)
    → (n < length ls) × (x ≡ get_or ls n x) → 0 < n
    → out ≡ before ++ indented_lines indent (map f (take n ls))
    → out ++ next_line indent (f x) ≡ before ++ indented_lines indent (map f (take (n + 1) ls))
later_line indent f ls n x before out here some was =
    let size : length (map f (take n ls)) ≡ n = length-map (take n ls) f
    ∙ length-take-le n ls (omega (arith, here.0)) in
    let lines = map f (take n ls) in
    rw (was, mapped_more f ls n x here) (append_assoc before (indented_lines indent lines) (next_line indent (f x))
    ∙ ap (λ l. before ++ l) (sym (indented_push indent lines (f x) (omega arith))))

pub pushed_some : {X : Type 0} (xs : List X) (x : X) → false ≡ (length (xs ++ x ∷ []) == 0)
pushed_some xs x = let size = length_push xs x in grind (arith, nat_tests)

pub lines_indented : (s : List ℕ) (indent : ℕ) (trim_line_end : Bool) → ¬ (indent ≡ 0)
    → indented_lines indent (map (line_text trim_line_end) (lines s)) ≡ indented_text s indent trim_line_end
lines_indented s indent trim_line_end some =
    let test : (indent == 0) ≡ false = grind (arith, nat_tests) in
    sym (cond-false (indent == 0) s (indented_lines indent (map (line_text trim_line_end) (lines s))) test)
