-- One more line of a quote.
use Rattle.std.proofs.Common.{◌≡◌, ℕ, ◌+◌, ◌<◌, Bool, false, List, [], ◌∷◌, ◌++◌, length, get_or, take, map, sym, ap}
use Rattle.std.proofs.Common.{◌∙◌, append_assoc, arith}
use Rattle.std.specs.Prelude.{◌==◌, if◌then◌else◌, codes}
use Rattle.std.proofs.lemmas.List.{take_more, map_push, flat_map_more, append-nil, length-take-le}
use Rattle.std.proofs.lemmas.Bool.Decides.{nat_tests}
use Rattle.std.specs.List.{flat_map}
use Rattle.htmd_lexical.specs.Characters.{line_feed}
use Rattle.htmd_markdown.specs.Quotes.{quoted_line, quoted_lines}

-- what comes before a line
abbrev pub marker : Bool → List ℕ
marker is_first = if is_first then codes "> " else codes "\n> "

pushed : (zs : List (List ℕ)) (x : List ℕ)
    → quoted_lines (zs ++ x ∷ []) ≡ (quoted_lines zs ++ marker (length zs == 0))
    ++ x
pushed [] x = append-nil (quoted_line x)
pushed (y ∷ ys) x =
    let later : false ≡ (length (y ∷ ys) == 0) = grind (arith, nat_tests) in
    ap (λ l. quoted_line y ++ flat_map (λ next. line_feed ∷ next) l) (map_push quoted_line ys x)
    ∙ sym (flat_map_more (λ next. line_feed ∷ next) (quoted_line y) (map quoted_line ys) (quoted_line x))
    ∙ sym (append_assoc (quoted_lines (y ∷ ys)) (codes "\n> ") x)
    ∙ ap (λ first. (quoted_lines (y ∷ ys) ++ marker first) ++ x) later

-- one more line of the text, after its marker
pub one_more : (start : List ℕ) (ls : List (List ℕ)) (n : ℕ) (x out : List ℕ) (is_first : Bool)
    → (n < length ls) × (x ≡ get_or ls n x) → is_first ≡ (n == 0) → out ≡ start ++ quoted_lines (take n ls)
    → (out ++ marker is_first) ++ x ≡ start ++ quoted_lines (take (n + 1) ls)
one_more start ls n x out is_first here begun was =
    let size : length (take n ls) ≡ n = length-take-le n ls (omega (arith, here.0)) in
    let more : take (n + 1) ls ≡ take n ls ++ x ∷ [] = take_more ls n x here.0
    ∙ ap (λ y. take n ls ++ y ∷ []) (sym here.1) in
    let first : marker is_first ≡ marker (length (take n ls) == 0) =
    ap marker (begun ∙ ap (λ k. k == 0) (sym size)) in
    ap (λ l. (l ++ marker is_first) ++ x) was
    ∙ ap (λ l. ((start ++ quoted_lines (take n ls)) ++ l) ++ x) first
    ∙ ap (λ l. l ++ x) (append_assoc start (quoted_lines (take n ls)) (marker (length (take n ls) == 0)))
    ∙ append_assoc start (quoted_lines (take n ls) ++ marker (length (take n ls) == 0)) x
    ∙ ap (λ l. start ++ l) (sym (pushed (take n ls) x) ∙ ap quoted_lines (sym more))
