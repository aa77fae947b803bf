-- The texts of a table, part by part.
use Rattle.std.proofs.Common.{◌≡◌, ℕ, zero, suc, ◌+◌, ◌<◌, ◌≤◌, List, [], ◌∷◌, length, get_or, take, drop, min, refl}
use Rattle.std.proofs.Common.{sym, ap, ◌∙◌}
use Rattle.std.proofs.lemmas.List.{drop_more, drop_all, take_min, drop_min}
use Rattle.htmd_walk.specs.declared.element_handler.HandlerResult.{HandlerResult}
use Rattle.htmd_walk.specs.declared.element_handler.table_layout.Part.{Part}
use Rattle.htmd_walk.specs.Handling.{ResultView}
use Rattle.htmd_walk.specs.Tables.{TableTexts, with_part, with_parts}
use Rattle.htmd_walk.specs.TableViews.{parts_view}
use Rattle.htmd_walk.specs.Views.{result_view, results_view}

pub map-take : (n : ℕ) (xs : List HandlerResult) → results_view (take n xs) ≡ take n (results_view xs)
map-take zero xs = refl
map-take (suc n) [] = refl
map-take (suc n) (x ∷ xs) = ap (λ ys. result_view x ∷ ys) (map-take n xs)

pub map-drop : (n : ℕ) (xs : List HandlerResult) → results_view (drop n xs) ≡ drop n (results_view xs)
map-drop zero xs = refl
map-drop (suc n) [] = refl
map-drop (suc n) (x ∷ xs) = map-drop n xs

-- one more part
pub part_at : (texts : TableTexts) (parts : List Part) (i : ℕ) (p : Part) (rest own behind : List HandlerResult)
    → i < length parts → p ≡ get_or parts i p → own ≡ take (min (length p.nodes.items) (length rest)) rest
    → behind ≡ drop (min (length p.nodes.items) (length rest)) rest
    → with_parts texts (parts_view (drop i parts)) (results_view rest)
    ≡ with_parts (with_part texts p.kind (results_view own)) (parts_view (drop (i + 1) parts)) (results_view behind)
part_at texts parts i p rest own behind l e f g =
    let n = length p.nodes.items in
    let later = parts_view (drop (i + 1) parts) in
    ap (λ ps. with_parts texts (parts_view ps) (results_view rest))
    (drop_more parts i p l ∙ ap (λ x. x ∷ drop (i + 1) parts) (sym e))
    ∙ ap (λ rs. with_parts (with_part texts p.kind rs) later (drop n (results_view rest)))
    (sym (ap results_view (f ∙ take_min n rest) ∙ map-take n rest))
    ∙ ap (λ rs. with_parts (with_part texts p.kind (results_view own)) later rs)
    (sym (ap results_view (g ∙ drop_min n rest) ∙ map-drop n rest))

pub parts_end : (texts : TableTexts) (parts : List Part) (i : ℕ) (contents : List ResultView) → length parts ≤ i
    → with_parts texts (parts_view (drop i parts)) contents ≡ texts
parts_end texts parts i contents l = ap (λ ps. with_parts texts (parts_view ps) contents) (drop_all i parts l)
