-- The language of a code block, one class after another.
use Rattle.std.proofs.Common.{◌≡◌, ℕ, ◌+◌, ◌<◌, Bool, List, ◌∷◌, length, get_or, drop, Option, Some, None}
use Rattle.std.proofs.Common.{if◌then◌else◌, refl, sym, ap, ◌∙◌, codes, ◌&&◌, []}
use Rattle.std.specs.List.{list_all}
use Rattle.std.specs.Option.{option_or}
use Rattle.htmd_nodes.specs.Items.{Item}
use Rattle.htmd_walk.proofs.Steps.{stepped}
use Rattle.htmd_walk.specs.ElementPlans.{is_tag_among, tag_at}
use Rattle.htmd_walk.specs.Code.{language_of_class, first_language, language_at, language_of_pre}

pub language-here : (all : List (List ℕ)) (k : ℕ) (class language : List ℕ) → k < length all
    → class ≡ get_or all k class
    → Some language ≡ language_of_class class → first_language (drop k all) ≡ Some language
language-here all k class language l here found =
    stepped first_language all k class l here
    ∙ ap (λ x. option_or x (first_language (drop (k + 1) all))) (sym found)

pub language-later : (all : List (List ℕ)) (k : ℕ) (class : List ℕ) → k < length all
    → class ≡ get_or all k class
    → None ≡ language_of_class class → first_language (drop k all) ≡ first_language (drop (k + 1) all)
language-later all k class l here found =
    stepped first_language all k class l here
    ∙ ap (λ x. option_or x (first_language (drop (k + 1) all))) (sym found)

pub all-step : (test : ℕ → Bool) (all : List ℕ) (k x : ℕ) → k < length all → x ≡ get_or all k x
    → list_all test (drop k all) ≡ (test x && list_all test (drop (k + 1) all))
all-step test all k x l here = stepped (list_all test) all k x l here

-- the language that a node names if it is `pre`
pub pre_language : (items : List Item) (node : Option ℕ) → language_of_pre items node
    ≡ (if is_tag_among (codes "pre" ∷ []) (tag_at items node) then language_at items node else None)
unfolding language_of_pre
pre_language items node = refl
