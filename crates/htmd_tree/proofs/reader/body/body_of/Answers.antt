-- The part and its place.
use Rattle.std.proofs.Common.{◌≡◌, ◌-◌, ◌∙◌, ap, sym, subst, ℕ, List, length, Some, None}
use Rattle.htmd_tree.specs.Bodies.{body_part, body_place, part_behind, place_behind, StandsAt}
use Rattle.htmd_tree.specs.Bodies.{behind_first_start_tag, before_last_end_tag}
use Rattle.htmd_tree.proofs.BodyLawsLemmas.{start_within, part_stands}
use Rattle.htmd_tree.proofs.reader.body.body_of.Goals as goal

pub overflow_sub-result : goal.overflow_sub-result
overflow_sub-result c = start_within c.args.html.now c.in-Some.behind.now (sym c.in-Some.ensures)

-- equal parts at equal places
same_stand : (html part wanted : List ℕ) (place from : ℕ) → part ≡ wanted → place ≡ from
    → StandsAt wanted from html → StandsAt part place html
same_stand html part wanted place from p q s =
    subst (λ x. StandsAt x place html) (sym p) (subst (λ n. StandsAt wanted n html) (sym q) s)

part_found : (html part rest : List ℕ) → part ≡ before_last_end_tag rest
    → Some rest ≡ behind_first_start_tag html
    → part ≡ body_part html
unfolding body_part
part_found html part rest e f = e ∙ ap (part_behind html) f

place_found : (html rest : List ℕ) → Some rest ≡ behind_first_start_tag html
    → length html - length rest ≡ body_place html
unfolding body_place
place_found html rest f = ap (place_behind html) f

part_all : (html : List ℕ) → None ≡ behind_first_start_tag html → html ≡ body_part html
unfolding body_part
part_all html f = ap (part_behind html) f

place_all : (html : List ℕ) → None ≡ behind_first_start_tag html → 0 ≡ body_place html
unfolding body_place
place_all html f = ap (place_behind html) f

pub returns-in-Some-clause-part : goal.returns-in-Some-clause-part
returns-in-Some-clause-part c =
    part_found c.args.html.now c.before_last_end_tag.result.now c.in-Some.behind.now c.before_last_end_tag.ensures
    c.in-Some.ensures

pub returns-in-Some-clause-place : goal.returns-in-Some-clause-place
returns-in-Some-clause-place c = place_found c.args.html.now c.in-Some.behind.now c.in-Some.ensures

pub returns-in-Some-clause-stands : goal.returns-in-Some-clause-stands
returns-in-Some-clause-stands c =
    same_stand c.args.html.now c.before_last_end_tag.result.now _ _ _
    (part_found c.args.html.now c.before_last_end_tag.result.now c.in-Some.behind.now c.before_last_end_tag.ensures
    c.in-Some.ensures)
    (place_found c.args.html.now c.in-Some.behind.now c.in-Some.ensures)
    (part_stands c.args.html.now)

pub returns-in-None-clause-part : goal.returns-in-None-clause-part
returns-in-None-clause-part c = part_all c.args.html.now c.in-None.ensures

pub returns-in-None-clause-place : goal.returns-in-None-clause-place
returns-in-None-clause-place c = place_all c.args.html.now c.in-None.ensures

pub returns-in-None-clause-stands : goal.returns-in-None-clause-stands
returns-in-None-clause-stands c =
    same_stand c.args.html.now c.args.html.now _ _ _ (part_all c.args.html.now c.in-None.ensures)
    (place_all c.args.html.now c.in-None.ensures)
    (part_stands c.args.html.now)
