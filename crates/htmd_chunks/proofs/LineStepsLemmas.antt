-- One more line of a code block.
use Rattle.std.proofs.Common.{◌≡◌, ℕ, ◌+◌, Bool, true, false, not, List, [], ◌∷◌, ◌++◌, length}
use Rattle.std.proofs.Common.{map, refl, sym, ap, ◌∙◌, arith}
use Rattle.std.specs.Prelude.{◌&&◌, ◌||◌}
use Rattle.std.specs.Borrow.{Bor}
use Rattle.std.specs.List.{join_by, list_all, sum_by}
use Rattle.std.proofs.lemmas.List.{length_push}
use Rattle.std.proofs.lemmas.List.Folds.{flat_map-map, list_all-append}
use Rattle.std.proofs.lemmas.List.Sums.{sum_by_push}
use Rattle.htmd_text.specs.Joins.{joined_texts}
use Rattle.htmd_chunks.specs.CodeLines.{is_blank, line_cost, units_from}
use Rattle.htmd_chunks.specs.UnitViews.{unit_of_lines}
use Rattle.htmd_chunks.specs.declared.size.Margin.{Margin}
use Rattle.htmd_chunks.specs.declared.units.Unit.{Unit}

-- the line begins a unit
pub unit-begun : (begun : List (List ℕ)) (line : List ℕ) (rest : List (List ℕ)) → is_blank line ≡ false
    → not (list_all is_blank begun) ≡ true
    → units_from begun (line ∷ rest) ≡ begun ∷ units_from (line ∷ []) rest
unit-begun begun line rest filled some = rw (filled, some) refl

-- it goes on with one
pub unit-on : (begun : List (List ℕ)) (line : List ℕ) (rest : List (List ℕ))
    → (not (is_blank line) && not (list_all is_blank begun)) ≡ false
    → units_from begun (line ∷ rest) ≡ units_from (begun ++ line ∷ []) rest
unit-on begun line rest on = rw on refl

pub on-blank : (a b : Bool) → a ≡ true → (not a && b) ≡ false
on-blank a b blank = rw blank refl

pub on-none : (a b : Bool) → b ≡ false → (not a && b) ≡ false
on-none true b none = refl
on-none false b none = none

-- ---- what is counted

unit-is : (a b c d : ℕ) → a ≡ c → b ≡ d
    → ◌≡◌ {A = Unit} (record { count = a; bytes = b }) (record { count = c; bytes = d })
unit-is a b c d p q = cc

pub unit-first : (m : Margin) (line : List ℕ) (count bytes : ℕ) → count ≡ 0 + 1
    → bytes ≡ 0 + line_cost m line
    → ◌≡◌ {A = Unit} (record { count = count; bytes = bytes }) (unit_of_lines m (line ∷ []))
unit-first m line count bytes counted taken =
    unit-is count bytes (length (line ∷ [])) (sum_by (line_cost m) (line ∷ [])) (counted ∙ omega arith)
    (taken ∙ omega arith)

pub unit-more : (m : Margin) (begun : List (List ℕ)) (line : List ℕ) (unit : Unit) (count bytes : ℕ)
    → unit ≡ unit_of_lines m begun → count ≡ unit.count + 1 → bytes ≡ unit.bytes + line_cost m line
    → ◌≡◌ {A = Unit} (record { count = count; bytes = bytes }) (unit_of_lines m (begun ++ line ∷ []))
unit-more m begun line unit count bytes is counted taken =
    unit-is count bytes (length (begun ++ line ∷ [])) (sum_by (line_cost m) (begun ++ line ∷ []))
    (counted ∙ ap (λ (u : Unit). u.count + 1) is ∙ sym (length_push begun line))
    (taken ∙ ap (λ (u : Unit). u.bytes + line_cost m line) is ∙ sym (sum_by_push (line_cost m) begun line))

-- ---- whether something stands in the unit

pub begun-first : (was : Bool) (line : List ℕ) → was ≡ true → is_blank line ≡ false
    → (was || not (is_blank line)) ≡ not (list_all is_blank (line ∷ []))
begun-first was line some filled = rw (some, filled) refl

pub begun-more : (was : Bool) (begun : List (List ℕ)) (line : List ℕ) → was ≡ not (list_all is_blank begun)
    → (was || not (is_blank line)) ≡ not (list_all is_blank (begun ++ line ∷ []))
begun-more was begun line is =
    ap (λ b. b || not (is_blank line)) is ∙ either (list_all is_blank begun) (is_blank line)
    ∙ sym (ap not (list_all-append is_blank begun (line ∷ [])))
  where
    either : (a b : Bool) → (not a || not b) ≡ not (a && (b && true))
    either true true = refl
    either true false = refl
    either false b = refl

-- ---- the text of lines

pub joined-by : (separator : List ℕ) (lines : List (Bor (List ℕ)))
    → join_by (λ (line : Bor (List ℕ)). line.now) separator lines
    ≡ joined_texts separator (map (λ line. line.now) lines)
joined-by separator [] = refl
joined-by separator (line ∷ lines) =
    ap (λ l. line.now ++ l)
    (sym (flat_map-map (λ next. separator ++ next) (λ (line : Bor (List ℕ)). line.now) lines))
