-- What an end tag in foreign content does, by places.
use Rattle.std.proofs.Common.{◌≡◌, ℕ, suc, ◌<◌, ◌≤◌, ◌-◌, Bool, true, false, cond, List, [], ◌∷◌, length, drop}
use Rattle.std.proofs.Common.{ap, ◌∙◌, refl, arith}
use Rattle.htmd_lexical.proofs.Cases.{test}
use Rattle.htmd_html5_state.specs.Foreign.{ForeignEnd, foreign_end, is_html, by_mode, closed_to, nothing}
use Rattle.htmd_html5_state.specs.ForeignPlaces.{is_spelled}
use Rattle.htmd_html5_state.specs.OpenElements.{OpenValue}
use Rattle.htmd_html5_state.specs.Places.{innermost}
use Rattle.htmd_html5_state.proofs.PlacesLemmas.{innermost-within}

here : (p : OpenValue → Bool) (e : OpenValue) (es : List OpenValue) → p e ≡ true
    → innermost p (e ∷ es) ≡ suc (length es)
here p e es t = ap (λ (r : Bool). cond r (suc (length es)) (innermost p es)) t

past : (p : OpenValue → Bool) (e : OpenValue) (es : List OpenValue) → p e ≡ false
    → innermost p (e ∷ es) ≡ innermost p es
past p e es t = ap (λ (r : Bool). cond r (suc (length es)) (innermost p es)) t

pub ends_nothing : (s : List ℕ) (es : List OpenValue) → innermost (is_spelled s) es ≤ 1
    → innermost is_html es ≤ 1
    → foreign_end s es ≡ nothing
ends_nothing s [] spelled inner = refl
ends_nothing s (e ∷ []) spelled inner = refl
ends_nothing s (e ∷ f ∷ es) spelled inner =
    test (is_html e)
    (λ t. absurd (omega (arith, inner, here is_html e (f ∷ es) t)))
    (λ t. test (is_spelled s e)
    (λ u. absurd (omega (arith, spelled, here (is_spelled s) e (f ∷ es) u)))
    (λ u. rw (t, u) (ends_nothing s (f ∷ es) (omega (arith, spelled, past (is_spelled s) e (f ∷ es) u))
    (omega (arith, inner, past is_html e (f ∷ es) t)))))

pub ends_by_mode : (s : List ℕ) (es : List OpenValue) → innermost (is_spelled s) es ≤ innermost is_html es
    → 1 < innermost is_html es → foreign_end s es ≡ by_mode
ends_by_mode s [] less some = absurd (omega (arith, some))
ends_by_mode s (e ∷ []) less some = absurd (omega (arith, some, innermost-within is_html (e ∷ [])))
ends_by_mode s (e ∷ f ∷ es) less some =
    test (is_html e) (λ t. rw t refl)
    (λ t.
    let inner = past is_html e (f ∷ es) t in
    test (is_spelled s e)
    (λ u. absurd (omega (arith, less, inner, here (is_spelled s) e (f ∷ es) u, innermost-within is_html (f ∷ es))))
    (λ u. rw (t, u) (ends_by_mode s (f ∷ es) (omega (arith, less, inner, past (is_spelled s) e (f ∷ es) u))
    (omega (arith, some, inner)))))

-- one element more is dropped
drop-more : (e : OpenValue) (es : List OpenValue) (len : ℕ) → len ≤ length es
    → drop (length (e ∷ es) - len) (e ∷ es) ≡ drop (length es - len) es
drop-more e es len l =
    let s : length (e ∷ es) - len ≡ suc (length es - len) = omega (arith, l) in
    ap (λ (k : ℕ). drop k (e ∷ es)) s

pub ends_closed : (s : List ℕ) (es : List OpenValue) (place : ℕ) → place ≡ innermost (is_spelled s) es
    → innermost is_html es < place → 1 < place
    → closed_to (drop (length es - (place - 1)) es) ≡ foreign_end s es
ends_closed s [] place is inner some = absurd (omega (arith, is, some))
ends_closed s (e ∷ []) place is inner some =
    absurd (omega (arith, is, some, innermost-within (is_spelled s) (e ∷ [])))
ends_closed s (e ∷ f ∷ es) place is inner some =
    let within = innermost-within (is_spelled s) (f ∷ es) in
    test (is_html e)
    (λ t. absurd (omega (
      arith,
      is,
      inner,
      here is_html e (f ∷ es) t,
      innermost-within (is_spelled s) (e ∷ f ∷ es),
    )))
    (λ t. test (is_spelled s e)
    (λ u.
    let one : length (e ∷ f ∷ es) - (place - 1) ≡ 1 = omega (arith, is, here (is_spelled s) e (f ∷ es) u) in
    rw (t, u) (ap (λ (k : ℕ). closed_to (drop k (e ∷ f ∷ es))) one))
    (λ u.
    let at = past (is_spelled s) e (f ∷ es) u in
    rw (t, u) (ap closed_to (drop-more e (f ∷ es) (place - 1) (omega (arith, is, at, within)))
    ∙ ends_closed s (f ∷ es) place (omega (arith, is, at)) (omega (arith, inner, past is_html e (f ∷ es) t))
    some)))
