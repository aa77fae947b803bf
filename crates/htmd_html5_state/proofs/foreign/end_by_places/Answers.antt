-- The innermost of the two decides.
use Rattle.std.proofs.Common.{◌⊎◌, ◌≤◌, ◌<◌, ℕ, inl, inr, subst, sym, arith}
use Rattle.htmd_html5_state.proofs.ForeignLemmas.{ends_nothing, ends_by_mode, ends_closed}
use Rattle.htmd_html5_state.proofs.foreign.end_by_places.Goals as goal

pub returns-then-html-le1 : goal.returns-then-html-le1
returns-then-html-le1 c = λ s stack spelled inner.
    sym (ends_nothing s stack (omega (arith, spelled, c.if-spelled-le1.true))
    (omega (arith, inner, c.if-html-le1.true)))

spelled_inside : (a b : ℕ) → ((a ≤ 1) × (1 < b)) ⊎ (1 < a) → b < a → 1 < a
spelled_inside a b (inl w) l = absurd (let low = w.0 in let high = w.1 in omega (arith, low, high, l))
spelled_inside a b (inr w) l = w

html_inside : (a b : ℕ) → ((a ≤ 1) × (1 < b)) ⊎ (1 < a) → a ≤ b → 1 < b
html_inside a b (inl w) l = w.1
html_inside a b (inr w) l = omega (arith, w, l)

pub returns-then-spelled-html : goal.returns-then-spelled-html
returns-then-spelled-html c = λ s stack spelled inner.
    ends_closed s stack c.args.spelled spelled (omega (arith, inner, c.if-spelled-html.true))
    (spelled_inside c.args.spelled c.args.html c.else-spelled-le1.either c.if-spelled-html.true)

pub returns-else-spelled-html : goal.returns-else-spelled-html
returns-else-spelled-html c = λ s stack spelled inner.
    sym (ends_by_mode s stack (omega (arith, spelled, inner, c.if-spelled-html.false))
    (subst (λ (n : ℕ). 1 < n) inner
    (html_inside c.args.spelled c.args.html c.else-spelled-le1.either c.if-spelled-html.false)))
