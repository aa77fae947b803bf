use Rattle.std.proofs.Common.{◌+◌, ◌<◌, ◌≤◌, ◌||◌, length, drop, sym, ap, ◌∙◌, string_bytes}
use Rattle.std.specs.List.{list_any}
use Rattle.htmd_shown.specs.Marks.{is_usual_sign, letters, letters_of}
use Rattle.htmd_shown.specs.Showings.{show_usual_sign}
use Rattle.htmd_shown.specs.SimpleViews.{simple_of, simples_of}
use Rattle.htmd_shown.proofs.ShapesLemmas.{formula_shape}
use Rattle.htmd_shown.proofs.ShowingsLemmas.{framed-signs, signs-at, signs-end}
use Rattle.htmd_shown.proofs.showing.+signs.Goals as goal

pub shows_usual_sign-returns-in-Formula : goal.shows_usual_sign-returns-in-Formula
shows_usual_sign-returns-in-Formula t c =
    c.has_sign-in-Formula.ensures.whole
    ∙ ap (λ s. list_any is_usual_sign (letters s)) c.as_str.ensures.value
    ∙ sym (framed-signs (letters (string_bytes c.in-Formula.tex)))
    ∙ sym (ap (λ v. list_any is_usual_sign (letters_of v)) (ap simple_of c.in-Formula.is
    ∙ formula_shape c.in-Formula.tex c.in-Formula.is_alone c.in-Formula.attrs))

pub show_usual_sign-loop-tree-preserved : goal.show_usual_sign-loop-tree-preserved
show_usual_sign-loop-tree-preserved t c =
    let h : c.loop-tree.tree-index < length c.args.trees.now = c.loop-tree-test.true in
    let rest = show_usual_sign (simples_of (drop (c.loop-tree.tree-index + 1) c.args.trees.now)) in
    sym (ap (λ b. b || rest) (sym c.shows_usual_sign.ensures ∙ c.if-shows_usual_sign.false))
    ∙ (sym (signs-at c.args.trees.now c.loop-tree.tree-index c.tree-item.result h c.tree-item.is)
    ∙ c.loop-tree.invariant)

pub show_usual_sign-returns-then-shows_usual_sign : goal.show_usual_sign-returns-then-shows_usual_sign
show_usual_sign-returns-then-shows_usual_sign t c =
    let h : c.loop-tree.tree-index < length c.args.trees.now = c.loop-tree-test.true in
    let rest = show_usual_sign (simples_of (drop (c.loop-tree.tree-index + 1) c.args.trees.now)) in
    sym (ap (λ b. b || rest) (sym c.shows_usual_sign.ensures ∙ c.if-shows_usual_sign.true))
    ∙ (sym (signs-at c.args.trees.now c.loop-tree.tree-index c.tree-item.result h c.tree-item.is)
    ∙ c.loop-tree.invariant)

pub show_usual_sign-returns : goal.show_usual_sign-returns
show_usual_sign-returns t c =
    let h : length c.args.trees.now ≤ c.loop-tree.tree-index = c.loop-tree-test.false in
    sym (signs-end c.args.trees.now c.loop-tree.tree-index h) ∙ c.loop-tree.invariant
