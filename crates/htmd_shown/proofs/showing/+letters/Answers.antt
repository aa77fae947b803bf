use Rattle.std.proofs.Common.{◌+◌, ◌<◌, ◌≤◌, ◌||◌, length, drop, sym, ap, ◌∙◌}
use Rattle.htmd_shown.specs.Attributes.{is_filled}
use Rattle.htmd_shown.specs.Marks.{letters_of}
use Rattle.htmd_shown.specs.Showings.{code_shows}
use Rattle.htmd_shown.specs.SimpleViews.{simple_of, simples_of}
use Rattle.htmd_shown.proofs.ShapesLemmas.{formula_shape}
use Rattle.htmd_shown.proofs.ShowingsLemmas.{filled-more, letters-at, letters-end}
use Rattle.htmd_shown.proofs.showing.+letters.Goals as goal

pub has_letter-returns-in-Formula : goal.has_letter-returns-in-Formula
has_letter-returns-in-Formula t c =
    sym (filled-more _)
    ∙ sym (ap (λ v. is_filled (letters_of v)) (ap simple_of c.in-Formula.is
    ∙ formula_shape c.in-Formula.tex c.in-Formula.is_alone c.in-Formula.attrs))

pub code_shows-loop-tree-preserved : goal.code_shows-loop-tree-preserved
code_shows-loop-tree-preserved t c =
    let h : c.loop-tree.tree-index < length c.args.trees.now = c.loop-tree-test.true in
    let rest = code_shows (simples_of (drop (c.loop-tree.tree-index + 1) c.args.trees.now)) in
    sym (ap (λ b. b || rest) (sym c.has_letter.ensures ∙ c.if-has_letter.false))
    ∙ (sym (letters-at c.args.trees.now c.loop-tree.tree-index c.tree-item.result h c.tree-item.is)
    ∙ c.loop-tree.invariant)

pub code_shows-returns-then-has_letter : goal.code_shows-returns-then-has_letter
code_shows-returns-then-has_letter t c =
    let h : c.loop-tree.tree-index < length c.args.trees.now = c.loop-tree-test.true in
    let rest = code_shows (simples_of (drop (c.loop-tree.tree-index + 1) c.args.trees.now)) in
    sym (ap (λ b. b || rest) (sym c.has_letter.ensures ∙ c.if-has_letter.true))
    ∙ (sym (letters-at c.args.trees.now c.loop-tree.tree-index c.tree-item.result h c.tree-item.is)
    ∙ c.loop-tree.invariant)

pub code_shows-returns : goal.code_shows-returns
code_shows-returns t c =
    let h : length c.args.trees.now ≤ c.loop-tree.tree-index = c.loop-tree-test.false in
    sym (letters-end c.args.trees.now c.loop-tree.tree-index h) ∙ c.loop-tree.invariant
