-- What is left to prove of `plan`.
use Rattle.std.proofs.Common.{◌≡◌, ◌∙◌, sym, ap, subst, ℕ, List, Some}
use Rattle.std.specs.List.{Contains, slice_get}
use Rattle.std.specs.Option.{option_copied}
use Rattle.std.proofs.lemmas.Option.{slice_get_within, get_or_from_slice_get}
use Rattle.htmd_nodes.specs.Items.{Item, children_of, child}
use Rattle.htmd_test_converter.proofs.handlers.FirstChildElementHandler.plan.Goals as goal

-- what is got at a place is contained
got_is_contained : (xs : List ℕ) (x : ℕ) → slice_get xs 0 ≡ Some x → Contains xs x
got_is_contained xs x e = (0, slice_get_within xs 0 x e, get_or_from_slice_get xs 0 x x e)

pub returns-in-Some-clause-proper : goal.returns-in-Some-clause-proper
returns-in-Some-clause-proper c =
    ∣ child {d = c.in-Some.child.now} (subst (λ xs. Contains xs c.in-Some.child.now)
    (c.children.ensures.value ∙ ap (λ (items : List Item). children_of items c.args.element.now.node) c.tree.ensures)
    (got_is_contained c.children.result.now c.in-Some.child.now
    (sym c.first.ensures.value ∙ ap option_copied c.in-Some.is))) ∣₁
