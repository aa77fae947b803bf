-- Where steps to a first child lead is below, if it is another node.
use Rattle.std.proofs.Common.{arith, ◌≡◌, ◌≢◌, ◌∙◌, sym, ap, subst, refl, ℕ, zero, suc, List, [], ◌∷◌}
use Rattle.std.proofs.lemmas.Bool.{eqb-false}
use Rattle.std.specs.List.{Contains}
use Rattle.htmd_nodes.specs.Items.{Item, children_of, IsBelow, child, deeper}
use Rattle.htmd_test_converter.specs.Plans.{down, first_or}
use Rattle.htmd_test_converter.proofs.handlers.FirstBelowElementHandler.plan.Goals as goal

first_contained : (x : ℕ) (xs : List ℕ) → Contains (x ∷ xs) x
first_contained x xs = (0, omega arith, refl)

-- a step from below leads below
stepped_below : (items : List Item) (node d : ℕ) (ids : List ℕ) → ids ≡ children_of items d
    → IsBelow items node d → IsBelow items node (first_or ids d)
stepped_below items node d [] e below = below
stepped_below items node d (x ∷ ids) e below =
    deeper {p = d} below (subst (λ xs. Contains xs x) e (first_contained x ids))

steps_below : (items : List Item) (node n d : ℕ) → IsBelow items node d
    → IsBelow items node (down items n d)
steps_below items node zero d below = below
steps_below items node (suc n) d below = steps_below items node n (first_or (children_of items d) d)
    (stepped_below items node d (children_of items d) refl below)

-- so do steps of which one leads away
first_below : (items : List Item) (n node : ℕ) (ids : List ℕ) → ids ≡ children_of items node
    → (down items n node ≢ node → IsBelow items node (down items n node))
    → down items n (first_or ids node) ≢ node → IsBelow items node (down items n (first_or ids node))
first_below items n node [] e behind other = behind other
first_below items n node (x ∷ ids) e behind other =
    steps_below items node n x (child {d = x} (subst (λ xs. Contains xs x) e (first_contained x ids)))

down_below : (items : List Item) (n node : ℕ) → down items n node ≢ node
    → IsBelow items node (down items n node)
down_below items zero node other = absurd (other refl)
down_below items (suc n) node other =
    first_below items n node (children_of items node) refl (down_below items n node) other

pub returns-clause-proper : goal.returns-clause-proper
returns-clause-proper c =
    let items = c.args.element.now.tree.now in
    let node = c.args.element.now.node in
    let levels = c.args.self.now.levels in
    let e : c.node_below-below.result ≡ down items levels node =
    c.node_below-below.ensures ∙ ap (λ (t : List Item). down t levels node) c.tree.ensures in
    let other = sym c.eq.ensures ∙ c.if-eq.false in
    ∣ subst (λ d. IsBelow items node d) (sym e)
    (down_below items levels node (λ same. eqb-false c.node_below-below.result node other (e ∙ same))) ∣₁
