-- A step more is a step less that is left.
use Rattle.std.proofs.Common.{arith, ◌≡◌, ◌∙◌, ap, suc}
use Rattle.htmd_test_converter.specs.Plans.{down}
use Rattle.htmd_test_converter.proofs.handlers.node_below.Goals as goal

pub loop-init : goal.loop-init
loop-init c = (
  c.requires,
  λ n e. let all : n ≡ c.args.levels = omega (arith, e) in
      ap (λ m. down c.args.tree.now m c.args.node) all,
)

pub first_child_or-below-requires : goal.first_child_or-below-requires
first_child_or-below-requires c = c.loop.invariant.0

pub loop-preserved : goal.loop-preserved
loop-preserved c = (
  c.first_child_or-below.ensures.within,
  λ n e.
      ap (λ m. down c.args.tree.now n m) c.first_child_or-below.ensures.first
      ∙ c.loop.invariant.1 (suc n) (omega (arith, e)),
)

pub returns : goal.returns
returns c = c.loop.invariant.1 0 (omega (arith, c.loop-test.false, c.loop.auto.counter-end))
