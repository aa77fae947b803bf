-- The child, or none.
use Rattle.htmd_html5_state.proofs.DocumentLemmas.{index_of-last, index_of-all}
use Rattle.htmd_html5_state.proofs.document.index_of.Goals as goal

pub returns-then-last-child-clause-place : goal.returns-then-last-child-clause-place
returns-then-last-child-clause-place c =
    index_of-last c.args.child c.args.children.now c.loop-rest.rest.now c.loop-rest.invariant.0 c.loop-rest.invariant.1
    c.loop-rest.invariant.2 c.in-len1-up.len_at_least c.if-last-child.true

pub returns-clause-place : goal.returns-clause-place
returns-clause-place c =
    index_of-all c.args.child c.args.children.now c.loop-rest.rest.now c.loop-rest.invariant.0 c.loop-rest.invariant.1
    c.loop-rest.invariant.2 c.in_default.len_below
