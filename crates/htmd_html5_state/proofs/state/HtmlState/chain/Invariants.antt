-- What is left goes on from what was made.
use Rattle.std.proofs.Common.{◌≡◌, vec_len}
use Rattle.htmd_html5_state.specs.Adoption.{chain, begin_chain}
use Rattle.htmd_html5_state.specs.AdoptionViews.{chain_of}
use Rattle.htmd_html5_state.specs.OpenViews.{stack_of}
use Rattle.htmd_html5_state.proofs.state.HtmlState.chain.Given as goal

abbrev pub invariant-loop-element : goal.invariant-loop-element
invariant-loop-element l =
    chain l.left (stack_of l.between.items) (chain_of l.chain l.self)
    ≡ chain 3 (stack_of l.fn.between.items) (begin_chain l.block l.fn.self)

abbrev pub decreases-loop-element : goal.decreases-loop-element
decreases-loop-element l = vec_len l.between
