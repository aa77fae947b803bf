-- One less is popped after it.
use Rattle.std.proofs.Common.{◌∙◌, ◌-◌, List, length, drop, sym, ap, arith}
use Rattle.htmd_html5_state.specs.OpenElements.{OpenValue}
use Rattle.htmd_html5_state.proofs.PlacesLemmas.{drop-pop}
use Rattle.htmd_html5_state.proofs.open_elements.OpenElements.truncate.Goals as goal

pub loop-self-preserved : goal.loop-self-preserved
loop-self-preserved c =
    ap (λ (es : List OpenValue). drop (length es - c.args.len) es) c.pop.ensures
    ∙ (sym (drop-pop c.args.len c.loop-self.self (omega (arith, c.loop-self-test.true, c.len.ensures.value)))
    ∙ c.loop-self.invariant)
