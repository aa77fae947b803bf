-- One more is opened again.
use Rattle.std.proofs.Common.{◌≡◌, ◌∙◌, sym, ap, List, ℕ}
use Rattle.htmd_html5_state.specs.Formatting.{reopen_all}
use Rattle.htmd_html5_state.proofs.FormattingLemmas.{reopen_all-push}
use Rattle.htmd_html5_state.proofs.state.HtmlState.reconstruct.Goals as goal

pub loop-node-preserved : goal.loop-node-preserved
loop-node-preserved c =
    ap (reopen_all c.pop.new.self.items) c.in_ok-reopen.ensures
    ∙ (sym (reopen_all-push c.pop.new.self.items c.in-Some.node c.loop-node.self)
    ∙ (ap (λ (x : List ℕ). reopen_all x c.loop-node.self) (sym c.in-Some.ensures.items) ∙ c.loop-node.invariant))
