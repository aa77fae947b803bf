-- An end tag that closes nothing goes by the rules of the mode.
use Rattle.std.proofs.Common.{◌≡◌, ◌∙◌, true, false, sym, subst}
use Rattle.std.specs.Prelude.{IfOk}
use Rattle.htmd_html5_state.specs.Foreign.{foreign_end, goes_by_mode}
use Rattle.htmd_html5_state.specs.Names.{name_of}
use Rattle.htmd_html5.specs.Outcomes.{Outcome, outcome}
use Rattle.htmd_html5.specs.ForeignContent.{end_breaks_out}
use Rattle.htmd_html5.proofs.ForeignContentLemmas.{end_goes}
use Rattle.htmd_html5.proofs.foreign_content.end_in_foreign.Goals as goal

pub returns-then-close_foreign : goal.returns-then-close_foreign
returns-then-close_foreign c =
    let name = name_of c.args.name.now in
    let stays : end_breaks_out name ≡ false = sym c.end_breaks_out.ensures ∙ c.if-end_breaks_out.false in
    let goes : goes_by_mode (foreign_end c.text.result.now c.args.state.now.stack) ≡ true =
    sym c.close_foreign.ensures.by_mode ∙ c.if-close_foreign.true in
    let call = c.end_by_mode-then-close_foreign in
    subst (λ (a : Outcome). IfOk call.result (λ again. outcome call.new.state again ≡ a))
    (end_goes name c.text.result.now c.args.state.now c.close_foreign.new.self stays c.text.ensures goes
    c.close_foreign.ensures.closed)
    call.ensures
