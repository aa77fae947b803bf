-- In foreign content or out of it.
use Rattle.std.proofs.Common.{◌≡◌, ◌∙◌, false, ap, sym, subst}
use Rattle.std.specs.Prelude.{IfOk}
use Rattle.htmd_html5_state.specs.State.{StateValue}
use Rattle.htmd_html5.specs.Outcomes.{Outcome, outcome}
use Rattle.htmd_html5.specs.Tokens.{run}
use Rattle.htmd_html5.proofs.ProcessingLemmas.{by_foreign, by_html}
use Rattle.htmd_html5.proofs.processing.put_run_by_rules.Goals as goal

pub returns-then-is_text_foreign : goal.returns-then-is_text_foreign
returns-then-is_text_foreign c =
    let token = run c.args.kind c.args.text.now in
    let foreign = sym (c.is_text_foreign.ensures c.args.kind c.args.text.now) ∙ c.if-is_text_foreign.true in
    ap (λ (x : StateValue). outcome x false) c.in_ok-put_run_in_foreign.ensures
    ∙ sym (by_foreign token c.args.state.now foreign)

pub returns : goal.returns
returns c =
    let token = run c.args.kind c.args.text.now in
    let html = sym (c.is_text_foreign.ensures c.args.kind c.args.text.now) ∙ c.if-is_text_foreign.false in
    subst (λ (a : Outcome). IfOk c.put_run_by_mode.result (λ again. outcome c.put_run_by_mode.new.state again ≡ a))
    (sym (by_html token c.args.state.now html)) c.put_run_by_mode.ensures
