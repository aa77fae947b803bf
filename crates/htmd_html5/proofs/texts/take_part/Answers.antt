-- The turns of a part.
use Rattle.std.proofs.Common.{◌≡◌, ◌∙◌, ℕ, Bool, true, false, List, [], ap, sym, arith}
use Rattle.htmd_html5_state.specs.State.{StateValue}
use Rattle.htmd_html5.specs.Outcomes.{outcome}
use Rattle.htmd_html5.specs.Texts.{taken, takes_all, take_within}
use Rattle.htmd_html5.proofs.TextsLemmas.{first_by_rules, takes_again, takes_run, takes_text, takes_over}
use Rattle.htmd_html5.proofs.texts.take_part.Goals as goal

pub returns-then-takes_all-clause-value : goal.returns-then-takes_all-clause-value
returns-then-takes_all-clause-value c =
    let text = c.args.text.now in
    let all : takes_all c.loop-turn.state ≡ true = cc in
    ap (λ (x : StateValue). taken x []) c.in_ok-table_text.ensures
    ∙ takes_text text c.args.state.now c.loop-turn.state c.loop-turn._turn c.turns-turn-end.result
    c.loop-turn.invariant
    (omega arith) all
    ∙ ap (λ n. take_within n text c.args.state.now) c.turns-turn-end.ensures

pub returns-then-not-branch-clause-value : goal.returns-then-not-branch-clause-value
returns-then-not-branch-clause-value c =
    let text = c.args.text.now in
    let s = c.loop-turn.state in
    let new = c.put_run_by_rules.new.state in
    let split = c.split_run-split in
    let some : takes_all s ≡ false = cc in
    let again : c.in_ok-put_run_by_rules.field-0 ≡ false = cc in
    let e = ap (λ (b : Bool). outcome new b) (sym again) ∙ c.in_ok-put_run_by_rules.ensures
    ∙ first_by_rules text split.result.run.now split.result.kind s split.ensures.kind split.ensures.run in
    ap (λ (x : List ℕ). taken new x) split.ensures.rest
    ∙ takes_run text c.args.state.now s new c.loop-turn._turn c.turns-turn-end.result c.loop-turn.invariant
    (omega arith) some e
    ∙ ap (λ n. take_within n text c.args.state.now) c.turns-turn-end.ensures

pub loop-turn-preserved : goal.loop-turn-preserved
loop-turn-preserved c =
    let text = c.args.text.now in
    let s = c.loop-turn.state in
    let new = c.put_run_by_rules.new.state in
    let split = c.split_run-split in
    let some : takes_all s ≡ false = cc in
    let again : c.in_ok-put_run_by_rules.field-0 ≡ true = cc in
    let e = ap (λ (b : Bool). outcome new b) (sym again) ∙ c.in_ok-put_run_by_rules.ensures
    ∙ first_by_rules text split.result.run.now split.result.kind s split.ensures.kind split.ensures.run in
    takes_again text c.args.state.now s new c.loop-turn._turn c.turns-turn-end.result c.loop-turn.invariant some e

pub returns-clause-value : goal.returns-clause-value
returns-clause-value c =
    let text = c.args.text.now in
    ap (λ (x : List ℕ). taken c.loop-turn.state x) c.split_run-split.ensures.rest
    ∙ takes_over text c.args.state.now c.loop-turn.state c.loop-turn._turn c.turns-turn-end.result
    c.loop-turn.invariant (omega arith)
    ∙ ap (λ n. take_within n text c.args.state.now) c.turns-turn-end.ensures
