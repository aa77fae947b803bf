-- The turns of a token.
use Rattle.std.proofs.Common.{◌≡◌, ◌∙◌, Bool, true, false, ap, sym, arith}
use Rattle.htmd_html5.specs.Tokens.{end_of_file}
use Rattle.htmd_html5.specs.Outcomes.{outcome}
use Rattle.htmd_html5.specs.Processing.{process_within}
use Rattle.htmd_html5.proofs.ProcessingLemmas.{rests_again, rests_done, rests_over}
use Rattle.htmd_html5.proofs.processing.process_end_of_file.Goals as goal

pub returns-then-not-branch : goal.returns-then-not-branch
returns-then-not-branch c =
    let again : c.in_ok-end_file_by_mode.field-0 ≡ false = cc in
    let new = c.end_file_by_mode.new.state in
    let e = ap (λ (b : Bool). outcome new b) (sym again) ∙ c.in_ok-end_file_by_mode.ensures in
    rests_done end_of_file c.args.state.now c.loop-turn.state new c.loop-turn._turn c.turns-turn-end.result
    c.loop-turn.invariant (omega arith) e
    ∙ ap (λ n. process_within n end_of_file c.args.state.now) c.turns-turn-end.ensures

pub loop-turn-preserved : goal.loop-turn-preserved
loop-turn-preserved c =
    let again : c.in_ok-end_file_by_mode.field-0 ≡ true = cc in
    let new = c.end_file_by_mode.new.state in
    let e = ap (λ (b : Bool). outcome new b) (sym again) ∙ c.in_ok-end_file_by_mode.ensures in
    rests_again end_of_file c.args.state.now c.loop-turn.state new c.loop-turn._turn c.turns-turn-end.result
    c.loop-turn.invariant e

pub returns : goal.returns
returns c =
    rests_over end_of_file c.args.state.now c.loop-turn.state c.loop-turn._turn c.turns-turn-end.result
    c.loop-turn.invariant
    (omega arith)
    ∙ ap (λ n. process_within n end_of_file c.args.state.now) c.turns-turn-end.ensures
