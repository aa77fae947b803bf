-- The turns of a token.
use Rattle.std.proofs.Common.{◌≡◌, ◌∙◌, Bool, true, false, ap, sym, arith}
use Rattle.htmd_html5_state.specs.Names.{name_of}
use Rattle.htmd_html5.specs.Tokens.{end_tag}
use Rattle.htmd_html5.specs.Outcomes.{outcome}
use Rattle.htmd_html5.specs.Processing.{process_within}
use Rattle.htmd_html5.proofs.ProcessingLemmas.{rests_again, rests_done, rests_over}
use Rattle.htmd_html5.proofs.processing.process_end.Goals as goal

pub returns-then-not-branch : goal.returns-then-not-branch
returns-then-not-branch c =
    let again : c.in_ok-end_by_rules.field-0 ≡ false = cc in
    let new = c.end_by_rules.new.state in
    let e = ap (λ (b : Bool). outcome new b) (sym again) ∙ c.in_ok-end_by_rules.ensures in
    rests_done (end_tag (name_of c.args.name.now)) c.args.state.now c.loop-turn.state new c.loop-turn._turn
    c.turns-turn-end.result
    c.loop-turn.invariant (omega arith) e
    ∙ ap (λ n. process_within n (end_tag (name_of c.args.name.now)) c.args.state.now) c.turns-turn-end.ensures

pub loop-turn-preserved : goal.loop-turn-preserved
loop-turn-preserved c =
    let again : c.in_ok-end_by_rules.field-0 ≡ true = cc in
    let new = c.end_by_rules.new.state in
    let e = ap (λ (b : Bool). outcome new b) (sym again) ∙ c.in_ok-end_by_rules.ensures in
    rests_again (end_tag (name_of c.args.name.now)) c.args.state.now c.loop-turn.state new c.loop-turn._turn
    c.turns-turn-end.result
    c.loop-turn.invariant e

pub returns : goal.returns
returns c =
    rests_over (end_tag (name_of c.args.name.now)) c.args.state.now c.loop-turn.state c.loop-turn._turn
    c.turns-turn-end.result c.loop-turn.invariant
    (omega arith)
    ∙ ap (λ n. process_within n (end_tag (name_of c.args.name.now)) c.args.state.now) c.turns-turn-end.ensures
