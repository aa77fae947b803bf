-- The turns of a token.
use Rattle.std.proofs.Common.{◌∙◌, Option, ap, sym, arith}
use Rattle.std.specs.Prelude.{is_some}
use Rattle.htmd_html5.specs.Tokens.{StartTagValue, start_tag, tag_of}
use Rattle.htmd_html5.specs.Outcomes.{outcome}
use Rattle.htmd_html5.specs.Processing.{by_rules, process_within}
use Rattle.htmd_html5.specs.declared.tokens.StartTag.{StartTag}
use Rattle.htmd_html5.proofs.ProcessingLemmas.{rests_again, rests_done, rests_over}
use Rattle.htmd_html5.proofs.processing.process_start_in_turns.Goals as goal

pub returns-in-None : goal.returns-in-None
returns-in-None c =
    let token = start_tag (tag_of c.args.tag) in
    let s = c.loop-turn.state in
    let new = c.start_by_rules.new.state in
    let e = ap (λ (o : Option StartTag). outcome new (is_some o)) (sym c.in-None.is)
    ∙ c.in_ok-again.ensures.outcome
    ∙ ap (λ (t : StartTagValue). by_rules (start_tag t) s) c.loop-turn.invariant.same in
    rests_done token c.args.state.now s new c.loop-turn._turn c.turns-turn-end.result c.loop-turn.invariant.rest
    (omega arith) e
    ∙ ap (λ n. process_within n token c.args.state.now) c.turns-turn-end.ensures

pub loop-turn-preserved : goal.loop-turn-preserved
loop-turn-preserved c =
    let token = start_tag (tag_of c.args.tag) in
    let s = c.loop-turn.state in
    let new = c.start_by_rules.new.state in
    let e = ap (λ (o : Option StartTag). outcome new (is_some o)) (sym c.in-Some.is)
    ∙ c.in_ok-again.ensures.outcome
    ∙ ap (λ (t : StartTagValue). by_rules (start_tag t) s) c.loop-turn.invariant.same in
    record {
      same = rw c.in-Some.is at c.in_ok-again.ensures.same ∙ c.loop-turn.invariant.same;
      rest = rests_again token c.args.state.now s new c.loop-turn._turn c.turns-turn-end.result
          c.loop-turn.invariant.rest e;
    }

pub returns : goal.returns
returns c =
    let token = start_tag (tag_of c.args.tag) in
    rests_over token c.args.state.now c.loop-turn.state c.loop-turn._turn c.turns-turn-end.result
    c.loop-turn.invariant.rest (omega arith)
    ∙ ap (λ n. process_within n token c.args.state.now) c.turns-turn-end.ensures
