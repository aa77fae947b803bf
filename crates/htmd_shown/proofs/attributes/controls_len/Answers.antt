use Rattle.std.proofs.Common.{length, sym, ◌∙◌, arith}
use Rattle.htmd_shown.specs.Attributes.{is_space_or_control}
use Rattle.std.proofs.lemmas.List.Sums.{prefix_len_is}
use Rattle.htmd_shown.proofs.attributes.controls_len.Goals as goal

pub returns-then-not-is_space_or_control-clause-value : goal.returns-then-not-is_space_or_control-clause-value
returns-then-not-is_space_or_control-clause-value c =
    sym (prefix_len_is (is_space_or_control) c.args.text.now c.loop-len.len 0 (omega arith) c.loop-len.invariant
    (λ _. sym c.is_space_or_control.ensures ∙ c.if-not-is_space_or_control.true))

pub returns-clause-value : goal.returns-clause-value
returns-clause-value c =
    sym (prefix_len_is (is_space_or_control) c.args.text.now (length c.args.text.now) 0 (omega arith)
    (λ k lt. c.loop-len.invariant k (omega arith)) (λ lt. absurd (omega arith)))
