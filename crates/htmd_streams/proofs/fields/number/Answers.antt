-- One digit more, and where the digits end.
use Rattle.std.proofs.Common.{◌∙◌, ◌-◌, drop, sym, arith}
use Rattle.htmd_streams.proofs.FieldsLemmas.{number-more, number-ends, number-most, number-out}
use Rattle.htmd_streams.proofs.FieldsLemmas.{digits-more, digits-ends, digits-most, digits-out}
use Rattle.htmd_streams.proofs.fields.number.Goals.{then-loop-count-test+else-count-bytes, else-loop-count-test}
use Rattle.htmd_streams.proofs.fields.number.Goals.{then-loop-count-test+then-count-bytes+then-digit-base}
use Rattle.htmd_streams.proofs.fields.number.Goals as goal

pub loop-count-preserved : goal.loop-count-preserved
loop-count-preserved c = record {
  value = number-more c.loop-count.value c.args.base c.args.most c.args.bytes.now c.loop-count.count c.from.result
      c.from-in-loop-count.result c.digit_value-digit.result _ (omega arith) (omega arith) c.digit_value-digit.ensures
      (omega arith) (omega arith) (omega arith) c.loop-count.invariant.value;
  count = digits-more c.args.base c.args.most c.args.bytes.now c.loop-count.count c.digit_value-digit.result _
      (omega arith) (omega arith) c.digit_value-digit.ensures (omega arith) c.loop-count.invariant.count;
  small = omega arith;
  within = omega arith;
}

pub returns-clause-value : goal.returns-clause-value
returns-clause-value c =
    let s = c.args.bytes.now in
    let v = c.loop-count.value in
    let i = c.loop-count.count in
    let base = c.args.base in
    elim c.loop-count-test.branch [
      | then-loop-count-test+else-count-bytes w ↦
          sym (number-out v base (c.args.most - i) s i (omega arith)) ∙ c.loop-count.invariant.value
      | else-loop-count-test w ↦
          sym (number-most v base (c.args.most - i) (drop i s) (omega arith)) ∙ c.loop-count.invariant.value
      | then-loop-count-test+then-count-bytes+then-digit-base w ↦
          sym (number-ends v base (c.args.most - i) s i w.digit_value-digit.result (omega arith)
          w.digit_value-digit.ensures (omega arith)) ∙ c.loop-count.invariant.value
    ]

pub returns-clause-count : goal.returns-clause-count
returns-clause-count c =
    let s = c.args.bytes.now in
    let i = c.loop-count.count in
    let base = c.args.base in
    elim c.loop-count-test.branch [
      | then-loop-count-test+else-count-bytes w ↦
          omega (arith, digits-out base (c.args.most - i) s i (omega arith))
      | else-loop-count-test w ↦ omega (arith, digits-most base (c.args.most - i) (drop i s) (omega arith))
      | then-loop-count-test+then-count-bytes+then-digit-base w ↦
          omega (
            arith,
            digits-ends base (c.args.most - i) s i w.digit_value-digit.result (omega arith)
                w.digit_value-digit.ensures (omega arith),
          )
    ]
