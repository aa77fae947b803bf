-- What is left to prove of `read_run`.
use Rattle.std.proofs.Common.{◌≡◌, ◌∙◌, [], false, sym, ap, arith}
use Rattle.std.proofs.lemmas.Result.{err_from_is_err_and}
use Rattle.std.specs.String.{string_bytes}
use Rattle.htmd_grammar.specs.ReaderSteps.{here}
use Rattle.htmd_tree.specs.TextRuns.{is_run_end}
use Rattle.htmd_tree.proofs.TextRunsLemmas.{stops_there}
use Rattle.htmd_tree.proofs.reader.texts.read_run.Goals as goal
use Rattle.htmd_tree.proofs.PiecesLemmas.{reaches_then}

pub returns-in_err-rest-clause-steps : goal.returns-in_err-rest-clause-steps
returns-in_err-rest-clause-steps c = λ scripting fs there goes_on.
    let p = err_from_is_err_and c.from_residual.result c.from_residual.ensures.1 in
    rw (p.1, p.2) (stops_there scripting fs c.args.around c.args.name.now c.args.text.now
    (string_bytes c.args.run.now) [] c.args.text.now (string_bytes c.push_next.new.run) c.in_err-rest.field-0.0
    here c.requires.empty goes_on (c.in_err-rest.ensures.steps scripting c.args.name.now fs there goes_on))

pub loop-around-preserved : goal.loop-around-preserved
loop-around-preserved c =
    let more : is_run_end c.args.around.alone c.args.name.now c.loop-around.rest.now ≡ false =
    ap (is_run_end c.args.around.alone c.args.name.now) (sym c.as_bytes.ensures.value) ∙ sym c.is_run_end.ensures
    ∙ c.loop-around-test.true in
    record {
      text = c.in_ok-rest-2.ensures.text;
      shorter = omega (arith, c.in_ok-rest-2.ensures.shorter, c.loop-around.invariant.shorter);
      longer = c.in_ok-rest-2.ensures.longer;
      deep = c.in_ok-rest-2.ensures.deep;
      steps = λ scripting fs there goes_on.
          reaches_then (c.loop-around.invariant.steps scripting fs there goes_on)
          (c.in_ok-rest-2.ensures.steps scripting c.args.name.now fs there more);
    }

pub returns-clause-steps : goal.returns-clause-steps
returns-clause-steps c = λ scripting fs there goes_on. (
  c.loop-around.invariant.steps scripting fs there goes_on,
  ap (is_run_end c.args.around.alone c.args.name.now) (sym c.as_bytes.ensures.value) ∙ sym c.is_run_end.ensures
      ∙ c.loop-around-test.false,
)
