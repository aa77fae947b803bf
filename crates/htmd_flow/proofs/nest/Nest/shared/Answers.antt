-- What is left to prove of `shared`.
use Rattle.std.proofs.Common.{◌∙◌, sym, arith, drop}
use Rattle.std.proofs.lemmas.List.{length-map}
use Rattle.htmd_flow.specs.Nesting.{wrapper_of}
use Rattle.htmd_flow.specs.NestViews.{wrappers_in, wrappers_of, frame_of}
use Rattle.htmd_flow.specs.PartViews.{around_of}
use Rattle.htmd_flow.proofs.NestLemmas.{drop-step-twice, shared-more, shared-else, shared-end-other}
use Rattle.htmd_flow.proofs.nest.Nest.shared.Goals as goal

pub loop-count-preserved : goal.loop-count-preserved
loop-count-preserved c = record {
  bound = omega arith;
  other = omega arith;
  value = shared-more (wrappers_in c.args.self.now) (wrappers_of c.args.around.now) _ _ c.loop-count.count _ _
      (drop-step-twice (λ f. wrapper_of f.around) frame_of c.args.self.now.frames.items c.loop-count.count
      c.index.result.now (omega arith) c.index.ensures)
      (drop-step-twice wrapper_of around_of c.args.around.now c.loop-count.count c.index-around-count.result
      (omega arith) c.index-around-count.is)
      (sym c.if-is_same.ensures)
      ∙ c.loop-count.invariant.value;
}

pub returns-else-is_same-clause-value : goal.returns-else-is_same-clause-value
returns-else-is_same-clause-value c =
    let none = shared-else (wrappers_in c.args.self.now) (wrappers_of c.args.around.now) _ _ c.loop-count.count _ _
    (drop-step-twice (λ f. wrapper_of f.around) frame_of c.args.self.now.frames.items c.loop-count.count
    c.index.result.now (omega arith) c.index.ensures)
    (drop-step-twice wrapper_of around_of c.args.around.now c.loop-count.count c.index-around-count.result
    (omega arith) c.index-around-count.is)
    (sym c.if-is_same.ensures) in
    omega (arith, c.loop-count.invariant.value, none)

pub returns-else-count-around-clause-value : goal.returns-else-count-around-clause-value
returns-else-count-around-clause-value c =
    let none = shared-end-other (drop c.loop-count.count (wrappers_in c.args.self.now)) (wrappers_of c.args.around.now)
    c.loop-count.count (simp (length-map, length-map) (omega arith)) in
    omega (arith, c.loop-count.invariant.value, none)
