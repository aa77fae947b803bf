-- What is left to prove of `reach`.
use Rattle.std.proofs.Common.{◌∙◌, arith}
use Rattle.std.proofs.lemmas.List.{length-map}
use Rattle.htmd_flow.specs.Nesting.{wrapper_of}
use Rattle.htmd_flow.specs.NestViews.{frames_of}
use Rattle.htmd_flow.proofs.NestLemmas.{opened-step, opened-wrappers, reached-place, reached-wrappers}
use Rattle.htmd_flow.proofs.nest.Nest.reach.Goals as goal

pub loop-frame-preserved : goal.loop-frame-preserved
loop-frame-preserved c = record {
  place = λ x. opened-step _ _ _ _ _ c.loop-frame.frame-index c.frame-item.result x c.loop-frame-test.true
      c.frame-item.is c.in_ok-open.ensures.frames c.in_ok-open.ensures.content ∙ c.loop-frame.invariant.place x;
  wrappers = opened-wrappers _ _ _ _ c.loop-frame.frame-index c.frame-item.result _ c.loop-frame-test.true
      c.frame-item.is
      c.in_ok-open.ensures.frames c.loop-frame.invariant.wrappers;
}

pub returns-clause-place : goal.returns-clause-place
returns-clause-place c =
    λ x. reached-place (frames_of c.args.self.now) _ _ _ _ _ c.args.around.now c.args.shared c.loop-frame.frame-index x
    (rw (length-map (frames_of c.args.self.now) (λ f. wrapper_of f.around)) at c.requires.open) c.requires.named
    (omega arith) c.in_ok-close.ensures.frames
    c.in_ok-close.ensures.inlines (c.loop-frame.invariant.place x)

pub returns-clause-wrappers : goal.returns-clause-wrappers
returns-clause-wrappers c = reached-wrappers _ _ _ c.args.around.now c.args.shared c.loop-frame.frame-index
    c.requires.named (omega arith) c.in_ok-close.ensures.frames c.loop-frame.invariant.wrappers
