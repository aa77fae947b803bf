-- What the loop of `close` keeps.
use Rattle.std.proofs.Common.{◌≡◌, take, vec_len}
use Rattle.htmd_flow.specs.NestViews.{inlines_in, frames_of}
use Rattle.htmd_flow.proofs.nest.Nest.close.Given as goal

abbrev pub invariant-loop-self : goal.invariant-loop-self
invariant-loop-self l = record {
  inlines : inlines_in l.self ≡ inlines_in l.initial.self;
  frames : take l.depth (frames_of l.self) ≡ take l.depth (frames_of l.initial.self);
}

abbrev pub decreases-loop-self : goal.decreases-loop-self
decreases-loop-self l = vec_len l.self.frames
