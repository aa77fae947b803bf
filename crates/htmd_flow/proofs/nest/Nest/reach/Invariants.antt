-- What the loop of `reach` keeps.
use Rattle.std.proofs.Common.{◌≡◌, ◌++◌, drop, take, map}
use Rattle.htmd_document.specs.Documents.{Inline}
use Rattle.htmd_flow.specs.Nesting.{joined, wrapped}
use Rattle.htmd_flow.specs.NestViews.{frames_of, content_of, wrappers_in, wrappers_of, within}
use Rattle.htmd_flow.specs.PartViews.{around_of}
use Rattle.htmd_flow.proofs.nest.Nest.reach.Given as goal

abbrev pub invariant-loop-frame : goal.invariant-loop-frame
invariant-loop-frame l = record {
  place : (x : Inline) → within (frames_of l.self)
      (joined (content_of l.self) (wrapped (drop l.frame-index (map around_of l.frame-items)) x))
      ≡ within (frames_of l.initial.self) (joined (content_of l.initial.self)
      (wrapped (map around_of l.frame-items) x));
  wrappers : wrappers_in l.self ≡ wrappers_in l.initial.self ++ take l.frame-index (wrappers_of l.frame-items);
}
