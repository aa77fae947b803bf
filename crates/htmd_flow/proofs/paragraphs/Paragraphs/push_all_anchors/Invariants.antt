-- The anchors so far stand in as many wrappers.
use Rattle.std.proofs.Common.{◌≡◌, length, map, string_bytes}
use Rattle.htmd_flow.specs.Paragraphs.{anchored}
use Rattle.htmd_flow.specs.ParagraphViews.{writing_in, IsPut, IsLike}
use Rattle.htmd_flow.specs.PartViews.{around_of}
use Rattle.htmd_flow.proofs.paragraphs.Paragraphs.push_all_anchors.Given as goal

abbrev pub invariant-loop-id : goal.invariant-loop-id
invariant-loop-id l = record {
  put : IsPut (writing_in l.fn.self) (writing_in l.self) (length l.around)
      (anchored (length l.around) (writing_in l.fn.self).content (map around_of l.around)
      (map string_bytes l.yielded));
  anchors : (writing_in l.self).anchors ≡ (writing_in l.initial.self).anchors;
  rest : IsLike (writing_in l.fn.self) (writing_in l.self);
}
