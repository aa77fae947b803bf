-- With the parts to come, all are written; no more images are open than parts were.
use Rattle.std.proofs.Common.{◌≡◌, ◌≤◌, drop}
use Rattle.htmd_parts.specs.PartViews.{all_parts_of}
use Rattle.htmd_parts.specs.Machine.{page_of, with_parts}
use Rattle.htmd_parts.proofs.html.to_html.Given as goal

abbrev pub invariant-loop-part : goal.invariant-loop-part
invariant-loop-part l = record {
  rest : with_parts (page_of l.writer) (all_parts_of (drop l.part-index l.parts))
      ≡ with_parts (page_of l.initial.writer) (all_parts_of l.parts);
  few : l.writer.images ≤ l.part-index;
}
