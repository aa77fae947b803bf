use Rattle.std.proofs.Common.{◌≡◌, map}
use Rattle.std.specs.Prelude.{if◌then◌else◌}
use Rattle.htmd_chunks.specs.ChunkViews.{list_filling_of, part_of}
use Rattle.htmd_chunks.specs.Fillings as spec
use Rattle.htmd_chunks.specs.Runs.{is_none}
use Rattle.htmd_chunks.proofs.list_filling.ListFilling.push_parts.Given as goal

abbrev pub invariant-loop-part : goal.invariant-loop-part
invariant-loop-part l = record {
  filling : list_filling_of l.self ≡ spec.with_further_items l.initial.self.limits.most l.initial.self.list
      (list_filling_of l.initial.self) l.place (map part_of l.yielded);
  limits : l.self.limits ≡ l.initial.self.limits;
  list : l.self.list ≡ l.initial.self.list;
  used : l.used ≡ (if is_none l.yielded then l.initial.used else 0);
}
