-- The names so far were looked for, and no file was changed.
use Rattle.std.proofs.Common.{◌≡◌, [], map, take, IfSome}
use Rattle.htmd_files.specs.FilePlans.{path_of}
use Rattle.htmd_files.specs.NameViews.{kind_of}
use Rattle.htmd_files.specs.PlanViews.{operand_of}
use Rattle.htmd_files.specs.WordViews.{text_of}
use Rattle.htmd_folders.specs.Changes.{Makes}
use Rattle.htmd_folders.specs.Plans.{LeadTo}
use Rattle.htmd_folders.specs.PlanViews.{missed_in}
use Rattle.htmd_folders.proofs.operands.find_operands.Given as goal

abbrev pub invariant-loop-name : goal.invariant-loop-name
invariant-loop-name g l = record {
  names :
      map path_of (map operand_of l.operands.items) ≡ map text_of (take l.name-index l.names);
  found :
      IfSome (g.S.Store.changes l.initial.store) (λ past. LeadTo past (kind_of l.kind) l.lists
      (map text_of (take l.name-index l.names)) (map operand_of l.operands.items) (missed_in l.missed.items));
  same : Makes (g.S.Store.changes l.initial.store) (g.S.Store.changes l.store) [];
}
