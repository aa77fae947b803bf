-- One more name was looked for.
use Rattle.std.proofs.Common.{map, take}
use Rattle.std.proofs.lemmas.List.{map_more}
use Rattle.htmd_files.specs.NameViews.{kind_of}
use Rattle.htmd_files.specs.WordViews.{text_of}
use Rattle.htmd_folders.specs.PlanViews.{missed_in}
use Rattle.htmd_folders.proofs.OperandsLemmas.{found_more, made_then, names_more}
use Rattle.htmd_folders.proofs.operands.find_operands.Goals as goal

pub loop-name-preserved : goal.loop-name-preserved
loop-name-preserved g c =
    let i = c.loop-name.name-index in
    let names = c.args.names.now in
    let so_far = map text_of (take i names) in record {
      names = names_more c.loop-name.operands.items c.push.new.self.items c.in_ok-operand.operand so_far _ _
          c.in_ok-push.ensures.items (map_more text_of names i _ c.loop-name-test.true)
          c.loop-name.invariant.names c.in_ok-operand.ensures.name;
      found = found_more (g.S.Store.changes c.args.store.now) (g.S.Store.changes c.loop-name.store)
          (kind_of c.args.kind) c.args.lists so_far _ c.loop-name.operands.items c.push.new.self.items
          (missed_in c.loop-name.missed.items) (missed_in c.find_operand.new.missed.items) _ c.in_ok-operand.operand
          c.loop-name.invariant.same
          c.in_ok-push.ensures.items (map_more text_of names i _ c.loop-name-test.true)
          c.loop-name.invariant.found c.in_ok-operand.ensures.found;
      same = made_then (g.S.Store.changes c.args.store.now) (g.S.Store.changes c.loop-name.store)
          (g.S.Store.changes c.find_operand.new.store) c.loop-name.invariant.same c.find_operand.ensures.same;
    }
