-- One more row, if there is one.
use Rattle.std.proofs.Common.{sym, ap, ◌∙◌}
use Rattle.std.specs.Vec.Iter.{into_iter_items}
use Rattle.htmd_chunks.proofs.CountsLemmas.{next-taken, none-taken}
use Rattle.htmd_chunks.proofs.rows.next_rows.Goals.{in-Some+in_ok-push, in_default}
use Rattle.htmd_chunks.proofs.rows.next_rows.Goals as goal

pub loop-i-preserved : goal.loop-i-preserved
loop-i-preserved c =
    let all = into_iter_items c.args.rows.now in
    let old = into_iter_items c.loop-i.rows in
    let new = into_iter_items c.next.new.self in
    elim c.match-next.branch [
      | in-Some+in_ok-push w ↦
          let both = next-taken all c.loop-i.part.items old new c.loop-i._i w.in-Some.row c.loop-i.invariant.part
          c.loop-i.invariant.rows w.in-Some.ensures.items in
          record { part = ap (λ v. v.items) w.part-is ∙ w.in_ok-push.ensures.items ∙ both.0; rows = both.1 }
      | in_default w ↦
          let both = none-taken all c.loop-i.part.items old new c.loop-i._i c.loop-i.invariant.part
          c.loop-i.invariant.rows (sym c.loop-i.rows.rest.ok.0 ∙ w.in_default.ensures.cases.0)
          w.in_default.ensures.items in
          record { part = ap (λ v. v.items) w.part-is ∙ both.0; rows = both.1 }
    ]
