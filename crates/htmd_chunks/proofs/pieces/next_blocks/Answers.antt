use Rattle.std.proofs.Common.{◌≡◌, ◌∙◌, sym, ap, []}
use Rattle.std.specs.Vec.Iter.{into_iter_items}
use Rattle.std.proofs.lemmas.List.{nil_from_length}
use Rattle.htmd_chunks.proofs.PiecesLemmas.{some_taken, none_taken}
use Rattle.htmd_chunks.proofs.pieces.next_blocks.Goals.{in-Some+in_ok-push, in_default}
use Rattle.htmd_chunks.proofs.pieces.next_blocks.Goals as goal

pub loop-i-preserved : goal.loop-i-preserved
loop-i-preserved c =
    let all = into_iter_items c.args.rest.now in
    let l = c.loop-i in
    let left = into_iter_items l.rest in
    let left2 = into_iter_items c.next.new.self in
    elim c.match-next.branch [
      | in-Some+in_ok-push w ↦
          let taken = some_taken all l._i w.in-Some.block l.blocks.items c.match-next.blocks.items left left2
          l.invariant.taken l.invariant.rest w.in-Some.ensures.items
          (ap (λ v. v.items) w.blocks-is ∙ w.in_ok-push.ensures.items) in
          record { taken = taken.0; rest = taken.1 }
      | in_default w ↦
          let none : left ≡ [] = nil_from_length left (sym l.rest.rest.ok.0 ∙ w.in_default.ensures.cases.0) in
          let taken = none_taken all l._i l.blocks.items c.match-next.blocks.items left left2 l.invariant.taken
          l.invariant.rest none (sym w.in_default.ensures.items ∙ none) (ap (λ v. v.items) w.blocks-is) in
          record { taken = taken.0; rest = taken.1 }
    ]
