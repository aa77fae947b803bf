-- Room is made, and nothing else changes.
use Rattle.std.proofs.Common.{refl, arith}
use Rattle.htmd_html5_state.specs.declared.places.Places.{Places}
use Rattle.htmd_html5_state.proofs.PlacesLemmas.{placed-kept, kept-more}
use Rattle.htmd_html5_state.proofs.places.Places.make_room.Goals as goal

pub returns-in_err-make_room-clause-kept : goal.returns-in_err-make_room-clause-kept
returns-in_err-make_room-clause-kept c =
    let p : Places = c.args.self.now in
    let q : Places = record { names = c.make_room.new.self; nodes = p.nodes; around = p.around } in
    placed-kept p q c.make_room.ensures.places c.make_room.ensures.spellings c.make_room.ensures.numbered
    (λ n. refl) (λ es h. h) (omega arith)
    (kept-more p q c.make_room.ensures.kept (omega arith))

pub returns-in_err-make_room_for_node-clause-kept : goal.returns-in_err-make_room_for_node-clause-kept
returns-in_err-make_room_for_node-clause-kept c =
    let p : Places = c.args.self.now in
    let q : Places = record {
      names = c.make_room.new.self;
      nodes = c.make_room_for_node.new.nodes;
      around = p.around;
    } in
    placed-kept p q c.make_room.ensures.places c.make_room.ensures.spellings c.make_room.ensures.numbered
    c.make_room_for_node.ensures.places (λ es h. h) (omega arith)
    (kept-more p q c.make_room.ensures.kept c.make_room_for_node.ensures.longer)

pub returns-clause-kept : goal.returns-clause-kept
returns-clause-kept c =
    let p : Places = c.args.self.now in
    let q : Places = record {
      names = c.make_room.new.self;
      nodes = c.make_room_for_node.new.nodes;
      around = c.make_room_around.new.around;
    } in
    placed-kept p q c.make_room.ensures.places c.make_room.ensures.spellings c.make_room.ensures.numbered
    c.make_room_for_node.ensures.places c.make_room_around.ensures.kept
    c.make_room_around.ensures.longer (kept-more p q c.make_room.ensures.kept c.make_room_for_node.ensures.longer)
