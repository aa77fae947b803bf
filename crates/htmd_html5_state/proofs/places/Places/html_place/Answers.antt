-- The last of this many elements knows it.
use Rattle.std.proofs.Common.{arith}
use Rattle.htmd_html5_state.proofs.PlacesLemmas.{linked-html}
use Rattle.htmd_html5_state.proofs.places.Places.html_place.Goals as goal

pub returns : goal.returns
returns c =
    linked-html c.args.self.now.around.items c.args.depth c.index.result.now c.index.ensures
    (omega (arith, c.if-depth-eq0.false))
