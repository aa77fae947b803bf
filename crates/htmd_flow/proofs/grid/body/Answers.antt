use Rattle.std.proofs.Common.{◌∙◌, sym, ap}
use Rattle.std.proofs.lemmas.List.{map-id}
use Rattle.std.proofs.lemmas.Iterator.Adapters.{YieldsList-from_vec}
use Rattle.std.proofs.lemmas.Iterator.Consumers.{YieldsList-end}
use Rattle.std.specs.Vec.Iter.{into_iter_items, into_iter_len}
use Rattle.htmd_flow.specs.GridViews.{lines_of}
use Rattle.htmd_flow.specs.Grids as spec
use Rattle.htmd_flow.proofs.grid.body.Goals as goal

pub returns : goal.returns
returns c =
    let all = YieldsList-from_vec {s = c.into_iter-cells-iterator.result} (into_iter_items c.args.lines)
    (ap into_iter_items c.into_iter-cells-iterator.ensures.into_iter_gives)
    (ap into_iter_len c.into_iter-cells-iterator.ensures.into_iter_gives ∙ c.args.lines.rest.ok.0) in
    let e = YieldsList-end all c.loop-cells.yielded c.loop-cells.cells-iterator c.loop-cells.yielded_by c.next.result
    c.next.new.self c.in-None.is c.next.ensures.steps in
    c.loop-cells.invariant
    ∙ ap (λ ls. spec.body (lines_of ls)) (sym (map-id c.loop-cells.yielded) ∙ e.0)
