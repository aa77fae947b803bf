use Rattle.std.proofs.Common.{◌∙◌, sym, ap, map}
use Rattle.std.proofs.lemmas.List.{map-id}
use Rattle.std.proofs.lemmas.Iterator.{YieldsList-from_zip}
use Rattle.std.proofs.lemmas.Iterator.Adapters.{YieldsList-from_vec}
use Rattle.std.proofs.lemmas.Iterator.Consumers.{YieldsList-end}
use Rattle.std.specs.Vec.Iter.{into_iter_items, into_iter_len}
use Rattle.htmd_flow.specs.GridViews.{cell_of}
use Rattle.htmd_flow.specs.Grids as spec
use Rattle.htmd_flow.proofs.GridsLemmas.{filled_all_zip}
use Rattle.htmd_flow.proofs.grid.filled_all.Goals as goal

pub returns : goal.returns
returns c =
    let pairs = c.into_iter-row-iterator.ensures.into_iter_gives in
    let first = c.zip-row-items.ensures.first in
    let second = c.zip-row-items.ensures.second in
    let rows =
    YieldsList-from_vec {s = c.into_iter-row-iterator.result.a} c.args.rows.items
    (ap (λ z. into_iter_items z.a) pairs ∙ ap into_iter_items first ∙ c.into_iter.ensures.rest)
    (ap (λ z. into_iter_len z.a) pairs ∙ ap into_iter_len first ∙ c.into_iter.ensures.len ∙ c.args.rows.ok.0) in
    let shapes =
    YieldsList-from_vec {s = c.into_iter-row-iterator.result.b} c.args.shapes.items
    (ap (λ z. into_iter_items z.b) pairs ∙ second.0)
    (ap (λ z. into_iter_len z.b) pairs ∙ second.1 ∙ c.args.shapes.ok.0) in
    let all = YieldsList-from_zip {s = c.into_iter-row-iterator.result} rows shapes in
    let e =
    YieldsList-end all c.loop-row.yielded c.loop-row.row-iterator c.loop-row.yielded_by c.next.result
    c.next.new.self c.in-None.is c.next.ensures.steps in
    c.loop-row.invariant
    ∙ ap (λ ps. map (λ p. spec.filled p.1.items (map cell_of p.0.cells.items)) ps)
    (sym (map-id c.loop-row.yielded) ∙ e.0)
    ∙ filled_all_zip c.args.rows.items c.args.shapes.items
