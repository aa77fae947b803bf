use Rattle.std.proofs.Common.{◌≡◌, ◌∙◌, sym, ap, ℕ, List, Bool, Option, Vec, Global, map, drop, length, ◌+◌, ◌++◌, ◌∷◌}
use Rattle.std.proofs.Common.{[]}
use Rattle.std.proofs.lemmas.List.{map_push, length_push}
use Rattle.htmd_flow.specs.GridViews.{row_of, cell_of}
use Rattle.htmd_flow.specs.Grids as spec
use Rattle.htmd_flow.proofs.GridsLemmas.{rows_at, shapes_more, total_push}
use Rattle.htmd_flow.proofs.grid.shapes.Goals as goal

pub loop-row-preserved : goal.loop-row-preserved
loop-row-preserved c =
    let old : List (Vec Bool Global) = c.loop-row.shapes.items in
    let begins : Vec Bool Global = c.in_ok-begins.begins in
    let part : Option ℕ = c.loop-row.part in
    let taken : List ℕ = c.loop-row.taken.items in
    let later : List ℕ = c.lay.new.taken.items in
    let row : spec.Row = row_of c.row-item.result in
    let rows : List spec.Row = map row_of (drop (c.loop-row.row-index + 1) c.args.rows.now) in
    let here = rows_at c.args.rows.now c.loop-row.row-index c.row-item.result c.loop-row-test.true c.row-item.is in
    let read = λ (v : Vec Bool Global). v.items in
    let shape : spec.laid c.len.result c.free_at_group.new.taken.items (map cell_of c.as_slice.result.now)
    ≡ spec.laid (length old) (spec.taken_in part row.part taken) row.cells =
    ap (λ m. spec.laid m c.free_at_group.new.taken.items (map cell_of c.as_slice.result.now))
    (c.len.ensures ∙ c.loop-row.shapes.ok.0)
    ∙ ap (λ xs. spec.laid (length old) xs (map cell_of c.as_slice.result.now)) c.free_at_group.ensures
    ∙ ap (λ xs. spec.laid (length old) (spec.taken_in part row.part taken) (map cell_of xs))
    c.as_slice.ensures.value in
    record {
      shapes =
          ap (λ xs. map read xs ++ spec.shapes_from (length xs) row.part later rows) c.in_ok-push.ensures.items
          ∙ ap (λ m. map read (old ++ begins ∷ []) ++ spec.shapes_from m row.part later rows)
          (length_push old begins)
          ∙ ap (λ xs. xs ++ spec.shapes_from (length old + 1) row.part later rows) (map_push read old begins)
          ∙ shapes_more (length old) part taken later row rows
          (map row_of (drop c.loop-row.row-index c.args.rows.now)) begins.items (map read old)
          (spec.shapes_of (map row_of c.args.rows.now)) here
          (c.in_ok-begins.ensures.begins ∙ ap (λ (s : spec.Shape). s.begins) shape)
          (c.in_ok-begins.ensures.taken ∙ ap (λ (s : spec.Shape). s.taken) shape) c.loop-row.invariant.shapes;
      count =
          ap (λ m. c.loop-row.count + m) (c.len-count.ensures ∙ begins.ok.0)
          ∙ ap (λ m. m + length begins.items) c.loop-row.invariant.count
          ∙ sym (total_push (map read old) begins.items)
          ∙ ap (λ xs. spec.total xs) (sym (map_push read old begins))
          ∙ ap (λ xs. spec.total (map read xs)) (sym c.in_ok-push.ensures.items);
      bound = c.if-count-most.false;
    }
