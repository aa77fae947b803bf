use Rattle.std.proofs.Common.{◌≡◌, ◌∙◌, ap, ◌≤◌, ◌+◌, ◌++◌, ℕ, List, length, map, take, drop, replicate, nat_lt, arith}
use Rattle.std.proofs.Common.{rules}
use Rattle.std.specs.List.{prefix_len}
use Rattle.std.proofs.lemmas.List.{take_rest}
use Rattle.htmd_flow.specs.GridViews.{cell_of}
use Rattle.htmd_flow.specs.Grids as spec
use Rattle.htmd_flow.proofs.GridsLemmas.{cells_at, lay_within, lay_begins, lay_taken}
use Rattle.htmd_flow.proofs.grid.lay.Goals as goal

pub take_columns-requires-clause-bound : goal.take_columns-requires-clause-bound
take_columns-requires-clause-bound c =
    let within : c.loop-cell.column + c.taken_len-kept.result ≤ length c.loop-cell.taken.items = search rules in
    let small = c.loop-cell.taken.small in
    let exact = c.loop-cell.taken.ok in
    omega arith

pub loop-cell-preserved : goal.loop-cell-preserved
loop-cell-preserved c =
    let n : ℕ = c.args.row in
    let at : ℕ = c.loop-cell.column in
    let kept : ℕ = c.taken_len-kept.result in
    let columns : ℕ = c.columns_before-columns.result in
    let taken : List ℕ = c.loop-cell.taken.items in
    let later : List ℕ = c.take_columns.new.taken.items in
    let cell : spec.Cell = cell_of c.cell-item.result in
    let cells : List spec.Cell = map cell_of (drop (c.loop-cell.cell-index + 1) c.args.cells.now) in
    let here =
    cells_at c.args.cells.now c.loop-cell.cell-index c.cell-item.result c.loop-cell-test.true c.cell-item.is in
    let within : at + kept ≤ length taken = search rules in
    let before : kept ≡ prefix_len (nat_lt n) (drop at taken) =
    c.taken_len-kept.ensures.value
    ∙ ap (λ xs. prefix_len (nat_lt n) xs)
    (take_rest c.deref.result.now at ∙ ap (λ (xs : List ℕ). drop at xs) c.deref.ensures.value) in
    let wide : columns ≡ spec.columns_before (drop (at + kept) taken) n cell.columns =
    c.columns_before-columns.ensures.value
    ∙ ap (λ xs. spec.columns_before xs n cell.columns)
    (take_rest c.deref-in-loop-cell.result.now (at + kept)
    ∙ ap (λ (xs : List ℕ). drop (at + kept) xs) c.deref-in-loop-cell.ensures.value) in
    let new : later
    ≡ take (at + kept) taken
    ++ (replicate columns (spec.end_of n cell.rows) ++ drop ((at + kept) + columns) taken) = search rules in
    record {
      within = lay_within n at kept columns taken later cell cells within before wide new;
      begins =
          lay_begins n at kept columns taken later cell cells within before wide new c.loop-cell.begins.items
          c.push_cell.new.begins.items (spec.laid n c.args.taken.now.items (map cell_of c.args.cells.now)).begins
          (map cell_of (drop c.loop-cell.cell-index c.args.cells.now)) here (search rules) c.loop-cell.invariant.begins;
      taken =
          lay_taken n at kept columns taken later cell cells within before wide new
          (spec.laid n c.args.taken.now.items (map cell_of c.args.cells.now)).taken
          (map cell_of (drop c.loop-cell.cell-index c.args.cells.now)) here
          c.loop-cell.invariant.taken;
    }
