-- One more part.
use Rattle.std.proofs.Common.{◌≡◌, ◌<◌, [], length, get_or, drop, map, take, sym, ap, ◌∙◌, arith}
use Rattle.std.specs.Vec.Iter.{into_iter_items}
use Rattle.std.proofs.lemmas.List.{drop-map, get_or-map, length-map, take_all, take-map}
use Rattle.htmd_document.specs.Documents as value
use Rattle.htmd_document.specs.DocumentViews.{block_of}
use Rattle.htmd_commonmark.specs.BlockViews.{cells_of, rows_of}
use Rattle.htmd_chunks.specs.Rows.{rows_cost, table_parts}
use Rattle.htmd_chunks.proofs.CountsLemmas.{part_next}
use Rattle.htmd_chunks.proofs.RowPartsLemmas.{cells_in}
use Rattle.htmd_chunks.proofs.RunsLemmas.{runs-together}
use Rattle.htmd_chunks.proofs.LeavesLemmas.{block-table, part-pushed}
use Rattle.htmd_chunks.proofs.rows.table_parts.Goals as goal

pub loop-count-init : goal.loop-count-init
loop-count-init c =
    let head = cells_of c.args.header.items in
    let rows = rows_of c.args.rows.items in
    record {
      parts = ap (map block_of) c.in_ok-parts.ensures.items;
      rest =
          ap rows_of c.into_iter-rows.ensures.rest
          ∙ sym (runs-together (rows_cost c.args.bounds.now.options c.args.margin c.args.alignments.items head)
          c.args.bounds.now.most c.args.first rows);
    }

pub loop-count-preserved : goal.loop-count-preserved
loop-count-preserved c =
    let bounds = c.args.bounds.now in
    let m = c.args.margin in
    let first = c.args.first in
    let alignments = c.args.alignments.items in
    let head = cells_of c.args.header.items in
    let all = table_parts bounds m first alignments head (rows_of c.args.rows.items) in
    let i = c.loop-count.count-index in
    let was = c.loop-count.invariant in
    let lengths : c.in_ok-counts.counts.items ≡ map (λ rows. length rows) all =
    c.in_ok-counts.ensures
    ∙ ap (λ l. map (λ rows. length rows) (table_parts bounds m first l (cells_of c.deref-2.result.now)
    (rows_of c.deref-3.result.now))) c.deref.ensures.value
    ∙ ap (λ l. map (λ rows. length rows) (table_parts bounds m first alignments (cells_of l)
    (rows_of c.deref-3.result.now))) c.deref-2.ensures.value
    ∙ ap (λ l. map (λ rows. length rows) (table_parts bounds m first alignments head (rows_of l)))
    c.deref-3.ensures.value in
    let items = c.deref-count-items.ensures.value ∙ lengths in
    let size = ap (λ l. length l) items ∙ length-map all (λ rows. length rows) in
    let within : i < length all = omega (arith, c.loop-count-test.true, size) in
    let part = get_or all i [] in
    let count : get_or c.deref-count-items.result.now i 0 ≡ length part =
    ap (λ l. get_or l i 0) items ∙ get_or-map (λ rows. length rows) all i [] 0 within in
    let old = into_iter_items c.loop-count.rows in
    let next = part_next all i (rows_of old) within was.rest in
    let rows : rows_of c.in_ok-next_rows.field-0.items ≡ part =
    ap rows_of c.in_ok-next_rows.ensures.part
    ∙ sym (take-map cells_in (get_or c.deref-count-items.result.now i 0) old)
    ∙ ap (λ n. take n (rows_of old)) count ∙ next.0 in
    let table = block-table c.in_ok-from_slice.field-0 c.in_ok-copied_cells.field-0 c.in_ok-next_rows.field-0
    ∙ ap (λ l. value.table l (cells_of c.in_ok-copied_cells.field-0.items) (rows_of c.in_ok-next_rows.field-0.items))
    (c.in_ok-from_slice.ensures.items ∙ c.deref-in-loop-count.ensures.value)
    ∙ ap (λ l. value.table alignments l (rows_of c.in_ok-next_rows.field-0.items))
    (c.in_ok-copied_cells.ensures ∙ ap cells_of c.deref-in-loop-count-2.ensures.value)
    ∙ ap (value.table alignments head) rows in
    record {
      parts =
          part-pushed (value.table alignments head) all i [] c.loop-count.parts.items c.push.new.self.items _ within
          c.in_ok-push.ensures.items table was.parts;
      rest =
          ap rows_of c.in_ok-next_rows.ensures.rows
          ∙ sym (drop-map cells_in (get_or c.deref-count-items.result.now i 0) old)
          ∙ ap (λ n. drop n (rows_of old)) count ∙ next.1;
    }

pub returns : goal.returns
returns c =
    let bounds = c.args.bounds.now in
    let m = c.args.margin in
    let first = c.args.first in
    let alignments = c.args.alignments.items in
    let head = cells_of c.args.header.items in
    let all = table_parts bounds m first alignments head (rows_of c.args.rows.items) in
    let lengths : c.in_ok-counts.counts.items ≡ map (λ rows. length rows) all =
    c.in_ok-counts.ensures
    ∙ ap (λ l. map (λ rows. length rows) (table_parts bounds m first l (cells_of c.deref-2.result.now)
    (rows_of c.deref-3.result.now))) c.deref.ensures.value
    ∙ ap (λ l. map (λ rows. length rows) (table_parts bounds m first alignments (cells_of l)
    (rows_of c.deref-3.result.now))) c.deref-2.ensures.value
    ∙ ap (λ l. map (λ rows. length rows) (table_parts bounds m first alignments head (rows_of l)))
    c.deref-3.ensures.value in
    let size = ap (λ l. length l) (c.deref-count-items.ensures.value ∙ lengths)
    ∙ length-map all (λ rows. length rows) in
    c.loop-count.invariant.parts
    ∙ ap (map (value.table alignments head))
    (take_all c.loop-count.count-index all (omega (arith, c.loop-count-test.false, size)))
