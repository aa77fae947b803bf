-- One more row goes on with the part that is begun, or begins one.
use Rattle.std.proofs.Common.{◌≡◌, ◌+◌, ◌++◌, ◌∷◌, [], true, false, List, length, drop, map, take}
use Rattle.std.proofs.Common.{refl, sym, ap, ◌∙◌, arith}
use Rattle.std.specs.Prelude.{◌==◌}
use Rattle.std.proofs.lemmas.Bool.Decides.{nat_tests}
use Rattle.std.proofs.lemmas.Bool.{false≢true}
use Rattle.std.proofs.lemmas.List.{append_assoc, drop_all, length_push, map_push}
use Rattle.htmd_document.specs.Documents.{Inlines}
use Rattle.htmd_commonmark.proofs.TableLinesLemmas.{row_split}
use Rattle.htmd_commonmark.specs.BlockViews.{cells_of, rows_of}
use Rattle.htmd_chunks.specs.RowViews.{measured, run_cost, run_of, size_of}
use Rattle.htmd_chunks.specs.Rows.{cell_texts, rows_cost, table_parts}
use Rattle.htmd_chunks.specs.Runs.{runs_from}
use Rattle.htmd_chunks.proofs.RowPartsLemmas.{header-alone, row-more, cost-is, columns-are, none-counted, some-counted}
use Rattle.htmd_chunks.proofs.RowPartsLemmas.{rows-first, rows-fit, rows-begin}
use Rattle.htmd_chunks.proofs.RowsLemmas.{run_over}
use Rattle.htmd_chunks.proofs.rows.row_counts.Goals.{then-count-eq0, else-count-eq0+in_ok-cost}
use Rattle.htmd_chunks.proofs.rows.row_counts.Goals.{then-branch-free+in_ok-count}
use Rattle.htmd_chunks.proofs.rows.row_counts.Goals.{else-branch-free+in_ok-push+in_ok-run-2}
use Rattle.htmd_chunks.proofs.rows.row_counts.Goals as goal

pub loop-row-init : goal.loop-row-init
loop-row-init c =
    let header = cell_texts c.args.bounds.now.options (cells_of c.args.header.now) in
    record {
      begun = [];
      count = refl;
      run =
          header-alone header (size_of c.in_ok-header.header) (run_of c.in_ok-run.run')
          (c.in_ok-header.ensures
          ∙ ap (λ n. measured (take n header)) (columns-are c.args.bounds.now.options c.args.header.now))
          c.in_ok-run.ensures;
      rest =
          ap (λ l. l ++ map (λ rows. length rows) (table_parts c.args.bounds.now c.args.margin c.args.first
          c.args.alignments.now (cells_of c.args.header.now) (rows_of c.args.rows.now))) c.new-counts.ensures.items;
    }

pub loop-row-preserved : goal.loop-row-preserved
loop-row-preserved c =
    let options = c.args.bounds.now.options in
    let most = c.args.bounds.now.most in
    let m = c.args.margin in
    let alignments = c.args.alignments.now in
    let head = cells_of c.args.header.now in
    let header = cell_texts options head in
    let texts = cell_texts options in
    let taken = rows_cost options m alignments head in
    let columns = columns-are options c.args.header.now in
    let rows = c.args.rows.now in
    let i = c.loop-row.row-index in
    let row = c.row-item.result in
    let x = cells_of row.items in
    let rest = rows_of (drop i rows) in
    let further = rows_of (drop (i + 1) rows) in
    let split = row_split rows i row c.loop-row-test.true c.row-item.is in
    let was = c.loop-row.invariant in
    let begun : List (List Inlines) = was.begun in
    let counts = c.loop-row.counts.items in
    let free = c.loop-row.free in
    let size : size_of c.in_ok-row.row ≡ measured (take (length header) (texts x)) =
    c.in_ok-row.ensures
    ∙ ap (λ n. measured (take n (texts (cells_of c.deref.result.now)))) columns
    ∙ ap (λ l. measured (take (length header) (texts (cells_of l)))) c.deref.ensures.value in
    let longer : run_of c.in_ok-longer.longer ≡ run_over header (map texts (begun ++ x ∷ [])) =
    row-more header (map texts begun) (texts x) (size_of c.in_ok-row.row) (run_of c.loop-row.run)
    (run_of c.in_ok-longer.longer) was.run size c.in_ok-longer.ensures
    ∙ ap (run_over header) (sym (map_push texts begun x)) in
    let cost : run_cost m (length alignments) (run_of c.in_ok-longer.longer) ≡ taken (begun ++ x ∷ []) =
    ap (run_cost m (length alignments)) longer ∙ cost-is options m alignments head (begun ++ x ∷ []) in
    let lengths = λ (parts : List (List (List Inlines))). map (λ rows. length rows) parts in
    elim c.if-branch-free.branch [
      | then-branch-free+in_ok-count w ↦
          let joined = elim c.if-count-eq0.branch
          as (λ _. runs_from taken most free begun rest ≡ runs_from taken most free (begun ++ x ∷ []) further) [
            | then-count-eq0 v ↦
                rows-first taken most free begun rest x further split
                (none-counted begun c.loop-row.count was.count v.if-count-eq0.true)
            | else-count-eq0+in_ok-cost v ↦
                rows-fit taken most free begun rest x further v.in_ok-cost.field-0 split
                (v.in_ok-cost.ensures ∙ cost) (sym v.value-is ∙ w.if-branch-free.true)
          ] in
          record {
            begun = begun ++ x ∷ [];
            count =
                w.count-is ∙ w.in_ok-count.ensures ∙ ap (λ n. n + 1) was.count ∙ sym (length_push begun x);
            run = ap run_of w.run-is ∙ longer;
            rest =
                ap (λ v. v.items ++ lengths (runs_from taken most c.if-branch-free.free (begun ++ x ∷ []) further))
                w.counts-is
                ∙ ap (λ k. counts ++ lengths (runs_from taken most k (begun ++ x ∷ []) further)) w.free-is
                ∙ ap (λ l. counts ++ lengths l) (sym joined) ∙ was.rest;
          }
      | else-branch-free+in_ok-push+in_ok-run-2 w ↦
          let ended = elim c.if-count-eq0.branch
          as (λ _. runs_from taken most free begun rest ≡ begun ∷ runs_from taken most most (x ∷ []) further) [
            | then-count-eq0 v ↦
                let none : (c.loop-row.count == 0) ≡ true = grind (arith, nat_tests) in
                absurd (false≢true (sym w.if-branch-free.false ∙ v.value-is ∙ none))
            | else-count-eq0+in_ok-cost v ↦
                rows-begin taken most free begun rest x further v.in_ok-cost.field-0 split
                (some-counted begun c.loop-row.count was.count (omega arith)) (v.in_ok-cost.ensures ∙ cost)
                (sym v.value-is ∙ w.if-branch-free.false)
          ] in
          let alone = header-alone header (size_of c.in_ok-header.header) (run_of c.in_ok-none.none)
          (c.in_ok-header.ensures ∙ ap (λ n. measured (take n header)) columns) c.in_ok-none.ensures in
          let apart = lengths (runs_from taken most most (x ∷ []) further) in
          record {
            begun = x ∷ [];
            count = w.count-is;
            run =
                ap run_of w.run-is
                ∙ row-more header [] (texts x) (size_of c.in_ok-row.row) (run_of c.in_ok-none.none)
                (run_of w.in_ok-run-2.run') alone size w.in_ok-run-2.ensures;
            rest =
                ap (λ v. v.items ++ lengths (runs_from taken most c.if-branch-free.free (x ∷ []) further))
                w.counts-is
                ∙ ap (λ l. l ++ lengths (runs_from taken most c.if-branch-free.free (x ∷ []) further))
                w.in_ok-push.ensures.items
                ∙ ap (λ k. (counts ++ c.loop-row.count ∷ [])
                ++ lengths (runs_from taken most k (x ∷ []) further))
                w.free-is
                ∙ append_assoc counts (c.loop-row.count ∷ []) apart
                ∙ ap (λ n. counts ++ n ∷ apart) was.count
                ∙ ap (λ l. counts ++ lengths l) (sym ended) ∙ was.rest;
          }
    ]

pub returns : goal.returns
returns c =
    let was = c.loop-row.invariant in
    let head = cells_of c.args.header.now in
    let taken = rows_cost c.args.bounds.now.options c.args.margin c.args.alignments.now head in
    let counts = c.loop-row.counts.items in
    let none = drop_all c.loop-row.row-index c.args.rows.now c.loop-row-test.false in
    c.in_ok-push-2.ensures.items
    ∙ ap (λ n. counts ++ n ∷ []) was.count
    ∙ ap (λ l. counts ++ map (λ rows. length rows)
    (runs_from taken c.args.bounds.now.most c.loop-row.free was.begun (rows_of l))) (sym none)
    ∙ was.rest
