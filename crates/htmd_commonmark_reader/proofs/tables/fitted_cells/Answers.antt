-- A row that is cut, one more cell, and a row that is full.
use Rattle.std.proofs.Common.{◌∙◌, arith}
use Rattle.htmd_commonmark_reader.proofs.RowsLemmas.{fitted_start, fitted_pushed, fitted_end}
use Rattle.htmd_commonmark_reading.specs.Tables.{cells, fitted}
use Rattle.htmd_commonmark_reader.proofs.tables.fitted_cells.Goals as goal

pub loop-alloc-init : goal.loop-alloc-init
loop-alloc-init c =
    let start = fitted_start c.args.count c.in_ok-row.row.items c.truncate.new.self.items (cells c.args.text.now)
    c.truncate.ensures.items c.in_ok-row.ensures in
    record { within = start.0; same = start.1 }

pub loop-alloc-preserved : goal.loop-alloc-preserved
loop-alloc-preserved c =
    let more = fitted_pushed c.args.count c.loop-alloc.row.items c.push.new.self.items c.new.result
    c.in_ok-push.ensures.items c.new.ensures.bytes (omega (arith, c.loop-alloc-test.true, c.len.ensures)) in
    record { within = more.0; same = more.1 ∙ c.loop-alloc.invariant.same }

pub returns : goal.returns
returns c =
    fitted_end c.args.count c.loop-alloc.row.items (fitted c.args.count (cells c.args.text.now))
    c.loop-alloc.invariant.within (omega (arith, c.loop-alloc-test.false, c.len.ensures))
    c.loop-alloc.invariant.same
