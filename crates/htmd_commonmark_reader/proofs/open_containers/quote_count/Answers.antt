-- One container more.
use Rattle.std.proofs.Common.{arith}
use Rattle.htmd_commonmark_reader.proofs.QuotesLemmas.{quotes_counted}
use Rattle.htmd_commonmark_reader.proofs.open_containers.quote_count.Goals as goal

pub overflow_add-count : goal.overflow_add-count
overflow_add-count c =
    let l = c.loop-kind in
    let more = quotes_counted c.args.kinds.now _ l.kind-index c.quotes-count.result (omega arith)
    c.quotes-count.ensures l.count l.invariant in
    omega (arith, more.0)

pub loop-kind-preserved : goal.loop-kind-preserved
loop-kind-preserved c =
    let l = c.loop-kind in
    (quotes_counted c.args.kinds.now _ l.kind-index c.quotes-count.result (omega arith) c.quotes-count.ensures
    l.count l.invariant).1
