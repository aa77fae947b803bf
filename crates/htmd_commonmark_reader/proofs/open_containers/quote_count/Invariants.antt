-- Those that were counted, and those behind them.
use Rattle.std.proofs.Common.{◌≡◌, ◌+◌, map, drop}
use Rattle.htmd_commonmark_reader.specs.ClosedParts.{kind_of}
use Rattle.htmd_commonmark_reader.specs.Quotes.{quote_count}
use Rattle.htmd_commonmark_reader.proofs.open_containers.quote_count.Given as goal

abbrev pub invariant-loop-kind : goal.invariant-loop-kind
invariant-loop-kind l =
    l.count + quote_count (map kind_of (drop l.kind-index l.kinds)) ≡ quote_count (map kind_of l.kinds)
