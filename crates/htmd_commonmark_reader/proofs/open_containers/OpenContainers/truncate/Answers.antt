-- The quotes that end are no longer counted.
use Rattle.std.proofs.Common.{◌≡◌, ◌∙◌, map, length, drop, ap, arith, rules}
use Rattle.std.proofs.lemmas.Slice.{between_to_end}
use Rattle.htmd_commonmark_reader.specs.ClosedParts.{kind_of}
use Rattle.htmd_commonmark_reader.specs.Quotes.{quote_count}
use Rattle.htmd_commonmark_reader.proofs.QuotesLemmas.{quotes_split}
use Rattle.htmd_commonmark_reader.proofs.open_containers.OpenContainers.truncate.Goals as goal

pub overflow_sub-self : goal.overflow_sub-self
overflow_sub-self c =
    let o = c.args.self.now in
    let ks = c.deref.result.now in
    let same : ks ≡ o.kinds.items = search rules in
    let ended = c.quote_count.ensures
    ∙ ap (λ l. quote_count (map kind_of l))
    (between_to_end ks c.args.depth (length ks) (omega arith) ∙ ap (drop c.args.depth) same) in
    omega (arith, ended, o.counted, quotes_split c.args.depth o.kinds.items)

pub invariant_of-self : goal.invariant_of-self
invariant_of-self c =
    let o = c.args.self.now in
    let ks = c.deref.result.now in
    let same : ks ≡ o.kinds.items = search rules in
    let ended = c.quote_count.ensures
    ∙ ap (λ l. quote_count (map kind_of l))
    (between_to_end ks c.args.depth (length ks) (omega arith) ∙ ap (drop c.args.depth) same) in
    let kept = ap (λ l. quote_count (map kind_of l)) c.truncate.ensures.items in
    record { counted = omega (arith, ended, o.counted, quotes_split c.args.depth o.kinds.items, kept) }
